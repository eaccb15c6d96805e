use Rattle.std.proofs.Common.{◌≡◌, [], ◌∷◌, ◌+◌, ◌-◌, ◌++◌, ◌∙◌, arith, length, sym, ap, true, false, set}
use Rattle.std.specs.Prelude.{vec_len}
use Rattle.std.proofs.lemmas.List.{set-get_or}
use Rattle.link_vlans.specs.Pieces.{goes_on, is_said_too}
use Rattle.link_vlans.proofs.Cuts.{begins, begins_first, goes_further, said_already, piece_at}
use Rattle.link_vlans.proofs.pieces.add_piece.Goals.{in-Some+else-goes_on, in_default}
use Rattle.link_vlans.proofs.pieces.add_piece.Goals as goal

pub returns-then-is_said_too : goal.returns-then-is_said_too
returns-then-is_said_too c = said_already c.args.pieces.now.items c.args.own c.args.beside cc

pub returns-then-goes_on : goal.returns-then-goes_on
returns-then-goes_on c =
    let p = c.in-Some.before.now in
    let items = c.args.pieces.now.items in
    let i = vec_len c.args.pieces.now - 1 in
    let e : i + 1 ≡ length items = omega (arith, c.in-Some.ensures.item) in
    let is : is_said_too c.args.own.said c.args.beside ≡ false = cc in
    let on : goes_on p c.args.own c.args.beside ≡ true = cc in
    goes_further items i p p c.args.own c.args.beside e (sym c.in-Some.ensures.value) is on

pub returns : goal.returns
returns c =
    let is : is_said_too c.args.own.said c.args.beside ≡ false = cc in
    elim c.match-last_mut.branch [
      | in-Some+else-goes_on w ↦
          let p = w.in-Some.before.now in
          let items = c.args.pieces.now.items in
          let i = vec_len c.args.pieces.now - 1 in
          let e : i + 1 ≡ length items = omega (arith, w.in-Some.ensures.item) in
          let on : goes_on p c.args.own c.args.beside ≡ false = cc in
          c.in_ok-push.ensures.items
          ∙ ap (λ v. v.items ++ piece_at c.args.own c.args.beside ∷ []) w.pieces-is
          ∙ ap (λ x. set items i x ++ piece_at c.args.own c.args.beside ∷ []) w.in-Some.ensures.value
          ∙ ap (λ ps. ps ++ piece_at c.args.own c.args.beside ∷ []) (set-get_or items i p)
          ∙ begins items i p p c.args.own c.args.beside e (sym w.in-Some.ensures.value) is on
      | in_default w ↦
          c.in_ok-push.ensures.items
          ∙ ap (λ v. v.items ++ piece_at c.args.own c.args.beside ∷ []) w.pieces-is
          ∙ begins_first c.args.pieces.now.items c.args.own c.args.beside (omega (arith, w.in_default.ensures.item)) is
    ]
