use Rattle.std.proofs.Common.{◌≡◌, List, ℕ, false, refl, sym, ap, ◌∙◌, subst}
use Rattle.std.specs.Prelude.{codes, is_some, true}
use Rattle.std.specs.Option.{option_copied}
use Rattle.std.proofs.lemmas.Result.{on_ok_weaker}
use Rattle.message_diff.specs.Alone.{AddsAlone}
use Rattle.message_diff.specs.Files.{Missing, known_at, tells}
use Rattle.message_diff.proofs.Beside.{copied_some, told_went}
use Rattle.message_diff.proofs.files.went.push_left.Goals as goal

pub returns-then-tells : goal.returns-then-tells
returns-then-tells c =
    let w = c.args.written.now in
    let was = c.in-Some.was.now in
    let key = c.args.key in
    let host = option_copied c.args.new.host in
    let missing : Missing = record { is_new = true; family = key.family; host = c.args.new.name.now } in
    let none : is_some (known_at host key) ≡ false =
    ap is_some (sym c.known.ensures) ∙ copied_some c.known.result ∙ sym c.is_some.ensures ∙ c.if-is_some.false in
    on_ok_weaker c.push_gone.result
    (λ went. told_went (tells c.args.new.has_dumps host key.family) missing c.args.known.now.last (known_at host key)
    was w (record w { out = c.push_gone.new.out }) c.in-Some.ensures.value none c.if-tells.ensures
    (subst (λ (front : List ℕ). AddsAlone front (codes "gone") was.snapshot.text w.out.items c.push_gone.new.out.items)
    c.words.ensures went) refl)
    c.push_gone.ensures
