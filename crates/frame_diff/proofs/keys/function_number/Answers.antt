use Rattle.std.proofs.Common.{◌≡◌, ◌∷◌, ◌∙◌, Ok, ap, rules, sym, true, false}
use Rattle.std.specs.Prelude.{Some, ◌==◌}
use Rattle.std.specs.Int.{w32}
use Rattle.std.specs.List.{list_any}
use Rattle.nla_wire.specs.Fields.{number_at}
use Rattle.nla_wire.specs.Frames.{number}
use Rattle.nla_wire.specs.Items.{items}
use Rattle.link_info.specs.Tables.{frames_in}
use Rattle.frame_shown.specs.Tables.{row_in}
use Rattle.frame_diff.specs.Keys.{function_in, is_record}
use Rattle.frame_diff.proofs.Labelled.{function_now, not_once, not_record}
use Rattle.frame_diff.proofs.keys.function_number.Goals.{else-is_record-via-then-is_record+else-not-comes_again}
use Rattle.frame_diff.proofs.keys.function_number.Goals.{else-is_record-via-else-is_record}
use Rattle.frame_diff.proofs.keys.function_number.Goals as goal

pub returns-then-not-comes_again : goal.returns-then-not-comes_again
returns-then-not-comes_again c =
    let cx = c.args.entry.around.now in
    let list = c.args.entry.list in
    let f = c.in-Ok.frame in
    let here : c.loop-item.item-iterator ≡ Ok f ∷ c.next.new.self = rw c.in-Ok.is at c.in-Some.ensures.steps in
    let left : items c.behind-rest.result.now ≡ c.next.new.self =
    c.behind-rest.ensures c.next.new.self (c.loop-item.invariant.left ∙ here) in
    let shown : is_record (row_in cx list (number f)).1 ≡ true =
    ap (λ n. is_record (row_in cx list n).1) (sym c.kind.ensures) ∙ sym c.is_record.ensures ∙ c.if-is_record.true in
    let once : list_any (λ g. number g == number f) (frames_in c.next.new.self) ≡ false =
    (λ k. list_any (λ g. number g == sym c.kind-then-is_record.ensures k) (frames_in (sym left k)))
    ∙ sym c.comes_again.ensures ∙ c.if-not-comes_again.true in
    let said : c.into.result ≡ number_at w32 f.payload 0 = search rules in
    ap Some said ∙ function_now cx list f (frames_in c.next.new.self) shown once
    ∙ sym (ap (λ xs. function_in cx list (frames_in xs)) here) ∙ c.loop-item.invariant.same

pub loop-item-preserved : goal.loop-item-preserved
loop-item-preserved c =
    let cx = c.args.entry.around.now in
    let list = c.args.entry.list in
    let f = c.in-Ok.frame in
    let here : c.loop-item.item-iterator ≡ Ok f ∷ c.next.new.self = rw c.in-Ok.is at c.in-Some.ensures.steps in
    let left : items c.behind-rest.result.now ≡ c.next.new.self =
    c.behind-rest.ensures c.next.new.self (c.loop-item.invariant.left ∙ here) in
    let on : function_in cx list (frames_in c.next.new.self) ≡ function_in cx list (f ∷ frames_in c.next.new.self) =
    elim c.else-is_record.branch [
      | else-is_record-via-then-is_record+else-not-comes_again w ↦
          not_once cx list f (frames_in c.next.new.self)
          ((λ k. list_any (λ g. number g == sym w.kind-then-is_record.ensures k) (frames_in (sym left k)))
          ∙ sym w.comes_again.ensures ∙ w.if-not-comes_again.false)
      | else-is_record-via-else-is_record w ↦
          not_record cx list f (frames_in c.next.new.self)
          (ap (λ n. is_record (row_in cx list n).1) (sym c.kind.ensures) ∙ sym c.is_record.ensures
          ∙ w.if-is_record.false)
    ] in
    record {
      left = left;
      same = on ∙ sym (ap (λ xs. function_in cx list (frames_in xs)) here) ∙ c.loop-item.invariant.same;
    }
