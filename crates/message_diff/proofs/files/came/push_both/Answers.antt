use Rattle.std.proofs.Common.{List, ℕ, refl, subst}
use Rattle.std.specs.Prelude.{codes}
use Rattle.std.proofs.lemmas.Result.{on_ok_weaker}
use Rattle.message_diff.specs.Alone.{AddsAlone}
use Rattle.message_diff.specs.Files.{words_told}
use Rattle.message_diff.specs.Changed.{AddsChanged}
use Rattle.message_diff.proofs.Beside.{changed_told, replaced_told}
use Rattle.message_diff.proofs.files.came.push_both.Goals as goal

pub returns-then-is_replaced : goal.returns-then-is_replaced
returns-then-is_replaced c =
    let w = c.args.written.now in
    let was = c.args.was.now in
    let is = c.args.is.now in
    let mid = c.push_gone.new.out.items in
    on_ok_weaker c.push_new.result
    (λ new. replaced_told c.args.by (words_told was) was.snapshot (words_told is) is.snapshot w
    (record w { out = c.push_new.new.out }) mid c.args.is_replaced c.if-is_replaced.true
    (subst (λ (front : List ℕ). AddsAlone front (codes "gone") was.snapshot.text w.out.items mid)
    c.words.ensures c.in_ok-push_gone.ensures)
    (subst (λ (front : List ℕ). AddsAlone front (codes "new") is.snapshot.text mid c.push_new.new.out.items)
    c.words-front.ensures new) refl)
    c.push_new.ensures

pub returns : goal.returns
returns c =
    let w = c.args.written.now in
    let was = c.args.was.now in
    let is = c.args.is.now in
    changed_told c.args.by (words_told was) (words_told is) was.snapshot is.snapshot w
    (record w { desk = c.push_changed.new.desk; out = c.push_changed.new.out }) c.args.is_replaced
    c.in_ok-push_changed.field-0 c.if-is_replaced.false c.in_ok-push_changed.ensures.told
    c.in_ok-push_changed.ensures.silent
    (λ yes. subst (λ (front : List ℕ). AddsChanged c.args.by front was.snapshot is.snapshot w.out.items
    c.push_changed.new.out.items)
    c.words-front.ensures (c.in_ok-push_changed.ensures.line yes)) refl
