use Rattle.std.specs.Prelude.{None}
use Rattle.std.proofs.Common.{◌≡◌, [], ◌∷◌, ap, sym, ◌∙◌}
use Rattle.std.specs.Prelude.{Some, Ok}
use Rattle.std.proofs.lemmas.List.{length-set}
use Rattle.shown.specs.Drafts.{with_members}
use Rattle.shown.proofs.Drafts.{object_ended}
use Rattle.frame_shown.specs.Items.{number_in, shown_as}
use Rattle.frame_shown.specs.Frames.{frame_item}
use Rattle.frame_shown.proofs.Steps.{left_over, earlier_over}
use Rattle.frame_shown.proofs.Steps.{one_left, lessened, earlier_next, not_earlier}
use Rattle.frame_shown.proofs.list.repeated.show_earlier.Goals as goal

pub overflow_sub-left : goal.overflow_sub-left
overflow_sub-left g c =
    let here : c.loop-item.item-iterator ≡ Ok c.in-Ok.frame ∷ c.next.new.self = rw c.in-Ok.is at
    c.in-Some.ensures.steps in
    let m = c.in-Some-number_in.number in
    let is : number_in (frame_item (g.D.Depth.nest c.args.cx.now) c.args.cx.now c.args.list.now c.in-Ok.frame)
    ≡ Some m =
    sym c.number_in.ensures.value ∙ c.in-Some-number_in.is in
    one_left (g.D.Depth.nest c.args.cx.now) c.args.cx.now c.args.list.now c.in-Ok.frame c.loop-item.item-iterator
    c.next.new.self here c.loop-item.left m c.in-Some-number_in.ensures.small is c.loop-item.invariant.told

pub loop-item-preserved-in-Continue-branch-3 : goal.loop-item-preserved-in-Continue-branch-3
loop-item-preserved-in-Continue-branch-3 g c =
    let here : c.loop-item.item-iterator ≡ Ok c.in-Ok.frame ∷ c.next.new.self = rw c.in-Ok.is at
    c.in-Some.ensures.steps in
    let m = c.in-Some-number_in.number in
    let is : number_in (frame_item (g.D.Depth.nest c.args.cx.now) c.args.cx.now c.args.list.now c.in-Ok.frame)
    ≡ Some m =
    sym c.number_in.ensures.value ∙ c.in-Some-number_in.is in
    let left = lessened (g.D.Depth.nest c.args.cx.now) c.args.cx.now c.args.list.now c.in-Ok.frame
    c.loop-item.item-iterator c.next.new.self here c.loop-item.left m c.loop-item.invariant.size
    c.in-Some-number_in.ensures.small is c.loop-item.invariant.told m c.in-Some-number_in.ensures.small in
    let x = frame_item (g.D.Depth.nest c.args.cx.now) c.args.cx.now c.args.list.now c.in-Ok.frame in
    record {
      size = length-set c.loop-item.left m _ ∙ c.loop-item.invariant.size;
      told = lessened (g.D.Depth.nest c.args.cx.now) c.args.cx.now c.args.list.now c.in-Ok.frame
          c.loop-item.item-iterator c.next.new.self here c.loop-item.left m c.loop-item.invariant.size
          c.in-Some-number_in.ensures.small is c.loop-item.invariant.told;
      shown = earlier_next (g.D.Depth.nest c.args.cx.now) c.args.cx.now c.args.list.now c.in-Ok.frame
          c.loop-item.item-iterator c.next.new.self here m c.loop-item.page _ _ is (λ h. c.if-left-number-ne0.true
          (left ∙ h))
          c.loop-item.invariant.shown
          (object_ended [] (shown_as x) c.loop-item.page _ _
          (c.in_ok-show_frame.ensures.shown ∙ ap (with_members (shown_as x)) c.in_ok-begin.ensures)
          c.in_ok-end.ensures);
    }

pub loop-item-preserved-else-left-number-ne0 : goal.loop-item-preserved-else-left-number-ne0
loop-item-preserved-else-left-number-ne0 g c =
    let here : c.loop-item.item-iterator ≡ Ok c.in-Ok.frame ∷ c.next.new.self = rw c.in-Ok.is at
    c.in-Some.ensures.steps in
    let m = c.in-Some-number_in.number in
    let is : number_in (frame_item (g.D.Depth.nest c.args.cx.now) c.args.cx.now c.args.list.now c.in-Ok.frame)
    ≡ Some m =
    sym c.number_in.ensures.value ∙ c.in-Some-number_in.is in
    let left = lessened (g.D.Depth.nest c.args.cx.now) c.args.cx.now c.args.list.now c.in-Ok.frame
    c.loop-item.item-iterator c.next.new.self here c.loop-item.left m c.loop-item.invariant.size
    c.in-Some-number_in.ensures.small is c.loop-item.invariant.told m c.in-Some-number_in.ensures.small in
    record {
      size = length-set c.loop-item.left m _ ∙ c.loop-item.invariant.size;
      told = lessened (g.D.Depth.nest c.args.cx.now) c.args.cx.now c.args.list.now c.in-Ok.frame
          c.loop-item.item-iterator c.next.new.self here c.loop-item.left m c.loop-item.invariant.size
          c.in-Some-number_in.ensures.small is c.loop-item.invariant.told;
      shown = not_earlier (g.D.Depth.nest c.args.cx.now) c.args.cx.now c.args.list.now c.in-Ok.frame
          c.loop-item.item-iterator c.next.new.self here m c.loop-item.page _ is (sym left ∙
          c.if-left-number-ne0.false)
          c.loop-item.invariant.shown;
    }

pub loop-item-preserved : goal.loop-item-preserved
loop-item-preserved g c =
    let here : c.loop-item.item-iterator ≡ Ok c.in-Ok.frame ∷ c.next.new.self = rw c.in-Ok.is at
    c.in-Some.ensures.steps in
    let is : number_in (frame_item (g.D.Depth.nest c.args.cx.now) c.args.cx.now c.args.list.now c.in-Ok.frame) ≡ None =
    sym c.number_in.ensures.value ∙ c.in_default-number_in.is in
    record {
      size = c.loop-item.invariant.size;
      told = left_over (g.D.Depth.nest c.args.cx.now) c.args.cx.now c.args.list.now c.in-Ok.frame
          c.loop-item.item-iterator c.next.new.self here c.loop-item.left is c.loop-item.invariant.told;
      shown = earlier_over (g.D.Depth.nest c.args.cx.now) c.args.cx.now c.args.list.now c.in-Ok.frame
          c.loop-item.item-iterator c.next.new.self here c.loop-item.page _ is c.loop-item.invariant.shown;
    }
