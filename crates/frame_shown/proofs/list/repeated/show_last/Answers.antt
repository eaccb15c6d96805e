use Rattle.std.specs.Prelude.{None}
use Rattle.std.proofs.Common.{◌≡◌, ◌∷◌, sym, ◌∙◌}
use Rattle.std.specs.Prelude.{Some, Ok}
use Rattle.std.proofs.lemmas.List.{length-set}
use Rattle.frame_shown.specs.Items.{number_in}
use Rattle.frame_shown.specs.Frames.{frame_item}
use Rattle.frame_shown.proofs.Steps.{left_over, last_over}
use Rattle.frame_shown.proofs.Steps.{one_left, lessened, last_next, last_not_yet}
use Rattle.frame_shown.proofs.list.repeated.show_last.Goals as goal

pub overflow_sub-left : goal.overflow_sub-left
overflow_sub-left g c =
    let here : c.loop-item.item-iterator ≡ Ok c.in-Ok.frame ∷ c.next.new.self = rw c.in-Ok.is at
    c.in-Some.ensures.steps in
    let m = c.in-Some-number_in.number in
    let is : number_in (frame_item (g.D.Depth.nest c.args.cx.now) c.args.cx.now c.args.list.now c.in-Ok.frame)
    ≡ Some m =
    sym c.number_in.ensures.value ∙ c.in-Some-number_in.is in
    one_left (g.D.Depth.nest c.args.cx.now) c.args.cx.now c.args.list.now c.in-Ok.frame c.loop-item.item-iterator
    c.next.new.self here c.loop-item.left m c.in-Some-number_in.ensures.small is c.loop-item.invariant.told

pub loop-item-preserved-in_ok-show_frame : goal.loop-item-preserved-in_ok-show_frame
loop-item-preserved-in_ok-show_frame g c =
    let here : c.loop-item.item-iterator ≡ Ok c.in-Ok.frame ∷ c.next.new.self = rw c.in-Ok.is at
    c.in-Some.ensures.steps in
    let m = c.in-Some-number_in.number in
    let is : number_in (frame_item (g.D.Depth.nest c.args.cx.now) c.args.cx.now c.args.list.now c.in-Ok.frame)
    ≡ Some m =
    sym c.number_in.ensures.value ∙ c.in-Some-number_in.is in
    let left = lessened (g.D.Depth.nest c.args.cx.now) c.args.cx.now c.args.list.now c.in-Ok.frame
    c.loop-item.item-iterator c.next.new.self here c.loop-item.left m c.loop-item.invariant.size
    c.in-Some-number_in.ensures.small is c.loop-item.invariant.told m c.in-Some-number_in.ensures.small in
    record {
      size = length-set c.loop-item.left m _ ∙ c.loop-item.invariant.size;
      told = lessened (g.D.Depth.nest c.args.cx.now) c.args.cx.now c.args.list.now c.in-Ok.frame
          c.loop-item.item-iterator c.next.new.self here c.loop-item.left m c.loop-item.invariant.size
          c.in-Some-number_in.ensures.small is c.loop-item.invariant.told;
      shown = last_next (g.D.Depth.nest c.args.cx.now) c.args.cx.now c.args.list.now c.in-Ok.frame
          c.loop-item.item-iterator c.next.new.self here m c.loop-item.page _ _ is (sym left ∙
          c.if-left-number-eq0.true)
          c.loop-item.invariant.shown c.in_ok-show_frame.ensures.shown;
    }

pub loop-item-preserved-else-left-number-eq0 : goal.loop-item-preserved-else-left-number-eq0
loop-item-preserved-else-left-number-eq0 g c =
    let here : c.loop-item.item-iterator ≡ Ok c.in-Ok.frame ∷ c.next.new.self = rw c.in-Ok.is at
    c.in-Some.ensures.steps in
    let m = c.in-Some-number_in.number in
    let is : number_in (frame_item (g.D.Depth.nest c.args.cx.now) c.args.cx.now c.args.list.now c.in-Ok.frame)
    ≡ Some m =
    sym c.number_in.ensures.value ∙ c.in-Some-number_in.is in
    let left = lessened (g.D.Depth.nest c.args.cx.now) c.args.cx.now c.args.list.now c.in-Ok.frame
    c.loop-item.item-iterator c.next.new.self here c.loop-item.left m c.loop-item.invariant.size
    c.in-Some-number_in.ensures.small is c.loop-item.invariant.told m c.in-Some-number_in.ensures.small in
    record {
      size = length-set c.loop-item.left m _ ∙ c.loop-item.invariant.size;
      told = lessened (g.D.Depth.nest c.args.cx.now) c.args.cx.now c.args.list.now c.in-Ok.frame
          c.loop-item.item-iterator c.next.new.self here c.loop-item.left m c.loop-item.invariant.size
          c.in-Some-number_in.ensures.small is c.loop-item.invariant.told;
      shown = last_not_yet (g.D.Depth.nest c.args.cx.now) c.args.cx.now c.args.list.now c.in-Ok.frame
          c.loop-item.item-iterator c.next.new.self here m c.loop-item.page _ is (λ h. c.if-left-number-eq0.false
          (left ∙ h))
          c.loop-item.invariant.shown;
    }

pub loop-item-preserved : goal.loop-item-preserved
loop-item-preserved g c =
    let here : c.loop-item.item-iterator ≡ Ok c.in-Ok.frame ∷ c.next.new.self = rw c.in-Ok.is at
    c.in-Some.ensures.steps in
    let is : number_in (frame_item (g.D.Depth.nest c.args.cx.now) c.args.cx.now c.args.list.now c.in-Ok.frame) ≡ None =
    sym c.number_in.ensures.value ∙ c.in_default-number_in.is in
    record {
      size = c.loop-item.invariant.size;
      told = left_over (g.D.Depth.nest c.args.cx.now) c.args.cx.now c.args.list.now c.in-Ok.frame
          c.loop-item.item-iterator c.next.new.self here c.loop-item.left is c.loop-item.invariant.told;
      shown = last_over (g.D.Depth.nest c.args.cx.now) c.args.cx.now c.args.list.now c.in-Ok.frame
          c.loop-item.item-iterator c.next.new.self here c.loop-item.page _ is c.loop-item.invariant.shown;
    }
