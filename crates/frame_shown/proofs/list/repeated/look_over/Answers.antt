use Rattle.std.proofs.Common.{◌≡◌, ◌∷◌, ap, sym, ◌∙◌, refl}
use Rattle.std.specs.Prelude.{Some, None, Ok}
use Rattle.std.proofs.lemmas.List.{length-set}
use Rattle.nla_wire.specs.Items.{items as read}
use Rattle.std.specs.List.{list_any}
use Rattle.frame_shown.specs.Items.{number_in, are_any, is_value, kept_ones, earlier_ones}
use Rattle.frame_shown.specs.Frames.{frame_item, items_in}
use Rattle.frame_shown.proofs.Items.{none_repeats}
use Rattle.std.proofs.Math.Bool.{or-false}
use Rattle.frame_shown.proofs.Steps.{any_kept_next, any_value_next, kept_looked, named_kept, named_looked, named_valued}
use Rattle.frame_shown.proofs.list.repeated.look_over.Goals as goal

pub loop-item-init : goal.loop-item-init
loop-item-init g c =
    let first : c.into_iter-item-iterator.result ≡ read c.args.bytes.now =
    c.into_iter-item-iterator.ensures.into_iter_gives ∙ c.new-item-items.ensures.value in
    record {
      size = refl;
      repeated = none_repeats (items_in (g.D.Depth.nest c.args.cx.now) c.args.cx.now c.args.list.now
          c.into_iter-item-iterator.result)
          ∙ ap (λ xs. are_any (earlier_ones (items_in (g.D.Depth.nest c.args.cx.now) c.args.cx.now c.args.list.now
          xs))) first;
      kept = or-false _ ∙ ap (λ xs. are_any (kept_ones (items_in (g.D.Depth.nest c.args.cx.now) c.args.cx.now
          c.args.list.now xs))) first;
      value = or-false _ ∙ ap (λ xs. list_any is_value (items_in (g.D.Depth.nest c.args.cx.now) c.args.cx.now
          c.args.list.now xs)) first;
    }

pub loop-item-preserved-in-Some-number_in : goal.loop-item-preserved-in-Some-number_in
loop-item-preserved-in-Some-number_in g c =
    let here : c.loop-item.item-iterator ≡ Ok c.in-Ok.frame ∷ c.next.new.self = rw c.in-Ok.is at
    c.in-Some.ensures.steps in
    let m = c.in-Some-number_in.number in
    let is : number_in (frame_item (g.D.Depth.nest c.args.cx.now) c.args.cx.now c.args.list.now c.in-Ok.frame)
    ≡ Some m =
    sym c.number_in.ensures.value ∙ c.in-Some-number_in.is in
    record {
      size = length-set c.loop-item.seen m _ ∙ c.loop-item.invariant.size;
      repeated = named_looked (g.D.Depth.nest c.args.cx.now) c.args.cx.now c.args.list.now c.in-Ok.frame
          c.loop-item.item-iterator c.next.new.self here c.loop-item.seen m c.loop-item.is_any_repeated _
          c.loop-item.invariant.size
          c.in-Some-number_in.ensures.small is c.loop-item.invariant.repeated;
      kept = named_kept (g.D.Depth.nest c.args.cx.now) c.args.cx.now c.args.list.now c.in-Ok.frame
          c.loop-item.item-iterator c.next.new.self here m c.loop-item.is_any_kept _ is c.loop-item.invariant.kept;
      value = named_valued (g.D.Depth.nest c.args.cx.now) c.args.cx.now c.args.list.now c.in-Ok.frame
          c.loop-item.item-iterator c.next.new.self here m c.loop-item.is_any_value _ is c.loop-item.invariant.value;
    }

pub loop-item-preserved : goal.loop-item-preserved
loop-item-preserved g c =
    let here : c.loop-item.item-iterator ≡ Ok c.in-Ok.frame ∷ c.next.new.self = rw c.in-Ok.is at
    c.in-Some.ensures.steps in
    let is : number_in (frame_item (g.D.Depth.nest c.args.cx.now) c.args.cx.now c.args.list.now c.in-Ok.frame) ≡ None =
    sym c.number_in.ensures.value ∙ c.in_default-number_in.is in
    record {
      size = c.loop-item.invariant.size;
      repeated = kept_looked (g.D.Depth.nest c.args.cx.now) c.args.cx.now c.args.list.now c.in-Ok.frame
          c.loop-item.item-iterator c.next.new.self here c.loop-item.seen c.loop-item.is_any_repeated _ is
          c.loop-item.invariant.repeated;
      kept = any_kept_next (g.D.Depth.nest c.args.cx.now) c.args.cx.now c.args.list.now c.in-Ok.frame
          c.loop-item.item-iterator c.next.new.self here c.loop-item.is_any_kept _ _
          (c.is_any_kept-is_any_kept.ensures ∙ c.left_by-left.ensures.kept)
          c.loop-item.invariant.kept;
      value = any_value_next (g.D.Depth.nest c.args.cx.now) c.args.cx.now c.args.list.now c.in-Ok.frame
          c.loop-item.item-iterator c.next.new.self here c.loop-item.is_any_value _ _
          (c.is_any_value-is_any_value.ensures ∙ c.left_by-left.ensures.value)
          c.loop-item.invariant.value;
    }
