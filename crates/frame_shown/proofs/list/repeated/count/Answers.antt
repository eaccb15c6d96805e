use Rattle.std.proofs.Common.{◌≡◌, ◌≤◌, ◌+◌, ◌*◌, ◌∷◌, ap, sym, ◌∙◌, arith, refl, length, slice_index}
use Rattle.std.specs.Prelude.{Some, Ok}
use Rattle.std.proofs.lemmas.List.{length-set}
use Rattle.nla_wire.specs.Items.{items as read, frame_count}
use Rattle.frame_shown.specs.Items.{number_in, count_of}
use Rattle.frame_shown.specs.Frames.{frame_item, items_in}
use Rattle.frame_shown.proofs.Items.{none_counted, none_more}
use Rattle.frame_shown.proofs.Steps.{counted, countable}
use Rattle.frame_shown.proofs.list.repeated.count.Goals as goal

pub loop-item-init : goal.loop-item-init
loop-item-init g c =
    let first : c.into_iter-item-iterator.result ≡ read c.args.bytes.now =
    c.into_iter-item-iterator.ensures.into_iter_gives ∙ c.new-item-items.ensures.value in
    record {
      size = refl;
      told = λ n l. ap (λ k. k + count_of n (items_in (g.D.Depth.nest c.args.cx.now) c.args.cx.now c.args.list.now
          c.into_iter-item-iterator.result)) (none_counted n)
          ∙ none_more _ ∙ ap (λ xs. count_of n (items_in (g.D.Depth.nest c.args.cx.now) c.args.cx.now c.args.list.now
          xs)) first;
    }

pub overflow_add-counts : goal.overflow_add-counts
overflow_add-counts g c =
    let here : c.loop-item.item-iterator ≡ Ok c.in-Ok.frame ∷ c.next.new.self = rw c.in-Ok.is at
    c.in-Some.ensures.steps in
    let m = c.in-Some-number_in.number in
    let is : number_in (frame_item (g.D.Depth.nest c.args.cx.now) c.args.cx.now c.args.list.now c.in-Ok.frame)
    ≡ Some m =
    sym c.number_in.ensures.value ∙ c.in-Some-number_in.is in
    let few : 4 * frame_count (read c.args.bytes.now) ≤ length c.args.bytes.now =
    rw c.new-item-items.ensures.value at c.new-item-items.ensures.few in
    let fits : slice_index c.loop-item.counts m + 1 ≤ length c.args.bytes.now =
    countable (g.D.Depth.nest c.args.cx.now) c.args.cx.now c.args.list.now c.in-Ok.frame c.loop-item.item-iterator
    c.next.new.self here (read c.args.bytes.now) (slice_index c.loop-item.counts m) m (length c.args.bytes.now) is
    (c.loop-item.invariant.told m c.in-Some-number_in.ensures.small) few in
    omega (arith, fits)

pub loop-item-preserved-in-Some-number_in : goal.loop-item-preserved-in-Some-number_in
loop-item-preserved-in-Some-number_in g c =
    let here : c.loop-item.item-iterator ≡ Ok c.in-Ok.frame ∷ c.next.new.self = rw c.in-Ok.is at
    c.in-Some.ensures.steps in
    let m = c.in-Some-number_in.number in
    let is : number_in (frame_item (g.D.Depth.nest c.args.cx.now) c.args.cx.now c.args.list.now c.in-Ok.frame)
    ≡ Some m =
    sym c.number_in.ensures.value ∙ c.in-Some-number_in.is in
    record {
      size = length-set c.loop-item.counts m _ ∙ c.loop-item.invariant.size;
      told = counted (g.D.Depth.nest c.args.cx.now) c.args.cx.now c.args.list.now c.in-Ok.frame
          c.loop-item.item-iterator c.next.new.self here (read c.args.bytes.now) c.loop-item.counts m
          c.loop-item.invariant.size
          c.in-Some-number_in.ensures.small is c.loop-item.invariant.told;
    }
