use Rattle.std.proofs.Common.{◌≡◌, ◌∷◌, ap, sym, ◌∙◌, refl}
use Rattle.std.specs.Prelude.{Some, Ok}
use Rattle.std.proofs.lemmas.List.{length-set}
use Rattle.nla_wire.specs.Items.{items as read}
use Rattle.frame_shown.specs.Items.{number_in}
use Rattle.frame_shown.specs.Frames.{are_twice, by_number}
use Rattle.std.proofs.lemmas.Bool.{eq-eqb}
use Rattle.frame_shown.proofs.Twice.{first_looked, first_of_its}
use Rattle.frame_shown.proofs.list.repeated.has_twice.Goals as goal

pub loop-item-init : goal.loop-item-init
loop-item-init c =
    let first : c.into_iter-item-iterator.result ≡ read c.args.bytes.now =
    c.into_iter-item-iterator.ensures.into_iter_gives ∙ c.new-item-items.ensures.value in
    record {
      size = refl;
      left = first_looked c.into_iter-item-iterator.result ∙ ap are_twice first;
    }

pub loop-item-preserved-in-Some-small_number : goal.loop-item-preserved-in-Some-small_number
loop-item-preserved-in-Some-small_number c =
    let here : c.loop-item.item-iterator ≡ Ok c.in-Ok.frame ∷ c.next.new.self = rw c.in-Ok.is at
    c.in-Some.ensures.steps in
    let m = c.in-Some-small_number.number in
    let is : number_in (by_number c.in-Ok.frame) ≡ Some m =
    sym c.small_number.ensures.value ∙ c.in-Some-small_number.is in
    record {
      size = length-set c.loop-item.seen m _ ∙ c.loop-item.invariant.size;
      left = first_of_its c.in-Ok.frame c.loop-item.item-iterator c.next.new.self here c.loop-item.seen _ m
          c.loop-item.invariant.size c.in-Some-small_number.ensures.small is
          (eq-eqb _ 0 c.if-seen-number-ne0.false) c.loop-item.invariant.left;
    }
