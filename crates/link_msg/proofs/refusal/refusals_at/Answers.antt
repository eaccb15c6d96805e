use Rattle.std.proofs.Common.{arith}
use Rattle.nla_wire.proofs.Front.{all_bytes}
use Rattle.link_msg.proofs.Telling.{room_for_all}
use Rattle.link_msg.proofs.refusal.refusals_at.Goals as goal

pub invariant_of-result : goal.invariant_of-result
invariant_of-result c =
    room_for_all c.args.input.now c.bytes_from-rest.result.now c.args.at c.new-frames.result
    c.bytes_from-rest.ensures.rest (all_bytes c.args.input.now (λ i. omega (arith, c.type_inv.input i)))
    c.ranges.at.fits c.bytes_from-rest.ensures.room c.new-frames.ensures.value
