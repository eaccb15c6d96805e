use Rattle.std.proofs.Common.{subst, arith}
use Rattle.nla_wire.specs.Frames.{IsBytes}
use Rattle.nla_wire.proofs.buffer.NlaBuffer.is_frame.Goals as goal

pub returns : goal.returns
returns c = record {
  kind = omega (arith, c.kind_with_flags-kind.ensures, c.kind_with_flags-kind.type_inv);
  size = rw c.value.ensures.value at c.value.ensures.small;
  bytes = subst (λ b. IsBytes b) c.value.ensures.value c.are_bytes.ensures;
}
