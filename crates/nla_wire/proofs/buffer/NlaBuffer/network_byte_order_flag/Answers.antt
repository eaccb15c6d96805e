use Rattle.std.proofs.Common.{ap, ◌∙◌}
use Rattle.nla_wire.specs.Frames.{is_network_order}
use Rattle.nla_wire.proofs.Flags.{network_flag}
use Rattle.nla_wire.proofs.buffer.NlaBuffer.network_byte_order_flag.Goals as goal

pub returns : goal.returns
returns c = network_flag c.self.inside.kind ∙ ap is_network_order c.self.view_is
