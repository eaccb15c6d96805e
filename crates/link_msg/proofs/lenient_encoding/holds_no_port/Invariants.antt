use Rattle.link_msg.proofs.LenientPorts.{Going}
use Rattle.link_msg.proofs.lenient_encoding.holds_no_port.Given as goal

abbrev pub invariant-loop-item : goal.invariant-loop-item
invariant-loop-item l = Going l.family l.bytes l.item-iterator
