use Rattle.std.proofs.Common.{false, arith}
use Rattle.nla_wire.proofs.Front.{all_bytes}
use Rattle.link_msg.specs.Nested.{Accepts, Refuses}
use Rattle.link_msg.specs.Nested.Inside.{Flat}
use Rattle.link_msg.proofs.Innermost.{none_in}
use Rattle.link_msg.proofs.Sound.{sound_leaves}
use Rattle.link_msg.proofs.fault_at.in_list.Goals as goal

pub returns-in_default : goal.returns-in_default
returns-in_default g c =
    let place = g.N.NlaRead.grammar in
    none_in (Accepts false place) (Refuses false place) (λ f. Flat) (sound_leaves false place g.met.N.NlaRead.agrees)
    c.args.bytes.now (all_bytes c.args.bytes.now (λ i. omega (arith, c.type_inv.bytes i))) c.in_default.ensures.first
