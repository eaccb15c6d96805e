use Rattle.nla_wire.proofs.Codec.{is_lawful}
use Rattle.link_vf.specs.Tables.{vf_vlan_place}
use Rattle.link_vf.proofs.laws.law_vf_vlan.Goals as goal

pub returns : goal.returns
unfolding vf_vlan_place
returns c = is_lawful vf_vlan_place
