use Rattle.nla_wire.proofs.Codec.{is_lawful}
use Rattle.link_nest.specs.Tables.{prop_place}
use Rattle.link_nest.proofs.laws.law_prop.Goals as goal

pub returns : goal.returns
unfolding prop_place
returns c = is_lawful prop_place
