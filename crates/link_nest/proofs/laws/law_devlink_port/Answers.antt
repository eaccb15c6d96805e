use Rattle.nla_wire.proofs.Codec.{is_lawful}
use Rattle.link_nest.specs.Tables.{devlink_port_place}
use Rattle.link_nest.proofs.laws.law_devlink_port.Goals as goal

pub returns : goal.returns
unfolding devlink_port_place
returns c = is_lawful devlink_port_place
