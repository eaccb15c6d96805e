use Rattle.nla_wire.proofs.Codec.{is_lawful}
use Rattle.link_nest.specs.Tables.{link_info_place}
use Rattle.link_nest.proofs.laws.law_link_info.Goals as goal

pub returns : goal.returns
unfolding link_info_place
returns c = is_lawful link_info_place
