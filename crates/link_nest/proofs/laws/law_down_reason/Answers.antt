use Rattle.nla_wire.proofs.Codec.{is_lawful}
use Rattle.link_nest.specs.Tables.{down_reason_place}
use Rattle.link_nest.proofs.laws.law_down_reason.Goals as goal

pub returns : goal.returns
unfolding down_reason_place
returns c = is_lawful down_reason_place
