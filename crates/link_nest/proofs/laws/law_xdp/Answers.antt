use Rattle.nla_wire.proofs.Codec.{is_lawful}
use Rattle.link_nest.specs.Tables.{xdp_place}
use Rattle.link_nest.proofs.laws.law_xdp.Goals as goal

pub returns : goal.returns
unfolding xdp_place
returns c = is_lawful xdp_place
