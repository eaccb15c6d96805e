use Rattle.nla_wire.proofs.Codec.{is_lawful}
use Rattle.link_vf.specs.Tables.{vf_stats_place}
use Rattle.link_vf.proofs.laws.law_vf_stats.Goals as goal

pub returns : goal.returns
unfolding vf_stats_place
returns c = is_lawful vf_stats_place
