use Rattle.nla_wire.proofs.Codec.{is_lawful}
use Rattle.link_afspec.specs.Tables.{af_spec_inet6_place}
use Rattle.link_afspec.proofs.laws.law_af_spec_inet6.Goals as goal

pub returns : goal.returns
unfolding af_spec_inet6_place
returns c = is_lawful af_spec_inet6_place
