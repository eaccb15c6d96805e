use Rattle.nla_wire.proofs.Codec.{is_lawful}
use Rattle.link_afspec.specs.Tables.{link_proto_info_inet6_place}
use Rattle.link_afspec.proofs.laws.law_link_proto_info_inet6.Goals as goal

pub returns : goal.returns
unfolding link_proto_info_inet6_place
returns c = is_lawful link_proto_info_inet6_place
