use Rattle.nla_wire.proofs.Codec.{is_lawful}
use Rattle.link_afspec.specs.Tables.{af_spec_inet_place}
use Rattle.link_afspec.proofs.Lawed.{request_never_read}
use Rattle.link_afspec.proofs.laws.law_af_spec_inet.Goals as goal

pub returns-clause-lawful : goal.returns-clause-lawful
unfolding af_spec_inet_place
returns-clause-lawful c = is_lawful af_spec_inet_place

pub returns-clause-request : goal.returns-clause-request
returns-clause-request c = request_never_read
