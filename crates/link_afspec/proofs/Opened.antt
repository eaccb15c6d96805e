-- A word for a place that opens it and the readers of its payloads, for `unfolding`.
use Rattle.std.specs.Prelude.{⊤}
use Rattle.nla_wire.specs.Payloads.{read_exactly, read_number, read_sized}
use Rattle.link_afspec.specs.Tables.{af_spec_inet6_place, af_spec_mctp_place}

unfoldable pub inet6 : ⊤
unfolding af_spec_inet6_place read_exactly read_number read_sized
inet6 = tt

unfoldable pub mctp : ⊤
unfolding af_spec_mctp_place read_number
mctp = tt
