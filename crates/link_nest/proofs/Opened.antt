-- A word for a place that opens it and the readers of its payloads, for `unfolding`.
use Rattle.std.specs.Prelude.{⊤}
use Rattle.nla_wire.specs.Payloads.{read_number, read_text}
use Rattle.link_nest.specs.Tables.{devlink_port_place, xdp_place}

unfoldable pub devlink_port : ⊤
unfolding devlink_port_place read_number read_text
devlink_port = tt

unfoldable pub xdp : ⊤
unfolding xdp_place read_number
xdp = tt
