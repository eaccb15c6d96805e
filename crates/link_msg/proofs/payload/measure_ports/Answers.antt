use Rattle.std.proofs.Common.{length, sym, eqb-true}
use Rattle.nla_wire.specs.Canon.{canons, AllFit}
use Rattle.nla_wire.proofs.Written.{NestFits, not_none, empty_weighs, some_weighs}
use Rattle.link_vf.specs.Tables.{link_vf_port_place, vf_port_list}
use Rattle.link_msg.proofs.payload.measure_ports.Goals as goal

pub returns-then-is_empty : goal.returns-then-is_empty
returns-then-is_empty c =
    empty_weighs (canons link_vf_port_place.frame) (NestFits (canons link_vf_port_place.frame)
    (AllFit link_vf_port_place.Fits link_vf_port_place.frame)) c.args.payload.now
    (vf_port_list.grammar.reads c.args.payload.now) (eqb-true (length c.args.payload.now) 0 (sym c.if-is_empty.ensures))

pub returns : goal.returns
returns c =
    some_weighs (canons link_vf_port_place.frame)
    (NestFits (canons link_vf_port_place.frame) (AllFit link_vf_port_place.Fits link_vf_port_place.frame))
    c.args.payload.now (vf_port_list.grammar.reads c.args.payload.now) c.measure_list.result
    (not_none c.args.payload.now c.if-is_empty.ensures) c.measure_list.ensures.reads
