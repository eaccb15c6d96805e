use Rattle.std.proofs.Common.{length}
use Rattle.nla_wire.specs.Canon.{canon, canons, AllFit}
use Rattle.nla_wire.proofs.Written.{NestFits, nest, some_room, some_rewrites}
use Rattle.link_vf.specs.Tables.{link_vf_port_place, vf_port_list}
use Rattle.link_msg.proofs.payload.write_ports.Goals as goal

pub write_list-requires : goal.write_list-requires
write_list-requires c =
    some_room (λ vs. canon (nest (canons link_vf_port_place.frame) c.args.kind vs))
    (NestFits (canons link_vf_port_place.frame) (AllFit link_vf_port_place.Fits link_vf_port_place.frame))
    c.args.payload.now (vf_port_list.grammar.reads c.args.payload.now) (length c.args.out.now) c.requires

pub returns : goal.returns
returns c =
    some_rewrites (λ vs. canon (nest (canons link_vf_port_place.frame) c.args.kind vs)) c.args.payload.now
    (vf_port_list.grammar.reads c.args.payload.now) c.args.out.now c.write_list.new.out c.write_list.result
    c.write_list.ensures.reads
