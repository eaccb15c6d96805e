use Rattle.std.proofs.Common.{ℕ, ◌≤◌, List, length, take, sym, ap, ◌∙◌, subst, ltb-false}
use Rattle.std.specs.Int.{w8, w16, w32}
use Rattle.std.proofs.Math.Nat.{min_comm}
use Rattle.std.proofs.lemmas.List.{take_min}
use Rattle.nla_wire.specs.Canon.{canon, Writes}
use Rattle.nla_wire.proofs.Shapes.{frame_with, ShapeFits}
use Rattle.link_vals.proofs.PhysIds.{phys_id_bytes_is}
use Rattle.link_recs.specs.MapFields.{map_size, map_of, map_bytes}
use Rattle.link_vf.specs.Tables.{link_vf_port_place}
use Rattle.link_msg.specs.Tables.{base}
use Rattle.link_msg.specs.declared.shape.Shape.TheVariants as Shapes
use Rattle.link_msg.proofs.Shaped.{arm_room, arm_writes}
use Rattle.link_msg.proofs.Arms.{number_room, number_writes, text_room, text_writes, sized_room, sized_writes}
use Rattle.link_msg.proofs.shape.Shape.write.Goals as goal

pub write_value-requires-clause-small : goal.write_value-requires-clause-small
write_value-requires-clause-small c = (arm_room c.args.self Shapes.Bytes c.args.number c.args.payload.now
    (length c.args.out.now) c.in-Bytes.is c.requires.room).0.0

pub write_value-requires-clause-room : goal.write_value-requires-clause-room
write_value-requires-clause-room c = (arm_room c.args.self Shapes.Bytes c.args.number c.args.payload.now
    (length c.args.out.now) c.in-Bytes.is c.requires.room).1

pub returns-in-Bytes : goal.returns-in-Bytes
returns-in-Bytes c =
    arm_writes c.args.self Shapes.Bytes c.args.number c.args.payload.now c.args.out.now c.write_value.new.out
    c.write_value.result c.in-Bytes.is (c.write_value.ensures)

pub write_text_payload-requires-clause-small : goal.write_text_payload-requires-clause-small
write_text_payload-requires-clause-small c =
    (text_room c.args.number c.args.payload.now (ShapeFits base Shapes.Text) (λ s fits. fits.0) (length c.args.out.now)
    (arm_room c.args.self Shapes.Text c.args.number c.args.payload.now
    (length c.args.out.now) c.in-Text.is c.requires.room)).0

pub write_text_payload-requires-clause-room : goal.write_text_payload-requires-clause-room
write_text_payload-requires-clause-room c =
    (text_room c.args.number c.args.payload.now (ShapeFits base Shapes.Text) (λ s fits. fits.0) (length c.args.out.now)
    (arm_room c.args.self Shapes.Text c.args.number c.args.payload.now
    (length c.args.out.now) c.in-Text.is c.requires.room)).1

pub returns-in-Text : goal.returns-in-Text
returns-in-Text c =
    arm_writes c.args.self Shapes.Text c.args.number c.args.payload.now c.args.out.now c.write_text_payload.new.out
    c.write_text_payload.result c.in-Text.is (text_writes c.args.number c.args.payload.now c.args.out.now
    c.write_text_payload.new.out c.write_text_payload.result c.write_text_payload.ensures)

pub write_u8_payload-requires-clause-exact : goal.write_u8_payload-requires-clause-exact
write_u8_payload-requires-clause-exact c =
    (number_room w8 c.args.number c.args.payload.now (ShapeFits base Shapes.U8) (length c.args.out.now)
    (arm_room c.args.self Shapes.U8 c.args.number c.args.payload.now
    (length c.args.out.now) c.in-U8.is c.requires.room)).0

pub write_u8_payload-requires-clause-room : goal.write_u8_payload-requires-clause-room
write_u8_payload-requires-clause-room c =
    (number_room w8 c.args.number c.args.payload.now (ShapeFits base Shapes.U8) (length c.args.out.now)
    (arm_room c.args.self Shapes.U8 c.args.number c.args.payload.now
    (length c.args.out.now) c.in-U8.is c.requires.room)).1

pub returns-in-U8 : goal.returns-in-U8
returns-in-U8 c =
    arm_writes c.args.self Shapes.U8 c.args.number c.args.payload.now
    c.args.out.now c.write_u8_payload.new.out c.write_u8_payload.result c.in-U8.is (number_writes w8
    c.args.number c.args.payload.now c.args.out.now c.write_u8_payload.new.out c.write_u8_payload.result
    (number_room w8 c.args.number c.args.payload.now (ShapeFits base Shapes.U8) (length c.args.out.now)
    (arm_room c.args.self Shapes.U8 c.args.number c.args.payload.now
    (length c.args.out.now) c.in-U8.is c.requires.room)).0 c.write_u8_payload.ensures)

pub write_u16_payload-requires-clause-exact : goal.write_u16_payload-requires-clause-exact
write_u16_payload-requires-clause-exact c =
    (number_room w16 c.args.number c.args.payload.now (ShapeFits base Shapes.U16) (length c.args.out.now)
    (arm_room c.args.self Shapes.U16 c.args.number c.args.payload.now
    (length c.args.out.now) c.in-U16.is c.requires.room)).0

pub write_u16_payload-requires-clause-room : goal.write_u16_payload-requires-clause-room
write_u16_payload-requires-clause-room c =
    (number_room w16 c.args.number c.args.payload.now (ShapeFits base Shapes.U16) (length c.args.out.now)
    (arm_room c.args.self Shapes.U16 c.args.number c.args.payload.now
    (length c.args.out.now) c.in-U16.is c.requires.room)).1

pub returns-in-U16 : goal.returns-in-U16
returns-in-U16 c =
    arm_writes c.args.self Shapes.U16 c.args.number c.args.payload.now
    c.args.out.now c.write_u16_payload.new.out c.write_u16_payload.result c.in-U16.is (number_writes w16
    c.args.number c.args.payload.now c.args.out.now c.write_u16_payload.new.out c.write_u16_payload.result
    (number_room w16 c.args.number c.args.payload.now (ShapeFits base Shapes.U16) (length c.args.out.now)
    (arm_room c.args.self Shapes.U16 c.args.number c.args.payload.now
    (length c.args.out.now) c.in-U16.is c.requires.room)).0 c.write_u16_payload.ensures)

pub write_u32_payload-requires-clause-exact : goal.write_u32_payload-requires-clause-exact
write_u32_payload-requires-clause-exact c =
    (number_room w32 c.args.number c.args.payload.now (ShapeFits base Shapes.U32) (length c.args.out.now)
    (arm_room c.args.self Shapes.U32 c.args.number c.args.payload.now
    (length c.args.out.now) c.in-U32.is c.requires.room)).0

pub write_u32_payload-requires-clause-room : goal.write_u32_payload-requires-clause-room
write_u32_payload-requires-clause-room c =
    (number_room w32 c.args.number c.args.payload.now (ShapeFits base Shapes.U32) (length c.args.out.now)
    (arm_room c.args.self Shapes.U32 c.args.number c.args.payload.now
    (length c.args.out.now) c.in-U32.is c.requires.room)).1

pub returns-in-U32 : goal.returns-in-U32
returns-in-U32 c =
    arm_writes c.args.self Shapes.U32 c.args.number c.args.payload.now
    c.args.out.now c.write_u32_payload.new.out c.write_u32_payload.result c.in-U32.is (number_writes w32
    c.args.number c.args.payload.now c.args.out.now c.write_u32_payload.new.out c.write_u32_payload.result
    (number_room w32 c.args.number c.args.payload.now (ShapeFits base Shapes.U32) (length c.args.out.now)
    (arm_room c.args.self Shapes.U32 c.args.number c.args.payload.now
    (length c.args.out.now) c.in-U32.is c.requires.room)).0 c.write_u32_payload.ensures)

pub write_value-requires-in-Id-clause-room : goal.write_value-requires-in-Id-clause-room
write_value-requires-in-Id-clause-room c =
    let cut = ap (λ n. take n c.args.payload.now) (c.min.ensures ∙ min_comm (length c.args.payload.now) 32)
    ∙ take_min 32 c.args.payload.now ∙ sym (phys_id_bytes_is c.args.payload.now) in
    subst (λ (t : List ℕ). length (canon (frame_with c.args.number t)) ≤ length c.args.out.now) (sym cut)
    (arm_room c.args.self Shapes.Id c.args.number c.args.payload.now
    (length c.args.out.now) c.in-Id.is c.requires.room).1

pub returns-in-Id : goal.returns-in-Id
returns-in-Id c =
    let cut = ap (λ n. take n c.args.payload.now) (c.min.ensures ∙ min_comm (length c.args.payload.now) 32)
    ∙ take_min 32 c.args.payload.now ∙ sym (phys_id_bytes_is c.args.payload.now) in
    arm_writes c.args.self Shapes.Id c.args.number c.args.payload.now c.args.out.now c.write_value-in-Id.new.out
    c.write_value-in-Id.result c.in-Id.is
    (subst (λ (t : List ℕ). Writes (canon (frame_with c.args.number t)) c.args.out.now c.write_value-in-Id.new.out
    c.write_value-in-Id.result) cut c.write_value-in-Id.ensures)

pub write_filled-requires-clause-room : goal.write_filled-requires-clause-room
write_filled-requires-clause-room c = (arm_room c.args.self Shapes.Stats c.args.number c.args.payload.now
    (length c.args.out.now) c.in-Stats.is c.requires.room).1

pub returns-in-Stats : goal.returns-in-Stats
returns-in-Stats c =
    arm_writes c.args.self Shapes.Stats c.args.number c.args.payload.now c.args.out.now c.write_filled.new.out
    c.write_filled.result c.in-Stats.is (c.write_filled.ensures)

pub write_filled-requires-in-Stats64-clause-room : goal.write_filled-requires-in-Stats64-clause-room
write_filled-requires-in-Stats64-clause-room c = (arm_room c.args.self Shapes.Stats64 c.args.number c.args.payload.now
    (length c.args.out.now) c.in-Stats64.is c.requires.room).1

pub returns-in-Stats64 : goal.returns-in-Stats64
returns-in-Stats64 c =
    arm_writes c.args.self Shapes.Stats64 c.args.number
    c.args.payload.now c.args.out.now c.write_filled-in-Stats64.new.out c.write_filled-in-Stats64.result c.in-Stats64.is
    (c.write_filled-in-Stats64.ensures)

pub write_sized-requires-clause-whole : goal.write_sized-requires-clause-whole
write_sized-requires-clause-whole c = ltb-false (length c.args.payload.now) map_size
    (sized_room map_size map_of (λ m. canon (frame_with c.args.number (map_bytes m))) c.args.payload.now
    (ShapeFits base Shapes.Map) (length c.args.out.now) (arm_room c.args.self Shapes.Map c.args.number
    c.args.payload.now (length c.args.out.now) c.in-Map.is c.requires.room)).0

pub write_sized-requires-clause-room : goal.write_sized-requires-clause-room
write_sized-requires-clause-room c = (sized_room map_size map_of (λ m. canon (frame_with c.args.number (map_bytes m)))
    c.args.payload.now (ShapeFits base Shapes.Map) (length c.args.out.now) (arm_room c.args.self Shapes.Map
    c.args.number c.args.payload.now (length c.args.out.now) c.in-Map.is c.requires.room)).1

pub returns-in-Map : goal.returns-in-Map
returns-in-Map c =
    arm_writes c.args.self Shapes.Map c.args.number c.args.payload.now c.args.out.now c.write_sized.new.out
    c.write_sized.result c.in-Map.is (sized_writes map_size map_of (λ m. canon (frame_with c.args.number (map_bytes m)))
    c.args.payload.now c.args.out.now c.write_sized.new.out c.write_sized.result c.write_sized.ensures)

pub write_entry-requires : goal.write_entry-requires
unfolding link_vf_port_place
write_entry-requires c = arm_room c.args.self Shapes.Port c.args.number c.args.payload.now
    (length c.args.out.now) c.in-Port.is c.requires.room

pub returns-in-Port : goal.returns-in-Port
unfolding link_vf_port_place
returns-in-Port c =
    arm_writes c.args.self Shapes.Port c.args.number c.args.payload.now c.args.out.now c.write_entry.new.out
    c.write_entry.result c.in-Port.is (c.write_entry.ensures.reads)

pub write_some-requires : goal.write_some-requires
write_some-requires c = arm_room c.args.self Shapes.Infos c.args.number c.args.payload.now
    (length c.args.out.now) c.in-Infos.is c.requires.room

pub returns-in-Infos : goal.returns-in-Infos
returns-in-Infos c =
    arm_writes c.args.self Shapes.Infos c.args.number c.args.payload.now c.args.out.now c.write_some.new.out
    c.write_some.result c.in-Infos.is (c.write_some.ensures.reads)

pub write_list-requires : goal.write_list-requires
write_list-requires c = arm_room c.args.self Shapes.Functions c.args.number c.args.payload.now
    (length c.args.out.now) c.in-Functions.is c.requires.room

pub returns-in-Functions : goal.returns-in-Functions
returns-in-Functions c =
    arm_writes c.args.self Shapes.Functions c.args.number c.args.payload.now c.args.out.now c.write_list.new.out
    c.write_list.result c.in-Functions.is (c.write_list.ensures.reads)

pub write_ports-requires : goal.write_ports-requires
write_ports-requires c = arm_room c.args.self Shapes.Ports c.args.number c.args.payload.now
    (length c.args.out.now) c.in-Ports.is c.requires.room

pub returns-in-Ports : goal.returns-in-Ports
returns-in-Ports c =
    arm_writes c.args.self Shapes.Ports c.args.number c.args.payload.now c.args.out.now c.write_ports.new.out
    c.write_ports.result c.in-Ports.is (c.write_ports.ensures)

pub write_some-requires-in-Xdps : goal.write_some-requires-in-Xdps
write_some-requires-in-Xdps c = arm_room c.args.self Shapes.Xdps c.args.number c.args.payload.now
    (length c.args.out.now) c.in-Xdps.is c.requires.room

pub returns-in-Xdps : goal.returns-in-Xdps
returns-in-Xdps c =
    arm_writes c.args.self Shapes.Xdps c.args.number c.args.payload.now c.args.out.now c.write_some-in-Xdps.new.out
    c.write_some-in-Xdps.result c.in-Xdps.is (c.write_some-in-Xdps.ensures.reads)

pub write_nested-requires : goal.write_nested-requires
write_nested-requires c = arm_room c.args.self Shapes.Props c.args.number c.args.payload.now
    (length c.args.out.now) c.in-Props.is c.requires.room

pub returns-in-Props : goal.returns-in-Props
returns-in-Props c =
    arm_writes c.args.self Shapes.Props c.args.number c.args.payload.now c.args.out.now c.write_nested.new.out
    c.write_nested.result c.in-Props.is (c.write_nested.ensures.reads)

pub write_nested-requires-in-Reasons : goal.write_nested-requires-in-Reasons
write_nested-requires-in-Reasons c = arm_room c.args.self Shapes.Reasons c.args.number c.args.payload.now
    (length c.args.out.now) c.in-Reasons.is c.requires.room

pub returns-in-Reasons : goal.returns-in-Reasons
returns-in-Reasons c =
    arm_writes c.args.self Shapes.Reasons c.args.number
    c.args.payload.now c.args.out.now c.write_nested-in-Reasons.new.out c.write_nested-in-Reasons.result c.in-Reasons.is
    (c.write_nested-in-Reasons.ensures.reads)

pub write_nested-requires-in-DevlinkPorts : goal.write_nested-requires-in-DevlinkPorts
write_nested-requires-in-DevlinkPorts c = arm_room c.args.self Shapes.DevlinkPorts c.args.number c.args.payload.now
    (length c.args.out.now) c.in-DevlinkPorts.is c.requires.room

pub returns-in-DevlinkPorts : goal.returns-in-DevlinkPorts
returns-in-DevlinkPorts c =
    arm_writes c.args.self Shapes.DevlinkPorts c.args.number c.args.payload.now
    c.args.out.now c.write_nested-in-DevlinkPorts.new.out c.write_nested-in-DevlinkPorts.result c.in-DevlinkPorts.is
    (c.write_nested-in-DevlinkPorts.ensures.reads)

pub write_nested-requires-in-DpllPins : goal.write_nested-requires-in-DpllPins
write_nested-requires-in-DpllPins c = arm_room c.args.self Shapes.DpllPins c.args.number c.args.payload.now
    (length c.args.out.now) c.in-DpllPins.is c.requires.room

pub returns-in-DpllPins : goal.returns-in-DpllPins
returns-in-DpllPins c =
    arm_writes c.args.self Shapes.DpllPins c.args.number c.args.payload.now
    c.args.out.now c.write_nested-in-DpllPins.new.out c.write_nested-in-DpllPins.result c.in-DpllPins.is
    (c.write_nested-in-DpllPins.ensures.reads)

pub write_some-requires-in-BridgeInfos : goal.write_some-requires-in-BridgeInfos
write_some-requires-in-BridgeInfos c = arm_room c.args.self Shapes.BridgeInfos c.args.number c.args.payload.now
    (length c.args.out.now) c.in-BridgeInfos.is c.requires.room

pub returns-in-BridgeInfos : goal.returns-in-BridgeInfos
returns-in-BridgeInfos c =
    arm_writes c.args.self Shapes.BridgeInfos c.args.number c.args.payload.now
    c.args.out.now c.write_some-in-BridgeInfos.new.out c.write_some-in-BridgeInfos.result c.in-BridgeInfos.is
    (c.write_some-in-BridgeInfos.ensures.reads)

pub write_some-requires-in-Inet6Infos : goal.write_some-requires-in-Inet6Infos
write_some-requires-in-Inet6Infos c = arm_room c.args.self Shapes.Inet6Infos c.args.number c.args.payload.now
    (length c.args.out.now) c.in-Inet6Infos.is c.requires.room

pub returns-in-Inet6Infos : goal.returns-in-Inet6Infos
returns-in-Inet6Infos c =
    arm_writes c.args.self Shapes.Inet6Infos c.args.number c.args.payload.now
    c.args.out.now c.write_some-in-Inet6Infos.new.out c.write_some-in-Inet6Infos.result c.in-Inet6Infos.is
    (c.write_some-in-Inet6Infos.ensures.reads)

pub write_some-requires-in-Bridges : goal.write_some-requires-in-Bridges
write_some-requires-in-Bridges c = arm_room c.args.self Shapes.Bridges c.args.number c.args.payload.now
    (length c.args.out.now) c.in-Bridges.is c.requires.room

pub returns-in-Bridges : goal.returns-in-Bridges
returns-in-Bridges c =
    arm_writes c.args.self Shapes.Bridges c.args.number c.args.payload.now c.args.out.now
    c.write_some-in-Bridges.new.out c.write_some-in-Bridges.result c.in-Bridges.is
    (c.write_some-in-Bridges.ensures.reads)

pub write_nested-requires-in-Unspecs : goal.write_nested-requires-in-Unspecs
write_nested-requires-in-Unspecs c = arm_room c.args.self Shapes.Unspecs c.args.number c.args.payload.now
    (length c.args.out.now) c.in-Unspecs.is c.requires.room

pub returns-in-Unspecs : goal.returns-in-Unspecs
returns-in-Unspecs c =
    arm_writes c.args.self Shapes.Unspecs c.args.number
    c.args.payload.now c.args.out.now c.write_nested-in-Unspecs.new.out c.write_nested-in-Unspecs.result c.in-Unspecs.is
    (c.write_nested-in-Unspecs.ensures.reads)
