use Rattle.std.proofs.Common.{ℕ, ◌≤◌, List, [], ◌∷◌, ◌++◌, length, refl, sym, ap, ◌∙◌, arith, length-take, Some}
use Rattle.std.specs.Int.{w8, w16, w32, to_le_bytes}
use Rattle.std.proofs.Math.Nat.{min_comm}
use Rattle.nla_wire.specs.Sizes.{most_payload}
use Rattle.nla_wire.specs.Payloads.{read_number}
use Rattle.nla_wire.proofs.Lawful.{always}
use Rattle.link_vals.proofs.PhysIds.{phys_id_bytes_is, phys_id_len_le}
use Rattle.link_recs.specs.StatsFields.{stats_bytes}
use Rattle.link_recs.specs.Stats64Fields.{stats64_bytes}
use Rattle.link_recs.specs.MapFields.{map_bytes}
use Rattle.link_nest.specs.Wireless.{wireless_event, wireless_encoding, WirelessFits}
use Rattle.link_vf.specs.Tables.{link_vf_port_place}
use Rattle.link_msg.specs.Tables.{base, is_true, truth_number}
use Rattle.link_msg.specs.declared.shape.Shape.TheVariants as Shapes
use Rattle.link_msg.proofs.Shaped.{arm_weighs}
use Rattle.link_msg.proofs.Arms.{weighs_inside, weighs_same, truth_length}
use Rattle.link_msg.proofs.shape.Shape.measure.Goals as goal

pub returns-in-Bytes : goal.returns-in-Bytes
returns-in-Bytes c =
    arm_weighs c.args.self Shapes.Bytes c.args.payload.now (Some (length c.args.payload.now)) c.in-Bytes.is
    (((c.requires, tt), refl))

pub returns-in-Text : goal.returns-in-Text
returns-in-Text c =
    arm_weighs c.args.self Shapes.Text c.args.payload.now c.measure_text.result c.in-Text.is
    (weighs_inside (λ (s : List ℕ). s ++ 0 ∷ [])
    (λ x. length ((λ (s : List ℕ). s ++ 0 ∷ []) x) ≤ most_payload) always (λ x fits. tt)
    ((base Shapes.Text).codec.grammar.reads c.args.payload.now) c.measure_text.result c.measure_text.ensures)

pub returns-in-U8 : goal.returns-in-U8
returns-in-U8 c =
    arm_weighs c.args.self Shapes.U8 c.args.payload.now c.measure_u8.result c.in-U8.is
    (weighs_inside (to_le_bytes w8) (λ x. length ((to_le_bytes w8) x) ≤ most_payload) always (λ x fits. tt)
    ((base Shapes.U8).codec.grammar.reads c.args.payload.now) c.measure_u8.result c.measure_u8.ensures)

pub returns-in-U16 : goal.returns-in-U16
returns-in-U16 c =
    arm_weighs c.args.self Shapes.U16 c.args.payload.now c.measure_u16.result c.in-U16.is
    (weighs_inside (to_le_bytes w16) (λ x. length ((to_le_bytes w16) x) ≤ most_payload) always (λ x fits. tt)
    ((base Shapes.U16).codec.grammar.reads c.args.payload.now) c.measure_u16.result c.measure_u16.ensures)

pub returns-in-U32 : goal.returns-in-U32
returns-in-U32 c =
    arm_weighs c.args.self Shapes.U32 c.args.payload.now c.measure_u32.result c.in-U32.is
    (weighs_inside (to_le_bytes w32) (λ x. length ((to_le_bytes w32) x) ≤ most_payload) always (λ x fits. tt)
    ((base Shapes.U32).codec.grammar.reads c.args.payload.now) c.measure_u32.result c.measure_u32.ensures)

pub returns-in-Truth : goal.returns-in-Truth
returns-in-Truth c =
    arm_weighs c.args.self Shapes.Truth c.args.payload.now c.measure_u8-in-Truth.result c.in-Truth.is
    (weighs_inside (λ v. to_le_bytes w8 (truth_number v)) (λ v. length (to_le_bytes w8 (truth_number v)) ≤ most_payload)
    always (λ x fits. tt) ((base Shapes.Truth).codec.grammar.reads c.args.payload.now) c.measure_u8-in-Truth.result
    (weighs_same is_true (to_le_bytes w8) (λ v. to_le_bytes w8 (truth_number v)) truth_length
    (read_number w8 c.args.payload.now) c.measure_u8-in-Truth.result c.measure_u8-in-Truth.ensures))

pub returns-in-Id : goal.returns-in-Id
returns-in-Id c =
    let size = ap (λ (t : List ℕ). length t) (phys_id_bytes_is c.args.payload.now) ∙ length-take 32 c.args.payload.now
    ∙ min_comm 32 (length c.args.payload.now) in
    arm_weighs c.args.self Shapes.Id c.args.payload.now (Some c.min.result) c.in-Id.is
    ((omega (arith, size, c.requires), phys_id_len_le c.args.payload.now), c.min.ensures ∙ sym size)

pub returns-in-Stats : goal.returns-in-Stats
returns-in-Stats c =
    arm_weighs c.args.self Shapes.Stats c.args.payload.now c.measure_filled.result c.in-Stats.is
    (weighs_inside stats_bytes (λ x. length (stats_bytes x) ≤ most_payload) always (λ x fits. tt)
    ((base Shapes.Stats).codec.grammar.reads c.args.payload.now) c.measure_filled.result c.measure_filled.ensures)

pub returns-in-Stats64 : goal.returns-in-Stats64
returns-in-Stats64 c =
    arm_weighs c.args.self Shapes.Stats64 c.args.payload.now c.measure_filled-in-Stats64.result c.in-Stats64.is
    (weighs_inside stats64_bytes (λ x. length (stats64_bytes x) ≤ most_payload) always
    (λ x fits. tt) ((base Shapes.Stats64).codec.grammar.reads c.args.payload.now) c.measure_filled-in-Stats64.result
    c.measure_filled-in-Stats64.ensures)

pub returns-in-Map : goal.returns-in-Map
returns-in-Map c =
    arm_weighs c.args.self Shapes.Map c.args.payload.now c.measure_sized.result c.in-Map.is
    (weighs_inside map_bytes (λ x. length (map_bytes x) ≤ most_payload) always (λ x fits. tt)
    ((base Shapes.Map).codec.grammar.reads c.args.payload.now) c.measure_sized.result c.measure_sized.ensures)

pub returns-in-Event : goal.returns-in-Event
returns-in-Event c =
    arm_weighs c.args.self Shapes.Event c.args.payload.now c.measure.result c.in-Event.is
    (weighs_inside wireless_encoding WirelessFits WirelessFits (λ x fits. fits)
    (wireless_event.reads c.args.payload.now) c.measure.result c.measure.ensures.reads)

pub returns-in-Port : goal.returns-in-Port
unfolding link_vf_port_place
returns-in-Port c =
    arm_weighs c.args.self Shapes.Port c.args.payload.now c.measure_entry.result c.in-Port.is
    (c.measure_entry.ensures.reads)

pub returns-in-Infos : goal.returns-in-Infos
returns-in-Infos c =
    arm_weighs c.args.self Shapes.Infos c.args.payload.now c.measure_some.result c.in-Infos.is
    (c.measure_some.ensures.reads)

pub returns-in-Functions : goal.returns-in-Functions
returns-in-Functions c =
    arm_weighs c.args.self Shapes.Functions c.args.payload.now c.measure_list.result c.in-Functions.is
    (c.measure_list.ensures.reads)

pub returns-in-Ports : goal.returns-in-Ports
returns-in-Ports c =
    arm_weighs c.args.self Shapes.Ports c.args.payload.now c.measure_ports.result c.in-Ports.is
    (c.measure_ports.ensures)

pub returns-in-Xdps : goal.returns-in-Xdps
returns-in-Xdps c =
    arm_weighs c.args.self Shapes.Xdps c.args.payload.now c.measure_some-in-Xdps.result c.in-Xdps.is
    (c.measure_some-in-Xdps.ensures.reads)

pub returns-in-Props : goal.returns-in-Props
returns-in-Props c =
    arm_weighs c.args.self Shapes.Props c.args.payload.now c.measure_nested.result c.in-Props.is
    (c.measure_nested.ensures.reads)

pub returns-in-Reasons : goal.returns-in-Reasons
returns-in-Reasons c =
    arm_weighs c.args.self Shapes.Reasons c.args.payload.now c.measure_nested-in-Reasons.result c.in-Reasons.is
    (c.measure_nested-in-Reasons.ensures.reads)

pub returns-in-DevlinkPorts : goal.returns-in-DevlinkPorts
returns-in-DevlinkPorts c =
    arm_weighs c.args.self Shapes.DevlinkPorts c.args.payload.now c.measure_nested-in-DevlinkPorts.result
    c.in-DevlinkPorts.is (c.measure_nested-in-DevlinkPorts.ensures.reads)

pub returns-in-DpllPins : goal.returns-in-DpllPins
returns-in-DpllPins c =
    arm_weighs c.args.self Shapes.DpllPins c.args.payload.now c.measure_nested-in-DpllPins.result c.in-DpllPins.is
    (c.measure_nested-in-DpllPins.ensures.reads)

pub returns-in-BridgeInfos : goal.returns-in-BridgeInfos
returns-in-BridgeInfos c =
    arm_weighs c.args.self Shapes.BridgeInfos c.args.payload.now c.measure_some-in-BridgeInfos.result
    c.in-BridgeInfos.is (c.measure_some-in-BridgeInfos.ensures.reads)

pub returns-in-Inet6Infos : goal.returns-in-Inet6Infos
returns-in-Inet6Infos c =
    arm_weighs c.args.self Shapes.Inet6Infos c.args.payload.now c.measure_some-in-Inet6Infos.result c.in-Inet6Infos.is
    (c.measure_some-in-Inet6Infos.ensures.reads)

pub returns-in-Bridges : goal.returns-in-Bridges
returns-in-Bridges c =
    arm_weighs c.args.self Shapes.Bridges c.args.payload.now c.measure_some-in-Bridges.result c.in-Bridges.is
    (c.measure_some-in-Bridges.ensures.reads)

pub returns-in-Unspecs : goal.returns-in-Unspecs
returns-in-Unspecs c =
    arm_weighs c.args.self Shapes.Unspecs c.args.payload.now c.measure_nested-in-Unspecs.result c.in-Unspecs.is
    (c.measure_nested-in-Unspecs.ensures.reads)
