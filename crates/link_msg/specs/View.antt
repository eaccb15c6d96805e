-- The text of an attribute's value, by what it is written from.
use Rattle.std.specs.Prelude.{ℕ, ◌<◌, ◌≤◌, ◌^◌, List}
use Rattle.std.specs.Int.{w32, to_le_bytes}
use Rattle.nla_wire.specs.Canon.{AllFit, canons}
use Rattle.nla_wire.specs.FlatViews.{flat_bytes}
use Rattle.link_vals.specs.LinkExtentMaskTable.{ext_sum}
use Rattle.link_vals.specs.LinkPhysIdBytes.{phys_id_bytes}
use Rattle.link_recs.specs.StatsFields.{stats_bytes}
use Rattle.link_recs.specs.Stats64Fields.{stats64_bytes}
use Rattle.link_recs.specs.MapFields.{map_bytes}
use Rattle.link_nest.specs.Tables.{prop_place, devlink_port_place, dpll_pin_place, down_reason_place, xdp_place}
use Rattle.link_nest.specs.Tables.{link_info_place}
use Rattle.link_nest.specs.Wireless.{wireless_encoding, WirelessFits}
use Rattle.link_vf.specs.Tables.{vf_port_place, link_vf_info_place, link_vf_port_place}
use Rattle.link_afspec.specs.Tables.{af_spec_unspec_place, af_spec_bridge_place, link_proto_info_bridge_place}
use Rattle.link_afspec.specs.Tables.{link_proto_info_inet6_place}
use Rattle.link_vals.specs.declared.ext_mask.LinkExtentMask.{LinkExtentMask}
use Rattle.link_vals.specs.declared.phys_id.LinkPhysId.{LinkPhysId}
use Rattle.link_recs.specs.declared.stats.Stats.{Stats}
use Rattle.link_recs.specs.declared.stats64.Stats64.{Stats64}
use Rattle.link_recs.specs.declared.map.Map.{Map}
use Rattle.link_nest.specs.declared.wireless.WirelessEvent.{WirelessEvent}
use Rattle.link_nest.specs.declared.prop_list.Prop.{Prop}
use Rattle.link_nest.specs.declared.devlink_port.DevlinkPort.{DevlinkPort}
use Rattle.link_nest.specs.declared.dpll_pin.DpllPin.{DpllPin}
use Rattle.link_nest.specs.declared.down_reason.LinkProtocolDownReason.{LinkProtocolDownReason}
use Rattle.link_nest.specs.declared.xdp.LinkXdp.{LinkXdp}
use Rattle.link_nest.specs.declared.link_info.LinkInfo.{LinkInfo}
use Rattle.link_vf.specs.declared.vf_list.LinkVfInfo.{LinkVfInfo}
use Rattle.link_vf.specs.declared.port_list.LinkVfPort.{LinkVfPort}
use Rattle.link_vf.specs.declared.vf_port.VfPort.{VfPort}
use Rattle.link_afspec.specs.declared.unspec.AfSpecUnspec.{AfSpecUnspec}
use Rattle.link_afspec.specs.declared.bridge.AfSpecBridge.{AfSpecBridge}
use Rattle.link_afspec.specs.declared.proto_bridge.LinkProtoInfoBridge.{LinkProtoInfoBridge}
use Rattle.link_afspec.specs.declared.proto_inet6.LinkProtoInfoInet6.{LinkProtoInfoInet6}
use Rattle.link_msg.specs.Tables.{attribute_frame}
use Rattle.link_msg.specs.declared.attribute.LinkAttribute.{LinkAttribute}
use Rattle.link_msg.specs.declared.attribute.LinkAttribute.TheVariants as Attributes
use Rattle.link_msg.specs.declared.view.View.{View}
use Rattle.link_msg.specs.declared.view.View.TheVariants as Views

abbrev pub view_bytes : View → List ℕ
view_bytes (Views.Flat flat) = flat_bytes flat
view_bytes (Views.Id id) = phys_id_bytes id.now
view_bytes (Views.Stats stats) = stats_bytes stats.now
view_bytes (Views.Stats64 stats) = stats64_bytes stats.now
view_bytes (Views.Map map) = map_bytes map.now
view_bytes (Views.Mask flags) = to_le_bytes w32 (ext_sum flags.now)
view_bytes (Views.Event event) = wireless_encoding event.now
view_bytes (Views.Port vs) = canons vf_port_place.frame vs.now
view_bytes (Views.Infos vs) = canons link_info_place.frame vs.now
view_bytes (Views.Functions vs) = canons link_vf_info_place.frame vs.now
view_bytes (Views.Ports vs) = canons link_vf_port_place.frame vs.now
view_bytes (Views.Xdps vs) = canons xdp_place.frame vs.now
view_bytes (Views.Props vs) = canons prop_place.frame vs.now
view_bytes (Views.Reasons vs) = canons down_reason_place.frame vs.now
view_bytes (Views.DevlinkPorts vs) = canons devlink_port_place.frame vs.now
view_bytes (Views.DpllPins vs) = canons dpll_pin_place.frame vs.now
view_bytes (Views.BridgeInfos vs) = canons link_proto_info_bridge_place.frame vs.now
view_bytes (Views.Inet6Infos vs) = canons link_proto_info_inet6_place.frame vs.now
view_bytes (Views.Bridges vs) = canons af_spec_bridge_place.frame vs.now
view_bytes (Views.Unspecs vs) = canons af_spec_unspec_place.frame vs.now

-- what is inside of it fits
abbrev pub ViewFits : View → Type 0
ViewFits (Views.Id id) = id.now.len ≤ 32
ViewFits (Views.Mask flags) = ext_sum flags.now < 2 ^ 32
ViewFits (Views.Event event) = WirelessFits event.now
ViewFits (Views.Port vs) = AllFit vf_port_place.Fits vf_port_place.frame vs.now
ViewFits (Views.Infos vs) = AllFit link_info_place.Fits link_info_place.frame vs.now
ViewFits (Views.Functions vs) = AllFit link_vf_info_place.Fits link_vf_info_place.frame vs.now
ViewFits (Views.Ports vs) = AllFit link_vf_port_place.Fits link_vf_port_place.frame vs.now
ViewFits (Views.Xdps vs) = AllFit xdp_place.Fits xdp_place.frame vs.now
ViewFits (Views.Props vs) = AllFit prop_place.Fits prop_place.frame vs.now
ViewFits (Views.Reasons vs) = AllFit down_reason_place.Fits down_reason_place.frame vs.now
ViewFits (Views.DevlinkPorts vs) = AllFit devlink_port_place.Fits devlink_port_place.frame vs.now
ViewFits (Views.DpllPins vs) = AllFit dpll_pin_place.Fits dpll_pin_place.frame vs.now
ViewFits (Views.BridgeInfos vs) =
    AllFit link_proto_info_bridge_place.Fits link_proto_info_bridge_place.frame vs.now
ViewFits (Views.Inet6Infos vs) = AllFit link_proto_info_inet6_place.Fits link_proto_info_inet6_place.frame vs.now
ViewFits (Views.Bridges vs) = AllFit af_spec_bridge_place.Fits af_spec_bridge_place.frame vs.now
ViewFits (Views.Unspecs vs) = AllFit af_spec_unspec_place.Fits af_spec_unspec_place.frame vs.now
ViewFits _ = Unit {0}

-- ** the value

-- what an attribute's value is: what its payload spells, where it is one number, text or bytes, and else what it holds
pub data Viewed : Type 0 where
  flat : List ℕ → Viewed
  id : LinkPhysId → Viewed
  stats : Stats → Viewed
  stats64 : Stats64 → Viewed
  map : Map → Viewed
  mask : List LinkExtentMask → Viewed
  event : WirelessEvent → Viewed
  port : List VfPort → Viewed
  infos : List LinkInfo → Viewed
  functions : List LinkVfInfo → Viewed
  ports : List LinkVfPort → Viewed
  xdps : List LinkXdp → Viewed
  props : List Prop → Viewed
  reasons : List LinkProtocolDownReason → Viewed
  devlink_ports : List DevlinkPort → Viewed
  dpll_pins : List DpllPin → Viewed
  bridge_infos : List LinkProtoInfoBridge → Viewed
  inet6_infos : List LinkProtoInfoInet6 → Viewed
  bridges : List AfSpecBridge → Viewed
  unspecs : List AfSpecUnspec → Viewed

-- what a view lends
abbrev pub view_now : View → Viewed
view_now (Views.Flat v) = Viewed.flat (flat_bytes v)
view_now (Views.Id v) = Viewed.id v.now
view_now (Views.Stats v) = Viewed.stats v.now
view_now (Views.Stats64 v) = Viewed.stats64 v.now
view_now (Views.Map v) = Viewed.map v.now
view_now (Views.Mask v) = Viewed.mask v.now
view_now (Views.Event v) = Viewed.event v.now
view_now (Views.Port v) = Viewed.port v.now
view_now (Views.Infos v) = Viewed.infos v.now
view_now (Views.Functions v) = Viewed.functions v.now
view_now (Views.Ports v) = Viewed.ports v.now
view_now (Views.Xdps v) = Viewed.xdps v.now
view_now (Views.Props v) = Viewed.props v.now
view_now (Views.Reasons v) = Viewed.reasons v.now
view_now (Views.DevlinkPorts v) = Viewed.devlink_ports v.now
view_now (Views.DpllPins v) = Viewed.dpll_pins v.now
view_now (Views.BridgeInfos v) = Viewed.bridge_infos v.now
view_now (Views.Inet6Infos v) = Viewed.inet6_infos v.now
view_now (Views.Bridges v) = Viewed.bridges v.now
view_now (Views.Unspecs v) = Viewed.unspecs v.now

-- what the value of an attribute is
abbrev pub viewed : LinkAttribute → Viewed
viewed (Attributes.PhysPortId v) = Viewed.id v
viewed (Attributes.PhysSwitchId v) = Viewed.id v
viewed (Attributes.Stats v) = Viewed.stats v
viewed (Attributes.Stats64 v) = Viewed.stats64 v
viewed (Attributes.Map v) = Viewed.map v
viewed (Attributes.ExtMask v) = Viewed.mask v
viewed (Attributes.Wireless v) = Viewed.event v
viewed (Attributes.PortSelf v) = Viewed.port v.0
viewed (Attributes.LinkInfo v) = Viewed.infos v
viewed (Attributes.VfInfoList v) = Viewed.functions v
viewed (Attributes.VfPorts v) = Viewed.ports v
viewed (Attributes.Xdp v) = Viewed.xdps v
viewed (Attributes.PropList v) = Viewed.props v
viewed (Attributes.ProtoDownReason v) = Viewed.reasons v
viewed (Attributes.DevlinkPort v) = Viewed.devlink_ports v
viewed (Attributes.DpllPin v) = Viewed.dpll_pins v
viewed (Attributes.ProtoInfoBridge v) = Viewed.bridge_infos v
viewed (Attributes.ProtoInfoInet6 v) = Viewed.inet6_infos v
viewed (Attributes.AfSpecBridge v) = Viewed.bridges v
viewed (Attributes.AfSpecUnspec v) = Viewed.unspecs v
viewed v = Viewed.flat (attribute_frame v).payload
