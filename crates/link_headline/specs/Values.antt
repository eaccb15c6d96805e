-- How the values of each table are written, whether they fit and how many they are, by the tables that the code goes
-- by. Nothing here has to be read: `AllFollowRows`, which is in the headline, says of each what it does.
use Rattle.link_nest.specs.Tables.{prop_place, devlink_port_place, dpll_pin_place, down_reason_place, xdp_place}
use Rattle.link_nest.specs.Tables.{link_info_place}
use Rattle.link_nest.specs.declared.prop_list.Prop.{Prop}
use Rattle.link_nest.specs.declared.devlink_port.DevlinkPort.{DevlinkPort}
use Rattle.link_nest.specs.declared.dpll_pin.DpllPin.{DpllPin}
use Rattle.link_nest.specs.declared.down_reason.LinkProtocolDownReason.{LinkProtocolDownReason}
use Rattle.link_nest.specs.declared.xdp.LinkXdp.{LinkXdp}
use Rattle.link_nest.specs.declared.link_info.LinkInfo.{LinkInfo}
use Rattle.link_vf.specs.Tables.{vf_stats_place, vf_vlan_place, vf_info_place, vf_port_place}
use Rattle.link_vf.specs.declared.stats.VfStats.{VfStats}
use Rattle.link_vf.specs.declared.vf_vlan.VfVlan.{VfVlan}
use Rattle.link_vf.specs.declared.vf_info.VfInfo.{VfInfo}
use Rattle.link_vf.specs.declared.vf_port.VfPort.{VfPort}
use Rattle.link_afspec.specs.Tables.{af_spec_mctp_place, af_spec_inet_place, af_spec_inet6_place, af_spec_unspec_place}
use Rattle.link_afspec.specs.Tables.{af_spec_bridge_place, link_proto_info_bridge_place, link_proto_info_inet6_place}
use Rattle.link_afspec.specs.declared.mctp.AfSpecMctp.{AfSpecMctp}
use Rattle.link_afspec.specs.declared.inet.AfSpecInet.{AfSpecInet}
use Rattle.link_afspec.specs.declared.inet6.AfSpecInet6.{AfSpecInet6}
use Rattle.link_afspec.specs.declared.unspec.AfSpecUnspec.{AfSpecUnspec}
use Rattle.link_afspec.specs.declared.bridge.AfSpecBridge.{AfSpecBridge}
use Rattle.link_afspec.specs.declared.proto_bridge.LinkProtoInfoBridge.{LinkProtoInfoBridge}
use Rattle.link_afspec.specs.declared.proto_inet6.LinkProtoInfoInet6.{LinkProtoInfoInet6}
use Rattle.nla_wire.proofs.Codec.{Place}
use Rattle.link_msg.specs.Tables.{attribute_frame, AttributeFits, attribute_count}
use Rattle.link_msg.specs.declared.attribute.LinkAttribute.{LinkAttribute}
use Rattle.link_headline.specs.Rows.{Written}

abbrev pub written_by : {V : Type 0} → Place V → Written V
written_by p = record { frame = p.frame; Fits = p.Fits; count = p.count }

abbrev pub props : Written Prop
props = written_by prop_place

abbrev pub devlink_ports : Written DevlinkPort
devlink_ports = written_by devlink_port_place

abbrev pub dpll_pins : Written DpllPin
dpll_pins = written_by dpll_pin_place

abbrev pub reasons : Written LinkProtocolDownReason
reasons = written_by down_reason_place

abbrev pub xdps : Written LinkXdp
xdps = written_by xdp_place

abbrev pub infos : Written LinkInfo
infos = written_by link_info_place

abbrev pub function_stats : Written VfStats
function_stats = written_by vf_stats_place

abbrev pub function_vlans : Written VfVlan
function_vlans = written_by vf_vlan_place

abbrev pub functions : Written VfInfo
functions = written_by vf_info_place

abbrev pub ports : Written VfPort
ports = written_by vf_port_place

abbrev pub mctps : Written AfSpecMctp
mctps = written_by af_spec_mctp_place

abbrev pub inets : Written AfSpecInet
inets = written_by af_spec_inet_place

abbrev pub inet6s : Written AfSpecInet6
inet6s = written_by af_spec_inet6_place

abbrev pub families : Written AfSpecUnspec
families = written_by af_spec_unspec_place

abbrev pub bridges : Written AfSpecBridge
bridges = written_by af_spec_bridge_place

abbrev pub bridge_infos : Written LinkProtoInfoBridge
bridge_infos = written_by link_proto_info_bridge_place

abbrev pub inet6_infos : Written LinkProtoInfoInet6
inet6_infos = written_by link_proto_info_inet6_place

abbrev pub attributes : Written LinkAttribute
attributes = record { frame = attribute_frame; Fits = AttributeFits; count = attribute_count }
