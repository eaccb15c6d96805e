-- The inner lists as tables (linux/if_link.h, linux/devlink.h, linux/dpll.h).
--
-- A line says three things of an attribute: its number, what its payload is, and the variant that the value becomes.
-- The lines stand in the order in which the variants are declared, and `keeps` is for all frames that no line reads. Of
-- such a table `.grammar` is how frames are read, `.frame` how a value is written, `.Fits` when it can be, `.count` how
-- many values it is, and `.lawful` holds what is proved of them.
use Rattle.std.specs.Prelude.{◌≤◌, length, refl}
use Rattle.std.specs.Int.{w8}
use Rattle.nla_wire.specs.Sizes.{most_payload, plain_growth, inner_small}
use Rattle.nla_wire.proofs.Lawful.{always}
use Rattle.nla_wire.proofs.Codec.{Codec, Place, text, u32, i32, enum}
use Rattle.nla_wire.proofs.Variants.{Table, place, no_shapes, line, keeps, ◌&◌}
use Rattle.link_vals.specs.XdpAttachedTable.{xdp_attached_of, xdp_attached_number}
use Rattle.link_vals.proofs.Numbers.{xdp_attached_again}
use Rattle.link_vals.specs.declared.xdp_attached.XdpAttached.{XdpAttached}
use Rattle.link_nest.specs.declared.numbers.TheConstants as kernel
use Rattle.link_nest.specs.declared.prop_list.Prop.{Prop}
use Rattle.link_nest.specs.declared.prop_list.Prop.TheVariants as prop
use Rattle.link_nest.specs.contracts.prop_list.Prop.{enum as props}
use Rattle.link_nest.specs.declared.devlink_port.DevlinkPort.{DevlinkPort}
use Rattle.link_nest.specs.declared.devlink_port.DevlinkPort.TheVariants as port
use Rattle.link_nest.specs.contracts.devlink_port.DevlinkPort.{enum as ports}
use Rattle.link_nest.specs.declared.dpll_pin.DpllPin.{DpllPin}
use Rattle.link_nest.specs.declared.dpll_pin.DpllPin.TheVariants as pin
use Rattle.link_nest.specs.contracts.dpll_pin.DpllPin.{enum as pins}
use Rattle.link_nest.specs.declared.down_reason.LinkProtocolDownReason.{LinkProtocolDownReason}
use Rattle.link_nest.specs.declared.down_reason.LinkProtocolDownReason.TheVariants as reason
use Rattle.link_nest.specs.contracts.down_reason.LinkProtocolDownReason.{enum as reasons}
use Rattle.link_nest.specs.declared.xdp.LinkXdp.{LinkXdp}
use Rattle.link_nest.specs.declared.xdp.LinkXdp.TheVariants as xdp
use Rattle.link_nest.specs.contracts.xdp.LinkXdp.{enum as xdps}
use Rattle.link_nest.specs.declared.link_info.LinkInfo.{LinkInfo}
use Rattle.link_nest.specs.declared.link_info.LinkInfo.TheVariants as info
use Rattle.link_nest.specs.contracts.link_info.LinkInfo.{enum as infos}

-- members of IFLA_PROP_LIST
abbrev pub prop_table : Table no_shapes props always
prop_table =
    line kernel.IFLA_ALT_IFNAME text prop.AltIfName
    & keeps prop.Other
    & tt

unfoldable pub prop_place : Place Prop
prop_place = place no_shapes props plain_growth 0 inner_small prop_table prop.Other (λ f. refl) tt tt tt

pub prop_small : (v : Prop) → length (prop_place.frame v).payload ≤ most_payload → prop_place.Fits v
unfolding prop_place
prop_small = prop_place.when_small tt

-- members of IFLA_DEVLINK_PORT
abbrev pub devlink_port_table : Table no_shapes ports always
devlink_port_table =
    line kernel.DEVLINK_ATTR_BUS_NAME text port.BusName
    & line kernel.DEVLINK_ATTR_DEV_NAME text port.DevName
    & line kernel.DEVLINK_ATTR_PORT_INDEX u32 port.PortIndex
    & keeps port.Other
    & tt

unfoldable pub devlink_port_place : Place DevlinkPort
devlink_port_place = place no_shapes ports plain_growth 0 inner_small devlink_port_table port.Other (λ f. refl) tt tt tt

pub devlink_port_small : (v : DevlinkPort) → length (devlink_port_place.frame v).payload ≤ most_payload
    → devlink_port_place.Fits v
unfolding devlink_port_place
devlink_port_small = devlink_port_place.when_small tt

-- members of IFLA_DPLL_PIN
abbrev pub dpll_pin_table : Table no_shapes pins always
dpll_pin_table =
    line kernel.DPLL_A_PIN_ID u32 pin.PinId
    & keeps pin.Other
    & tt

unfoldable pub dpll_pin_place : Place DpllPin
dpll_pin_place = place no_shapes pins plain_growth 0 inner_small dpll_pin_table pin.Other (λ f. refl) tt tt tt

pub dpll_pin_small : (v : DpllPin) → length (dpll_pin_place.frame v).payload ≤ most_payload → dpll_pin_place.Fits v
unfolding dpll_pin_place
dpll_pin_small = dpll_pin_place.when_small tt

-- members of IFLA_PROTO_DOWN_REASON
abbrev pub down_reason_table : Table no_shapes reasons always
down_reason_table =
    line kernel.IFLA_PROTO_DOWN_REASON_MASK u32 reason.Mask
    & line kernel.IFLA_PROTO_DOWN_REASON_VALUE u32 reason.Value
    & keeps reason.Other
    & tt

unfoldable pub down_reason_place : Place LinkProtocolDownReason
down_reason_place =
    place no_shapes reasons plain_growth 0 inner_small down_reason_table reason.Other (λ f. refl) tt tt tt

pub down_reason_small : (v : LinkProtocolDownReason) → length (down_reason_place.frame v).payload ≤ most_payload
    → down_reason_place.Fits v
unfolding down_reason_place
down_reason_small = down_reason_place.when_small tt

-- where a program is attached, one byte
abbrev pub xdp_attached : Codec XdpAttached
xdp_attached = enum w8 xdp_attached_of xdp_attached_number xdp_attached_again

-- members of IFLA_XDP
abbrev pub xdp_table : Table no_shapes xdps always
xdp_table =
    line kernel.IFLA_XDP_FD i32 xdp.Fd
    & line kernel.IFLA_XDP_ATTACHED xdp_attached xdp.Attached
    & line kernel.IFLA_XDP_FLAGS u32 xdp.Flags
    & line kernel.IFLA_XDP_PROG_ID u32 xdp.ProgId
    & line kernel.IFLA_XDP_DRV_PROG_ID u32 xdp.DrvProgId
    & line kernel.IFLA_XDP_SKB_PROG_ID u32 xdp.SkbProgId
    & line kernel.IFLA_XDP_HW_PROG_ID u32 xdp.HwProgId
    & line kernel.IFLA_XDP_EXPECTED_FD u32 xdp.ExpectedFd
    & keeps xdp.Other
    & tt

unfoldable pub xdp_place : Place LinkXdp
xdp_place = place no_shapes xdps plain_growth 0 inner_small xdp_table xdp.Other (λ f. refl) tt tt tt

pub xdp_small : (v : LinkXdp) → length (xdp_place.frame v).payload ≤ most_payload → xdp_place.Fits v
unfolding xdp_place
xdp_small = xdp_place.when_small tt

-- members of IFLA_LINKINFO, with the data kept as they are
abbrev pub link_info_table : Table no_shapes infos always
link_info_table =
    line kernel.IFLA_INFO_KIND text info.Kind
    & keeps info.Other
    & tt

unfoldable pub link_info_place : Place LinkInfo
link_info_place = place no_shapes infos plain_growth 0 inner_small link_info_table info.Other (λ f. refl) tt tt tt

pub link_info_small : (v : LinkInfo) → length (link_info_place.frame v).payload ≤ most_payload → link_info_place.Fits v
unfolding link_info_place
link_info_small = link_info_place.when_small tt
