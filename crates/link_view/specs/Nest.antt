-- What members of the lists of link_nest stand for over borrowed bytes,
-- made by scripts/erase/borrowed.py of the rows of its enums: do not edit.
use Rattle.std.specs.Prelude.{Result, Ok}
use Rattle.nla_wire.specs.declared.error.Cause.{Cause}
use Rattle.link_nest.specs.declared.devlink_port.DevlinkPort.{DevlinkPort}
use Rattle.link_nest.specs.declared.devlink_port.DevlinkPort.TheVariants as DevlinkPortOf
use Rattle.link_view.specs.declared.nest.devlink_port.BorrowedDevlinkPort.{BorrowedDevlinkPort}
use Rattle.link_view.specs.declared.nest.devlink_port.BorrowedDevlinkPort.TheVariants as BorrowedDevlinkPortOf
use Rattle.link_nest.specs.declared.down_reason.LinkProtocolDownReason.{LinkProtocolDownReason}
use Rattle.link_nest.specs.declared.down_reason.LinkProtocolDownReason.TheVariants as LinkProtocolDownReasonOf
use Rattle.link_view.specs.declared.nest.link_protocol_down_reason.BorrowedLinkProtocolDownReason as down_reason
use down_reason.{BorrowedLinkProtocolDownReason}
use down_reason.TheVariants as BorrowedLinkProtocolDownReasonOf
use Rattle.link_nest.specs.declared.dpll_pin.DpllPin.{DpllPin}
use Rattle.link_nest.specs.declared.dpll_pin.DpllPin.TheVariants as DpllPinOf
use Rattle.link_view.specs.declared.nest.dpll_pin.BorrowedDpllPin.{BorrowedDpllPin}
use Rattle.link_view.specs.declared.nest.dpll_pin.BorrowedDpllPin.TheVariants as BorrowedDpllPinOf
use Rattle.link_nest.specs.declared.link_info.LinkInfo.{LinkInfo}
use Rattle.link_nest.specs.declared.link_info.LinkInfo.TheVariants as LinkInfoOf
use Rattle.link_view.specs.declared.nest.link_info.BorrowedLinkInfo.{BorrowedLinkInfo}
use Rattle.link_view.specs.declared.nest.link_info.BorrowedLinkInfo.TheVariants as BorrowedLinkInfoOf
use Rattle.link_nest.specs.declared.prop_list.Prop.{Prop}
use Rattle.link_nest.specs.declared.prop_list.Prop.TheVariants as PropOf
use Rattle.link_view.specs.declared.nest.prop.BorrowedProp.{BorrowedProp}
use Rattle.link_view.specs.declared.nest.prop.BorrowedProp.TheVariants as BorrowedPropOf
use Rattle.link_nest.specs.declared.xdp.LinkXdp.{LinkXdp}
use Rattle.link_nest.specs.declared.xdp.LinkXdp.TheVariants as LinkXdpOf
use Rattle.link_view.specs.declared.nest.link_xdp.BorrowedLinkXdp.{BorrowedLinkXdp}
use Rattle.link_view.specs.declared.nest.link_xdp.BorrowedLinkXdp.TheVariants as BorrowedLinkXdpOf

-- what `parse` reads of it: the same variant with the same value; of a list what its payload is read as, or its fault
abbrev pub owned_devlink_port : BorrowedDevlinkPort → Result DevlinkPort Cause
owned_devlink_port (BorrowedDevlinkPortOf.BusName v) = Ok (DevlinkPortOf.BusName v.now)
owned_devlink_port (BorrowedDevlinkPortOf.DevName v) = Ok (DevlinkPortOf.DevName v.now)
owned_devlink_port (BorrowedDevlinkPortOf.PortIndex v) = Ok (DevlinkPortOf.PortIndex v)
owned_devlink_port (BorrowedDevlinkPortOf.Other v) = Ok (DevlinkPortOf.Other v)

-- what `parse` reads of it: the same variant with the same value; of a list what its payload is read as, or its fault
abbrev pub owned_link_protocol_down_reason : BorrowedLinkProtocolDownReason → Result LinkProtocolDownReason Cause
owned_link_protocol_down_reason (BorrowedLinkProtocolDownReasonOf.Mask v) = Ok (LinkProtocolDownReasonOf.Mask v)
owned_link_protocol_down_reason (BorrowedLinkProtocolDownReasonOf.Value v) = Ok (LinkProtocolDownReasonOf.Value v)
owned_link_protocol_down_reason (BorrowedLinkProtocolDownReasonOf.Other v) = Ok (LinkProtocolDownReasonOf.Other v)

-- what `parse` reads of it: the same variant with the same value; of a list what its payload is read as, or its fault
abbrev pub owned_dpll_pin : BorrowedDpllPin → Result DpllPin Cause
owned_dpll_pin (BorrowedDpllPinOf.PinId v) = Ok (DpllPinOf.PinId v)
owned_dpll_pin (BorrowedDpllPinOf.Other v) = Ok (DpllPinOf.Other v)

-- what `parse` reads of it: the same variant with the same value; of a list what its payload is read as, or its fault
abbrev pub owned_link_info : BorrowedLinkInfo → Result LinkInfo Cause
owned_link_info (BorrowedLinkInfoOf.Kind v) = Ok (LinkInfoOf.Kind v.now)
owned_link_info (BorrowedLinkInfoOf.Other v) = Ok (LinkInfoOf.Other v)

-- what `parse` reads of it: the same variant with the same value; of a list what its payload is read as, or its fault
abbrev pub owned_prop : BorrowedProp → Result Prop Cause
owned_prop (BorrowedPropOf.AltIfName v) = Ok (PropOf.AltIfName v.now)
owned_prop (BorrowedPropOf.Other v) = Ok (PropOf.Other v)

-- what `parse` reads of it: the same variant with the same value; of a list what its payload is read as, or its fault
abbrev pub owned_link_xdp : BorrowedLinkXdp → Result LinkXdp Cause
owned_link_xdp (BorrowedLinkXdpOf.Fd v) = Ok (LinkXdpOf.Fd v)
owned_link_xdp (BorrowedLinkXdpOf.Attached v) = Ok (LinkXdpOf.Attached v)
owned_link_xdp (BorrowedLinkXdpOf.Flags v) = Ok (LinkXdpOf.Flags v)
owned_link_xdp (BorrowedLinkXdpOf.ProgId v) = Ok (LinkXdpOf.ProgId v)
owned_link_xdp (BorrowedLinkXdpOf.DrvProgId v) = Ok (LinkXdpOf.DrvProgId v)
owned_link_xdp (BorrowedLinkXdpOf.SkbProgId v) = Ok (LinkXdpOf.SkbProgId v)
owned_link_xdp (BorrowedLinkXdpOf.HwProgId v) = Ok (LinkXdpOf.HwProgId v)
owned_link_xdp (BorrowedLinkXdpOf.ExpectedFd v) = Ok (LinkXdpOf.ExpectedFd v)
owned_link_xdp (BorrowedLinkXdpOf.Other v) = Ok (LinkXdpOf.Other v)
