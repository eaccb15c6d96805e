-- What attributes over borrowed bytes stand for, made by scripts/erase/borrowed.py of the rows of `LinkAttribute` and
-- of the lines of its table: do not edit.
use Rattle.std.specs.Prelude.{Result, Ok}
use Rattle.nla_wire.specs.Reading.{◌>>=◌}
use Rattle.nla_wire.specs.declared.error.Cause.{Cause}
use Rattle.link_vals.specs.LinkExtentMaskTable.{ext_list}
use Rattle.link_msg.specs.Tables.{bridge_infos, bridges, devlink_ports, dpll_pins, functions}
use Rattle.link_msg.specs.Tables.{inet6_infos, infos, port, ports, props, reasons, unspecs, xdps}
use Rattle.link_msg.specs.declared.attribute.LinkAttribute.{LinkAttribute}
use Rattle.link_msg.specs.declared.attribute.LinkAttribute.TheVariants as Attributes
use Rattle.link_view.specs.Events.{owned_event}
use Rattle.link_view.specs.declared.borrowed.BorrowedAttribute.{BorrowedAttribute}
use Rattle.link_view.specs.declared.borrowed.BorrowedAttribute.TheVariants as Borrowed

-- what `parse` reads of it: the same variant with the same value; of a list what its payload is read as, or its fault
abbrev pub owned : BorrowedAttribute → Result LinkAttribute Cause
owned (Borrowed.Address v) = Ok (Attributes.Address v.now)
owned (Borrowed.Broadcast v) = Ok (Attributes.Broadcast v.now)
owned (Borrowed.IfName v) = Ok (Attributes.IfName v.now)
owned (Borrowed.Mtu v) = Ok (Attributes.Mtu v)
owned (Borrowed.Link v) = Ok (Attributes.Link v)
owned (Borrowed.Qdisc v) = Ok (Attributes.Qdisc v.now)
owned (Borrowed.Stats v) = Ok (Attributes.Stats v)
owned (Borrowed.Controller v) = Ok (Attributes.Controller v)
owned (Borrowed.Wireless v) = Ok (Attributes.Wireless (owned_event v))
owned (Borrowed.ProtoInfoBridge v) = bridge_infos.grammar.reads v.now >>= λ vs. Ok (Attributes.ProtoInfoBridge vs)
owned (Borrowed.ProtoInfoInet6 v) = inet6_infos.grammar.reads v.now >>= λ vs. Ok (Attributes.ProtoInfoInet6 vs)
owned (Borrowed.ProtoInfoUnknown v) = Ok (Attributes.ProtoInfoUnknown v)
owned (Borrowed.TxQueueLen v) = Ok (Attributes.TxQueueLen v)
owned (Borrowed.Map v) = Ok (Attributes.Map v)
owned (Borrowed.OperState v) = Ok (Attributes.OperState v)
owned (Borrowed.Mode v) = Ok (Attributes.Mode v)
owned (Borrowed.LinkInfo v) = infos.codec.grammar.reads v.now >>= λ vs. Ok (Attributes.LinkInfo vs)
owned (Borrowed.NetNsPid v) = Ok (Attributes.NetNsPid v)
owned (Borrowed.IfAlias v) = Ok (Attributes.IfAlias v.now)
owned (Borrowed.NumVf v) = Ok (Attributes.NumVf v)
owned (Borrowed.VfInfoList v) = functions.codec.grammar.reads v.now >>= λ vs. Ok (Attributes.VfInfoList vs)
owned (Borrowed.Stats64 v) = Ok (Attributes.Stats64 v)
owned (Borrowed.VfPorts v) = ports.codec.grammar.reads v.now >>= λ vs. Ok (Attributes.VfPorts vs)
owned (Borrowed.PortSelf v) = port.codec.grammar.reads v.now >>= λ vs. Ok (Attributes.PortSelf vs)
owned (Borrowed.AfSpecBridge v) = bridges.grammar.reads v.now >>= λ vs. Ok (Attributes.AfSpecBridge vs)
owned (Borrowed.AfSpecUnspec v) = unspecs.grammar.reads v.now >>= λ vs. Ok (Attributes.AfSpecUnspec vs)
owned (Borrowed.AfSpecUnknown v) = Ok (Attributes.AfSpecUnknown v.now)
owned (Borrowed.Group v) = Ok (Attributes.Group v)
owned (Borrowed.NetNsFd v) = Ok (Attributes.NetNsFd v)
owned (Borrowed.ExtMask v) = Ok (Attributes.ExtMask (ext_list v))
owned (Borrowed.Promiscuity v) = Ok (Attributes.Promiscuity v)
owned (Borrowed.NumTxQueues v) = Ok (Attributes.NumTxQueues v)
owned (Borrowed.NumRxQueues v) = Ok (Attributes.NumRxQueues v)
owned (Borrowed.Carrier v) = Ok (Attributes.Carrier v)
owned (Borrowed.PhysPortId v) = Ok (Attributes.PhysPortId v)
owned (Borrowed.CarrierChanges v) = Ok (Attributes.CarrierChanges v)
owned (Borrowed.PhysSwitchId v) = Ok (Attributes.PhysSwitchId v)
owned (Borrowed.LinkNetNsId v) = Ok (Attributes.LinkNetNsId v)
owned (Borrowed.PhysPortName v) = Ok (Attributes.PhysPortName v.now)
owned (Borrowed.ProtoDown v) = Ok (Attributes.ProtoDown v)
owned (Borrowed.GsoMaxSegs v) = Ok (Attributes.GsoMaxSegs v)
owned (Borrowed.GsoMaxSize v) = Ok (Attributes.GsoMaxSize v)
owned (Borrowed.Xdp v) = xdps.codec.grammar.reads v.now >>= λ vs. Ok (Attributes.Xdp vs)
owned (Borrowed.Event v) = Ok (Attributes.Event v)
owned (Borrowed.NewNetnsId v) = Ok (Attributes.NewNetnsId v)
owned (Borrowed.IfNetnsId v) = Ok (Attributes.IfNetnsId v)
owned (Borrowed.CarrierUpCount v) = Ok (Attributes.CarrierUpCount v)
owned (Borrowed.CarrierDownCount v) = Ok (Attributes.CarrierDownCount v)
owned (Borrowed.NewIfIndex v) = Ok (Attributes.NewIfIndex v)
owned (Borrowed.MinMtu v) = Ok (Attributes.MinMtu v)
owned (Borrowed.MaxMtu v) = Ok (Attributes.MaxMtu v)
owned (Borrowed.PropList v) = props.codec.grammar.reads v.now >>= λ vs. Ok (Attributes.PropList vs)
owned (Borrowed.PermAddress v) = Ok (Attributes.PermAddress v.now)
owned (Borrowed.ProtoDownReason v) = reasons.codec.grammar.reads v.now >>= λ vs. Ok (Attributes.ProtoDownReason vs)
owned (Borrowed.ParentDevName v) = Ok (Attributes.ParentDevName v.now)
owned (Borrowed.ParentDevBusName v) = Ok (Attributes.ParentDevBusName v.now)
owned (Borrowed.GroMaxSize v) = Ok (Attributes.GroMaxSize v)
owned (Borrowed.TsoMaxSize v) = Ok (Attributes.TsoMaxSize v)
owned (Borrowed.TsoMaxSegs v) = Ok (Attributes.TsoMaxSegs v)
owned (Borrowed.AllMulticast v) = Ok (Attributes.AllMulticast v)
owned (Borrowed.DevlinkPort v) = devlink_ports.codec.grammar.reads v.now >>= λ vs. Ok (Attributes.DevlinkPort vs)
owned (Borrowed.GsoIpv4MaxSize v) = Ok (Attributes.GsoIpv4MaxSize v)
owned (Borrowed.GroIpv4MaxSize v) = Ok (Attributes.GroIpv4MaxSize v)
owned (Borrowed.DpllPin v) = dpll_pins.codec.grammar.reads v.now >>= λ vs. Ok (Attributes.DpllPin vs)
owned (Borrowed.NetnsImmutable v) = Ok (Attributes.NetnsImmutable v)
owned (Borrowed.Headroom v) = Ok (Attributes.Headroom v)
owned (Borrowed.Tailroom v) = Ok (Attributes.Tailroom v)
owned (Borrowed.Other v) = Ok (Attributes.Other v)
