use Rattle.std.proofs.Common.{lit≤}
use Rattle.link_msg.specs.declared.shape.Shape.TheVariants as Shapes
use Rattle.link_msg.proofs.Innermost.{shape_path}
use Rattle.link_msg.proofs.fault_at.in_shape.Goals as goal

pub returns-in-Port : goal.returns-in-Port
returns-in-Port c =
    shape_path c.args.shape Shapes.Port c.args.payload.now 1 c.in_list.result
    c.in-Port.is (lit≤ tt) c.in_list.ensures

pub returns-in-Infos : goal.returns-in-Infos
returns-in-Infos c =
    shape_path c.args.shape Shapes.Infos c.args.payload.now 1 c.in_list-in-Infos.result
    c.in-Infos.is (lit≤ tt) c.in_list-in-Infos.ensures

pub returns-in-Functions : goal.returns-in-Functions
returns-in-Functions c =
    shape_path c.args.shape Shapes.Functions c.args.payload.now 3 c.in_functions.result
    c.in-Functions.is (lit≤ tt) c.in_functions.ensures

pub returns-in-Ports : goal.returns-in-Ports
returns-in-Ports c =
    shape_path c.args.shape Shapes.Ports c.args.payload.now 2 c.in_ports.result
    c.in-Ports.is (lit≤ tt) c.in_ports.ensures

pub returns-in-Xdps : goal.returns-in-Xdps
returns-in-Xdps c =
    shape_path c.args.shape Shapes.Xdps c.args.payload.now 1 c.in_list-in-Xdps.result
    c.in-Xdps.is (lit≤ tt) c.in_list-in-Xdps.ensures

pub returns-in-Props : goal.returns-in-Props
returns-in-Props c =
    shape_path c.args.shape Shapes.Props c.args.payload.now 1 c.in_list-in-Props.result
    c.in-Props.is (lit≤ tt) c.in_list-in-Props.ensures

pub returns-in-Reasons : goal.returns-in-Reasons
returns-in-Reasons c =
    shape_path c.args.shape Shapes.Reasons c.args.payload.now 1 c.in_list-in-Reasons.result
    c.in-Reasons.is (lit≤ tt) c.in_list-in-Reasons.ensures

pub returns-in-DevlinkPorts : goal.returns-in-DevlinkPorts
returns-in-DevlinkPorts c =
    shape_path c.args.shape Shapes.DevlinkPorts c.args.payload.now 1 c.in_list-in-DevlinkPorts.result
    c.in-DevlinkPorts.is (lit≤ tt) c.in_list-in-DevlinkPorts.ensures

pub returns-in-DpllPins : goal.returns-in-DpllPins
returns-in-DpllPins c =
    shape_path c.args.shape Shapes.DpllPins c.args.payload.now 1 c.in_list-in-DpllPins.result
    c.in-DpllPins.is (lit≤ tt) c.in_list-in-DpllPins.ensures

pub returns-in-BridgeInfos : goal.returns-in-BridgeInfos
returns-in-BridgeInfos c =
    shape_path c.args.shape Shapes.BridgeInfos c.args.payload.now 1 c.in_list-in-BridgeInfos.result
    c.in-BridgeInfos.is (lit≤ tt) c.in_list-in-BridgeInfos.ensures

pub returns-in-Inet6Infos : goal.returns-in-Inet6Infos
returns-in-Inet6Infos c =
    shape_path c.args.shape Shapes.Inet6Infos c.args.payload.now 1 c.in_list-in-Inet6Infos.result
    c.in-Inet6Infos.is (lit≤ tt) c.in_list-in-Inet6Infos.ensures

pub returns-in-Bridges : goal.returns-in-Bridges
returns-in-Bridges c =
    shape_path c.args.shape Shapes.Bridges c.args.payload.now 1 c.in_list-in-Bridges.result
    c.in-Bridges.is (lit≤ tt) c.in_list-in-Bridges.ensures

pub returns-in-Unspecs : goal.returns-in-Unspecs
returns-in-Unspecs c =
    shape_path c.args.shape Shapes.Unspecs c.args.payload.now 2 c.in_families.result
    c.in-Unspecs.is (lit≤ tt) c.in_families.ensures
