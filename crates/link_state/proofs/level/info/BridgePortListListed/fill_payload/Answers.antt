use Rattle.std.proofs.Common.{rules}
use Rattle.link_state.specs.declared.level.Level.TheVariants.{BridgePort}
use Rattle.link_state.proofs.Rows.{other_stays}
use Rattle.link_state.proofs.level.info.BridgePortListListed.fill_payload.Goals as goal

pub returns-in_default : goal.returns-in_default
returns-in_default g c = other_stays g.row.BY BridgePort c.args.number c.args.payload.now (Prim.search rules)
