-- The table of the state encoding that code goes by has the kernel's numbers.
use Rattle.std.specs.Prelude.{◌≡◌, refl}
use Rattle.link_state.specs.Table.{rows}
use Rattle.link_state.specs.declared.level.Level.{Level}
use Rattle.link_state.specs.declared.level.Level.TheVariants.{Message, Families, Inet6, Functions, Function}
use Rattle.link_state.specs.declared.level.Level.TheVariants.{FunctionStats, Info, Bridge, Querier, BridgePort}
use Rattle.link_state.specs.declared.level.Level.TheVariants.{BondPort, Can, Hsr}
use Rattle.link_headline.specs.StateRows.{kernel_rows}

pub same_rows : (level : Level) → rows level ≡ kernel_rows level
same_rows (Message family) = refl
same_rows Families = refl
same_rows Inet6 = refl
same_rows Functions = refl
same_rows Function = refl
same_rows FunctionStats = refl
same_rows (Info kind slave_kind) = refl
same_rows Bridge = refl
same_rows Querier = refl
same_rows BridgePort = refl
same_rows BondPort = refl
same_rows Can = refl
same_rows Hsr = refl
