-- The table of the state encoding by the kernel's numbers (linux/if_link.h, linux/if_bridge.h, linux/can/netlink.h, and
-- linux/socket.h for the family). What becomes of a row is as `link_state/specs/Table.antt` has it.
use Rattle.std.specs.Prelude.{ℕ, List, [], ◌∷◌, ◌≡◌}
use Rattle.link_state.specs.Table.{Action, proto_info_action, af_spec_action, data_action, slave_data_action, rows}
use Rattle.link_state.specs.Table.Action.{Clear, ClearPart, Enter, EnterInfo}
use Rattle.link_state.specs.declared.level.Level.{Level}
use Rattle.link_state.specs.declared.level.Level.TheVariants.{Message, Families, Inet6, Functions, Function}
use Rattle.link_state.specs.declared.level.Level.TheVariants.{FunctionStats, Info, Bridge, Querier, BridgePort}
use Rattle.link_state.specs.declared.level.Level.TheVariants.{BondPort, Can, Hsr}

-- the numbers of a list of which something moves by itself
abbrev pub kernel_rows : Level → List (ℕ × Action)
kernel_rows (Message family) =
    (7, Clear)
    ∷ (12, proto_info_action family)
    ∷ (18, EnterInfo)
    ∷ (22, Enter Functions)
    ∷ (23, Clear)
    ∷ (26, af_spec_action family)
    ∷ (35, Clear)
    ∷ (44, Clear)
    ∷ (47, Clear)
    ∷ (48, Clear)
    ∷ []
kernel_rows Families = (10, Enter Inet6) ∷ []
kernel_rows Inet6 =
    (3, Clear)
    ∷ (5, ClearPart 4 12)
    ∷ (6, Clear)
    ∷ []
kernel_rows Functions = (1, Enter Function) ∷ []
kernel_rows Function = (8, Enter FunctionStats) ∷ (13, Clear) ∷ []
kernel_rows FunctionStats =
    (0, Clear)
    ∷ (1, Clear)
    ∷ (2, Clear)
    ∷ (3, Clear)
    ∷ (4, Clear)
    ∷ (5, Clear)
    ∷ (7, Clear)
    ∷ (8, Clear)
    ∷ []
kernel_rows (Info kind slave_kind) =
    (2, data_action kind)
    ∷ (3, Clear)
    ∷ (5, slave_data_action slave_kind)
    ∷ []
kernel_rows Bridge =
    (16, Clear)
    ∷ (17, Clear)
    ∷ (18, Clear)
    ∷ (19, Clear)
    ∷ (47, Enter Querier)
    ∷ (48, Clear)
    ∷ []
kernel_rows Querier = (3, Clear) ∷ (7, Clear) ∷ []
kernel_rows BridgePort =
    (19, Clear)
    ∷ (20, Clear)
    ∷ (21, Clear)
    ∷ (22, Clear)
    ∷ (23, Clear)
    ∷ (38, Clear)
    ∷ (41, Clear)
    ∷ []
kernel_rows BondPort = (3, Clear) ∷ []
kernel_rows Can = (8, Clear) ∷ []
kernel_rows Hsr = (5, Clear) ∷ []

-- the code's own table, which names its constants, has these numbers
abbrev pub SameStateRows : Type 0
SameStateRows = (level : Level) → rows level ≡ kernel_rows level
