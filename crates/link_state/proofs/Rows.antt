-- Numbers that no row has.
use Rattle.std.proofs.Common.{◌≡◌, ◌≢◌, ℕ, List, [], ◌∷◌, refl, ap, sym, ◌∙◌, ne_eqb}
use Rattle.std.specs.Prelude.{if◌then◌else◌}
use Rattle.link_state.specs.Table.{find, rows, action_of}
use Rattle.link_state.specs.Cleared.{payload_by, filled}
use Rattle.link_state.specs.declared.level.Level.{Level}
use Rattle.link_state.specs.Table.{Action}
use Rattle.link_state.specs.Table.Action.{Keep}

abbrev pub IsOther : List (ℕ × Action) → ℕ → Type 0
IsOther [] n = Unit {0}
IsOther (row ∷ rs) n = (n ≢ row.0) × IsOther rs n

other_kept : (rs : List (ℕ × Action)) (n : ℕ) → IsOther rs n → find rs n ≡ Keep
other_kept [] n other = refl
other_kept (row ∷ rs) n other =
    ap (λ t. if t then row.1 else find rs n) (ne_eqb n row.0 other.0) ∙ other_kept rs n other.1

pub other_stays : (by : ℕ) (level : Level) (n : ℕ) (p : List ℕ) → IsOther (rows level) n
    → p ≡ payload_by by (filled by) (action_of level n) p
other_stays by level n p other =
    ap (λ action. payload_by by (filled by) action p) (sym (other_kept (rows level) n other))
