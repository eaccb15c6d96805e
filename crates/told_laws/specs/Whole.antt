-- A whole run, by its contract: what is told of each host.
use Rattle.std.specs.Prelude.{◌≡◌, ◌<◌, ◌^◌, ℕ, List, Option, length, map}
use Rattle.std.specs.List.{flat_map}
use Rattle.std.specs.Io.KnownBytes.{Appends, Consumes}
use Rattle.line_filter.specs.Lines.{lines_of}
use Rattle.message_diff.specs.declared.snapshot.Compared.{Compared}
use Rattle.message_diff.specs.declared.telling.Told.TheVariants as Tellings
use Rattle.message_diff.specs.Watched.{Watches}
use Rattle.told_laws.specs.Hosts.{Piece, of_host}
use Rattle.told_laws.specs.Turns.{IsOrderly}

-- what lines add is what each of them adds, one after another; of each host, what its lines add takes turns
pub record AreOrderly (by : Compared) (lines : List (List ℕ)) (added : List ℕ) : Type 0 where
  pub pieces : List Piece
  pub lines_are : map (λ p. p.0) pieces ≡ lines
  pub added_are : added ≡ flat_map (λ p. p.1) pieces
  pub each : (name : List ℕ) → IsOrderly by (of_host name pieces)

-- so does each run that tells all, of fewer lines than 64 bits count
abbrev pub WholeRuns : Type 0
WholeRuns =
    (by : Compared) (left left_after held held_after : Option (List ℕ))
    → Watches by Tellings.All left left_after held held_after
    → (text : List ℕ) × (written : List ℕ) × Consumes left left_after text × Appends held held_after written
    × (length (lines_of text) < 2 ^ 64 → AreOrderly by (lines_of text) written)
