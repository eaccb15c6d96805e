-- Where a fault is, as C is told.
use Rattle.std.specs.Prelude.{◌≡◌, ℕ, ◌-◌, ◌≤◌, List, ◌++◌, length, replicate, Result, Ok, Err}
use Rattle.link_msg.specs.FaultAt.{FaultsAlong}
use Rattle.link_msg.specs.FaultPath.{numbers_to}
use Rattle.link_msg.specs.declared.fault_path.FaultPath.{FaultPath}
use Rattle.link_c.specs.Messages.{MeansOrFaults, IsFault}
use Rattle.link_c.specs.declared.path.Path.{Path}
use Rattle.link_c.specs.declared.refusal.Refusal.{Refusal}
use Rattle.link_c.specs.declared.refusal.Refusal.TheVariants.{Fault}

-- the path has these numbers, at most four, and zeros after them
pub record HasNumbers (p : Path) (numbers : List ℕ) : Type 0 where
  pub few : length numbers ≤ 4
  pub depth : p.depth ≡ length numbers
  pub all : p.numbers ≡ numbers ++ replicate (4 - length numbers) 0

-- the path is the one that was found
abbrev pub Tells : Path → FaultPath → Type 0
Tells p found = (p.at ≡ found.offset) × HasNumbers p (numbers_to found)

-- b means a message, and the path is the old one; or this is its fault, and the path leads there
abbrev pub IsLookAlong : List ℕ → Path → Path → Result (Unit {0}) Refusal → Type 0
IsLookAlong b old new (Ok fine) = MeansOrFaults b (Ok fine) × (new ≡ old)
IsLookAlong b old new (Err (Fault c)) =
    IsFault b c × ((numbers : List ℕ) × HasNumbers new numbers × FaultsAlong b c new.at numbers)
IsLookAlong b old new (Err e) = ⊥
