-- What is known of each host, and what a line tells and leaves known.
use Rattle.std.specs.Prelude.{◌≡◌, ◌||◌, ◌+◌, ◌-◌, ◌^◌, ◌++◌, ℕ, Bool, true, false, List, []}
use Rattle.std.specs.Prelude.{Option, None, Some, codes, cond, min}
use Rattle.std.specs.Cmp.Lexicographic.{slice_cmp}
use Rattle.std.specs.Ordering.{nat_cmp}
use Rattle.std.specs.BTreeMap.{is_at}
use Rattle.std.specs.Map.{lookup}
use Rattle.line_filter.specs.Runs.{RunsAll, Stops, Taking}
use Rattle.line_filter.specs.Words.{front_of, rest_of}
use Rattle.line_filter.specs.declared.error.RunError.{RunError}
use Rattle.message_diff.specs.declared.store.Host.{Host}
use Rattle.message_diff.specs.declared.reading.Said.{Said}
use Rattle.message_diff.specs.declared.reading.Said.TheVariants as Saids
use Rattle.message_diff.specs.declared.telling.Told.{Told}
use Rattle.message_diff.specs.declared.telling.Telling.{Telling}
use Rattle.message_diff.specs.declared.watch.Watch.{Watch}
use Rattle.message_diff.specs.declared.snapshot.Compared.{Compared}
use Rattle.message_diff.specs.Alone.{member_line}
use Rattle.message_diff.specs.Known.{Picture, nothing_known, is_text}
use Rattle.message_diff.specs.Said.{Says, word_in}
use Rattle.message_diff.specs.Told.{says, Tells}
use Rattle.message_diff.specs.Held.{IsAfter, item_of, knows_any, picture}

abbrev pub known_of : Option Host → Picture
known_of None = nothing_known
known_of (Some host) = picture host

-- what is known of the host with this name
abbrev pub host_in : Watch → List ℕ → Option Host
host_in watch name = lookup (is_at (λ k. slice_cmp nat_cmp name k.items)) watch.hosts.entries

abbrev pub known_in : Watch → List ℕ → Picture
known_in watch name = known_of (host_in watch name)

-- the name of the host of a line with these words: without the word `host` it has none
abbrev pub host_of : List ℕ → List ℕ
host_of front = word_in (codes "host") front

-- lines are counted as far as 64 bits count
abbrev pub next_line : ℕ → ℕ
next_line lines = min (lines + 1) (2 ^ 64 - 1)

-- what is known after a line, and what it adds
abbrev pub Goes : List ℕ → Telling → ℕ → Said → Picture → Picture → List ℕ → Type 0
Goes front told at said old new more =
    IsAfter old at (item_of front told said) new × Tells front told old (item_of front told said) more

-- a host is held where something is known of it
abbrev pub IsHeld : Option Host → Type 0
IsHeld None = Unit {0}
IsHeld (Some host) = knows_any host ≡ true

-- what a line says is taken for its host, which is held no longer than something is known of it, and what is known of
-- the others stays
pub record GoesFor (front : List ℕ) (told : Telling) (at : ℕ) (said : Said) (old new : Watch)
    (more : List ℕ) : Type 0 where
  pub own : Goes front told at said (known_in old (host_of front)) (known_in new (host_of front)) more
  pub held : IsHeld (host_in new (host_of front))
  pub others : (name : List ℕ) → is_text (host_of front) name ≡ false → known_in new name ≡ known_in old name

-- that messages were lost
abbrev pub lost_line : List ℕ → List ℕ
lost_line front = member_line front (codes "change") (codes "lost")

-- they have a line, and change nothing of what is known
abbrev pub TakesSaid : List ℕ → Telling → ℕ → Said → Watch → Watch → List ℕ → Type 0
TakesSaid front told at Saids.Lost old new more =
    (new.hosts ≡ old.hosts) × (more ≡ cond (says told.told) (lost_line front) [])
TakesSaid front told at Saids.Nothing old new more = (new.hosts ≡ old.hosts) × (more ≡ [])
TakesSaid front told at said old new more = GoesFor front told at said old new more

abbrev pub AddsSaid : List ℕ → Telling → ℕ → Said → Watch → Watch → List ℕ → List ℕ → Type 0
AddsSaid front told at said old new before now =
    (more : List ℕ) × TakesSaid front told at said old new more × (now ≡ before ++ more)

abbrev pub AddsFor : List ℕ → Telling → ℕ → Said → Watch → Watch → List ℕ → List ℕ → Type 0
AddsFor front told at said old new before now =
    (more : List ℕ) × GoesFor front told at said old new more × (now ≡ before ++ more)

-- whether what a line says begins a dump or ends one
abbrev pub is_of_dump : Said → Bool
is_of_dump (Saids.Begin dump) = true
is_of_dump (Saids.Done dump family) = true
is_of_dump _ = false

-- a line is taken, and this is added: its fault, if it has one, and what it tells
pub record IsTaken (line : List ℕ) (old new : Watch) (added : List ℕ) : Type 0 where
  pub said : Said
  pub fault : List ℕ
  pub more : List ℕ
  pub says : Says old.reader.by (front_of line) (rest_of line) said fault
  pub lines : new.lines ≡ next_line old.lines
  pub by : new.reader.by ≡ old.reader.by
  pub told : new.told ≡ old.told
  pub dumps : new.has_dumps ≡ (old.has_dumps || is_of_dump said)
  pub takes : TakesSaid (front_of line) old.told new.lines said old new more
  pub all : added ≡ fault ++ more

-- how lines are taken
abbrev pub takes_line : Taking Watch
takes_line old line new added = IsTaken line old new added

-- nothing is known yet
pub record IsFresh (by : Compared) (told : Told) (watch : Watch) : Type 0 where
  pub compares : watch.reader.by ≡ by
  pub tells : watch.told ≡ record { told = told; by = by }
  pub lines : watch.lines ≡ 0
  pub dumps : watch.has_dumps ≡ false
  pub known : (name : List ℕ) → known_in watch name ≡ nothing_known

-- a run from nothing
abbrev pub Watches : Compared → Told → Option (List ℕ) → Option (List ℕ) → Option (List ℕ) → Option (List ℕ) → Type 0
Watches by told left left_after held held_after =
    (first : Watch) × (last : Watch) × IsFresh by told first
    × RunsAll takes_line first last left left_after held held_after

-- and one that stops early
abbrev pub WatchStops : Compared → Told → RunError → Option (List ℕ) → Option (List ℕ) → Option (List ℕ)
    → Option (List ℕ) → Type 0
WatchStops by told error left left_after held held_after =
    (first : Watch) × IsFresh by told first × Stops takes_line error first left left_after held held_after
