-- What one file beside another tells.
use Rattle.std.specs.Prelude.{◌≡◌, ◌≢◌, ◌⊎◌, ◌==◌, ◌&&◌, ◌||◌, ◌-◌, ℕ, not, Bool, true, false, List, [], ◌∷◌, ◌++◌}
use Rattle.std.specs.Prelude.{map, codes, Option, None, Some, cond, length, Vec}
use Rattle.std.specs.Global.{Global}
use Rattle.std.specs.List.{flat_map, dedup, slice_get}
use Rattle.std.specs.Map.{keys_of}
use Rattle.std.specs.Io.KnownBytes.{Appends}
use Rattle.line_filter.specs.Runs.{RunsAll, Taking}
use Rattle.line_filter.specs.Steps.{FailedWrite}
use Rattle.line_filter.specs.declared.error.RunError.{RunError}
use Rattle.line_filter.specs.declared.error.RunError.TheVariants as Errors
use Rattle.message_diff.specs.declared.key.Key.{Key}
use Rattle.message_diff.specs.declared.store.Known.{Known}
use Rattle.message_diff.specs.declared.store.Host.{Host}
use Rattle.message_diff.specs.declared.store.Entry.{Entry}
use Rattle.message_diff.specs.declared.files.Untold.{Untold}
use Rattle.message_diff.specs.declared.files.written.Written.{Written}
use Rattle.message_diff.specs.declared.files.Noted.{Noted}
use Rattle.message_diff.specs.declared.files.Findings.{Findings}
use Rattle.message_diff.specs.declared.files.Outcome.{Outcome}
use Rattle.message_diff.specs.declared.files.Outcome.TheVariants as Outcomes
use Rattle.message_diff.specs.declared.snapshot.Compared.{Compared}
use Rattle.message_diff.specs.declared.telling.Told.{Told}
use Rattle.message_diff.specs.declared.telling.Told.TheVariants.{Faults}
use Rattle.message_diff.specs.declared.watch.Watch.{Watch}
use Rattle.message_diff.specs.Alone.{IsAlone}
use Rattle.message_diff.specs.Announced as announced
use Rattle.message_diff.specs.Changed.{IsChanged}
use Rattle.message_diff.specs.Held.{held, kind_known, words_in}
use Rattle.message_diff.specs.Shots.{Shot}
use Rattle.message_diff.specs.Known.{is_part, in_family, is_text, value_or_nothing}
use Rattle.message_diff.specs.Watched.{IsFresh, WatchStops, Watches, host_in, known_of, takes_line}

-- ** what a file has at its end

-- of an interface: nothing, nothing but refusals, or the last message that was accepted, with the words in front of it,
-- and the kind that is known
pub data Found : Type 0 where
  nothing : Found
  refusals : Found
  last : (front : List ℕ) → Shot → (kind : Option (List ℕ)) → Found

abbrev pub words_told : Entry → List ℕ
words_told entry = value_or_nothing (words_in entry)

abbrev pub found_last : Option Entry → Found
found_last None = Found.refusals
found_last (Some entry) = Found.last (words_told entry) entry.snapshot (kind_known entry)

abbrev pub found_in : Option Known → Found
found_in None = Found.nothing
found_in (Some known) = found_last known.last

abbrev pub known_at : Option Host → Key → Option Known
known_at None key = None
known_at (Some host) key = held host key

abbrev pub found : Option Host → Key → Found
found host key = found_in (known_at host key)

-- whether what it has not of a family of a host was not there: it has no dumps, or a whole one of that family
abbrev pub tells : Bool → Option Host → ℕ → Bool
tells has_dumps host family = not has_dumps || (known_of host).whole family

-- ** what it tells of one interface

-- a family of a host of which it is not told what came, or where it is the new file what went
pub record Missing : Type 0 where
  pub is_new : Bool
  pub family : ℕ
  pub host : List ℕ

pub data News : Type 0 where
  same : News
  came : (front : List ℕ) → Shot → News
  went : (front : List ℕ) → Shot → News
  changed : Compared → (front : List ℕ) → (was is : Shot) → News
  replaced : (old_front : List ℕ) → (was : Shot) → (front : List ℕ) → (is : Shot) → News
  untold : Missing → News

-- whether an interface is of two kinds
abbrev pub are_two : Found → Found → Bool
are_two (Found.last old_front was old_kind) (Found.last front is kind) = announced.are_two old_kind kind
are_two old new = false

-- whether it is another one: so is a part of one that is
abbrev pub is_replaced : (Key → Found) → (Key → Found) → Key → Bool
is_replaced old new key =
    are_two (old key) (new key)
    || (is_part key.family && are_two (old (in_family 0 key)) (new (in_family 0 key)))

-- what came or changed
abbrev pub news_of : Compared → Bool → Missing → Bool → Found → Found → News
news_of by is_told missing is_other Found.nothing (Found.last front shot kind) =
    cond is_told (News.came front shot) (News.untold missing)
news_of by is_told missing is_other (Found.last old_front was old_kind) (Found.last front is kind) =
    cond is_other (News.replaced old_front was front is) (News.changed by front was is)
news_of by is_told missing is_other old new = News.same

-- what went
abbrev pub gone_of : Bool → Missing → Found → Found → News
gone_of is_told missing (Found.last front shot kind) Found.nothing =
    cond is_told (News.went front shot) (News.untold missing)
gone_of is_told missing old new = News.same

abbrev pub news_at : Compared → Bool → List ℕ → Option Host → Option Host → Key → News
news_at by has_dumps name old new key =
    news_of by (tells has_dumps old key.family) (record { is_new = false; family = key.family; host = name })
    (is_replaced (found old) (found new) key) (found old key) (found new key)

abbrev pub gone_at : Bool → List ℕ → Option Host → Option Host → Key → News
gone_at has_dumps name old new key =
    gone_of (tells has_dumps new key.family) (record { is_new = true; family = key.family; host = name })
    (found old key) (found new key)

-- ** of all: the hosts by their names, and the interfaces of each, in order

abbrev pub names_of : List (Vec ℕ Global × Host) → List (List ℕ)
names_of entries = map (λ e. e.0.items) entries

abbrev pub names_in : Watch → List (List ℕ)
names_in watch = names_of watch.hosts.entries

abbrev pub keys_in : Option Host → List Key
keys_in None = []
keys_in (Some host) = keys_of host.known.entries

abbrev pub host_news : Watch → Watch → List ℕ → List News
host_news old new name =
    map (news_at old.told.by old.has_dumps name (host_in old name) (host_in new name)) (keys_in (host_in new name))

abbrev pub host_gone : Watch → Watch → List ℕ → List News
host_gone old new name =
    map (gone_at new.has_dumps name (host_in old name) (host_in new name)) (keys_in (host_in old name))

-- what came or changed of each host of the new file, and then what went of each of the old one
abbrev pub all_news : Watch → Watch → List News
all_news old new = flat_map (host_news old new) (names_in new) ++ flat_map (host_gone old new) (names_in old)

-- ** the lines

abbrev pub IsLine : News → List ℕ → Type 0
IsLine News.same line = line ≡ []
IsLine (News.came front shot) line = IsAlone front (codes "new") shot.text line
IsLine (News.went front shot) line = IsAlone front (codes "gone") shot.text line
IsLine (News.changed by front was is) line =
    ((was.text ≡ is.text) × (line ≡ [])) ⊎ ((was.text ≢ is.text) × IsChanged by front was is line)
IsLine (News.replaced old_front was front is) line =
    (gone : List ℕ) × (new : List ℕ) × IsAlone old_front (codes "gone") was.text gone
    × IsAlone front (codes "new") is.text new × (line ≡ gone ++ new)
IsLine (News.untold missing) line = line ≡ []

abbrev pub AreLines : List News → List ℕ → Type 0
AreLines [] lines = lines ≡ []
AreLines (n ∷ ns) lines =
    (line : List ℕ) × (rest : List ℕ) × IsLine n line × AreLines ns rest × (lines ≡ line ++ rest)

-- ** what is not told: each family of a host once in a row

abbrev pub missing_of : News → List Missing
missing_of (News.untold missing) = missing ∷ []
missing_of n = []

abbrev pub are_alike : Bool → Bool → Bool
are_alike true b = b
are_alike false b = not b

abbrev pub is_missing : Missing → Missing → Bool
is_missing a b = are_alike a.is_new b.is_new && (a.family == b.family && is_text a.host b.host)

abbrev pub once : List Missing → List Missing
once = dedup is_missing

abbrev pub all_missing : List News → List Missing
all_missing ns = once (flat_map missing_of ns)

-- ** what is added to what waits

abbrev pub missing_in : Untold → Missing
missing_in one = record { is_new = one.is_new; family = one.family; host = one.host.items }

abbrev pub missings : List Untold → List Missing
missings all = map missing_in all

-- whether the last one is this
abbrev pub is_same_as : Missing → Option Untold → Bool
is_same_as missing None = false
is_same_as missing (Some one) = is_missing missing (missing_in one)

abbrev pub is_last : List Untold → Missing → Bool
is_last all missing = is_same_as missing (slice_get all (length all - 1))

-- to a list that has none twice in a row
abbrev pub AddsMissing : List Missing → List Missing → List Missing → Type 0
AddsMissing more old new = once old ≡ old → new ≡ once (old ++ more)

pub record Adds (ns : List News) (old new : Written) : Type 0 where
  pub lines : List ℕ
  pub told : AreLines ns lines
  pub added : new.out.items ≡ old.out.items ++ lines
  pub untold : AddsMissing (flat_map missing_of ns) (missings old.untold.items) (missings new.untold.items)

-- ** two files

-- a run from nothing, at whose end this is known
abbrev pub WatchesTo : Compared → Told → Watch → Option (List ℕ) → Option (List ℕ) → Option (List ℕ) → Option (List ℕ)
    → Type 0
WatchesTo by told end left left_after held held_after =
    (first : Watch) × IsFresh by told first × RunsAll takes_line first end left left_after held held_after

-- whether anything is written
abbrev pub is_any : List ℕ → Bool
is_any [] = false
is_any (x ∷ xs) = true

-- a line is taken, and it is noted whether anything was added
abbrev pub notes_line : Taking Noted
notes_line old line new added =
    takes_line old.watch line new.watch added × (new.is_told ≡ (old.is_told || is_any added))

-- a run from nothing, at whose end this is known, and noted whether anything was written
abbrev pub NotesTo : Compared → Told → Noted → Option (List ℕ) → Option (List ℕ) → Option (List ℕ) → Option (List ℕ)
    → Type 0
NotesTo by told end left left_after held held_after =
    (run : WatchesTo by told end.watch left left_after held held_after) × (end.is_told ≡ is_any run.2.last.0)

-- these lines are written, whether they are any, and this is not told
pub record TellsNews (old new : Watch) (held held_after : Option (List ℕ)) (differs : Bool) (untold : List Missing)
    : Type 0 where
  pub lines : List ℕ
  pub told : AreLines (all_news old new) lines
  pub appended : Appends held held_after lines
  pub differing : differs ≡ is_any lines
  pub not_told : untold ≡ all_missing (all_news old new)

-- first the faults of the old file are written, then those of the new one, and then what they tell beside each other
pub record Compares (by : Compared) (left left_after other other_after held held_after : Option (List ℕ))
    (beside : Findings) : Type 0 where
  pub old : Watch
  pub new : Watch
  pub between : Option (List ℕ)
  pub behind : Option (List ℕ)
  pub first : WatchesTo by Faults old left left_after held between
  pub second : WatchesTo by Faults new other other_after between behind
  pub last : TellsNews old new behind held_after beside.differs (missings beside.untold.items)
  pub faults : beside.has_faults ≡ (is_any first.2.last.0 || is_any second.2.last.0)

-- what two files come to, where a line had a fault, something differs, and this is not told
abbrev pub outcome_of : (has_faults differs : Bool) → List Missing → Outcome
outcome_of true differs missing = Outcomes.Trouble
outcome_of false differs (one ∷ more) = Outcomes.Trouble
outcome_of false differs [] = cond differs Outcomes.Differ Outcomes.Same

-- where both came to their ends: none of the lines is written where no memory is left, and not all of them where a
-- write fails
abbrev pub StopsAtEnds : RunError → Watch → Watch → Option (List ℕ) → Option (List ℕ) → Type 0
StopsAtEnds Errors.OutOfMemory old new held held_after = Appends held held_after []
StopsAtEnds Errors.Write old new held held_after =
    (lines : List ℕ) × AreLines (all_news old new) lines × FailedWrite Errors.Write held held_after lines
StopsAtEnds Errors.Read old new held held_after = ⊥

pub record StopsBehind (by : Compared) (error : RunError)
    (left left_after other other_after held held_after : Option (List ℕ)) : Type 0 where
  pub old : Watch
  pub new : Watch
  pub between : Option (List ℕ)
  pub behind : Option (List ℕ)
  pub first : WatchesTo by Faults old left left_after held between
  pub second : WatchesTo by Faults new other other_after between behind
  pub wrote : StopsAtEnds error old new behind held_after

-- a run that stops in the old file, in the new one, or behind both
abbrev pub CompareStops : Compared → RunError → Option (List ℕ) → Option (List ℕ) → Option (List ℕ) → Option (List ℕ)
    → Option (List ℕ) → Option (List ℕ) → Type 0
CompareStops by error left left_after other other_after held held_after =
    (WatchStops by Faults error left left_after held held_after × (other_after ≡ other))
    ⊎ (((between : Option (List ℕ)) × Watches by Faults left left_after held between
    × WatchStops by Faults error other other_after between held_after)
    ⊎ StopsBehind by error left left_after other other_after held held_after)
