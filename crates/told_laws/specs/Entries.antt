-- What a line tells, as entries: that an interface came, changed or went.
use Rattle.std.specs.Prelude.{◌≡◌, ◌++◌, ℕ, List, [], ◌∷◌, codes}
use Rattle.std.specs.List.{filter, flat_map}
use Rattle.line_filter.specs.Words.{front_of, rest_of}
use Rattle.message_diff.specs.declared.key.Key.{Key}
use Rattle.message_diff.specs.declared.reading.Said.{Said}
use Rattle.message_diff.specs.declared.reading.Said.TheVariants as Saids
use Rattle.message_diff.specs.declared.snapshot.Compared.{Compared}
use Rattle.message_diff.specs.declared.telling.Telling.{Telling}
use Rattle.message_diff.specs.Alone.{IsAlone}
use Rattle.message_diff.specs.Changed.{IsChanged}
use Rattle.message_diff.specs.Held.{item_of}
use Rattle.message_diff.specs.Known.{Item, is_key}
use Rattle.message_diff.specs.Said.{Says}
use Rattle.message_diff.specs.Shots.{Shot}
use Rattle.message_diff.specs.Watched.{lost_line}
use Rattle.told_laws.specs.Hosts.{Piece}

-- a line `new`, `changed` or `gone`: its interface, and the messages of which it tells
pub data Entry : Type 0 where
  came : Key → Shot → Entry
  changed : Key → (was is : Shot) → Entry
  went : Key → Shot → Entry

abbrev pub key_of : Entry → Key
key_of (Entry.came key shot) = key
key_of (Entry.changed key was is) = key
key_of (Entry.went key shot) = key

abbrev pub IsEntry : Compared → List ℕ → Entry → List ℕ → Type 0
IsEntry by front (Entry.came key shot) line = IsAlone front (codes "new") shot.text line
IsEntry by front (Entry.changed key was is) line = IsChanged by front was is line
IsEntry by front (Entry.went key shot) line = IsAlone front (codes "gone") shot.text line

-- the lines of these, one after another
abbrev pub AreEntries : Compared → List ℕ → List Entry → List ℕ → Type 0
AreEntries by front [] lines = lines ≡ []
AreEntries by front (e ∷ es) lines =
    (line : List ℕ) × (rest : List ℕ) × IsEntry by front e line × AreEntries by front es rest × (lines ≡ line ++ rest)

-- those of one interface
abbrev pub of_key : Key → List Entry → List Entry
of_key q es = filter (λ e. is_key (key_of e) q) es

-- ** a run

-- what a line says of its host, and what it tells
pub record Step : Type 0 where
  pub item : Item
  pub entries : List Entry

-- what all of them tell, one after another
abbrev pub all_entries : List Step → List Entry
all_entries steps = flat_map (λ step. step.entries) steps

-- a line that tells that messages were lost has no entries
abbrev pub IsToldAs : List ℕ → Compared → Said → List Entry → List ℕ → Type 0
IsToldAs front by Saids.Lost es more = (es ≡ []) × (more ≡ lost_line front)
IsToldAs front by said es more = AreEntries by front es more

-- a line adds its fault, if it has one, and then the lines of these entries
pub record IsStep (told : Telling) (piece : Piece) (step : Step) : Type 0 where
  pub said : Said
  pub fault : List ℕ
  pub more : List ℕ
  pub says : Says told.by (front_of piece.0) (rest_of piece.0) said fault
  pub item : step.item ≡ item_of (front_of piece.0) told said
  pub tells : IsToldAs (front_of piece.0) told.by said step.entries more
  pub all : piece.1 ≡ fault ++ more

-- each line of a host is one of these
abbrev pub AreSteps : Telling → List Piece → List Step → Type 0
AreSteps told [] steps = steps ≡ []
AreSteps told (piece ∷ pieces) [] = ⊥
AreSteps told (piece ∷ pieces) (step ∷ steps) = IsStep told piece step × AreSteps told pieces steps
