-- Of one interface `new` and `gone` take turns, and `changed` stands between them and leads to the last message; and a
-- message whose encoding is that of the last one tells nothing.
use Rattle.std.specs.Prelude.{◌≡◌, ◌⊎◌, ◌&&◌, ◌||◌, ◌++◌, ℕ, suc, Bool, true, false, MatchBool, List, [], ◌∷◌, Option}
use Rattle.std.specs.Prelude.{None, Some, is_some}
use Rattle.message_diff.specs.declared.key.Key.{Key}
use Rattle.message_diff.specs.declared.snapshot.Compared.{Compared}
use Rattle.message_diff.specs.declared.telling.Telling.{Telling}
use Rattle.message_diff.specs.declared.telling.Told.TheVariants as Tellings
use Rattle.message_diff.specs.Known.{Item, Picture, after, is_key, is_text, nothing_known}
use Rattle.message_diff.specs.Shots.{Shot}
use Rattle.message_diff.specs.Told.{is_told_gone}
use Rattle.told_laws.specs.Entries.{AreSteps, Entry, Step, all_entries, of_key}
use Rattle.told_laws.specs.Hosts.{HostTells, Piece}
use Rattle.told_laws.specs.Leading.{EntriesLead}

-- where all is told
abbrev pub all_by : Compared → Telling
all_by by = record { told = Tellings.All; by = by }

-- ** one interface

-- what is there behind these entries: the encoding that was told last, if one was since the last line `gone`
abbrev pub there_after : Option (List ℕ) → List Entry → Option (List ℕ)
there_after there [] = there
there_after there (Entry.came key shot ∷ es) = there_after (Some shot.text) es
there_after there (Entry.changed key was is ∷ es) = there_after (Some is.text) es
there_after there (Entry.went key shot ∷ es) = there_after None es

-- each has its turn: a line `changed` tells of what is there, and of something else; a line `gone` of what is there, or
-- of what may go where nothing is
abbrev pub HaveTurns : (may_go : Bool) → Option (List ℕ) → List Entry → Type 0
HaveTurns may_go there [] = Unit {0}
HaveTurns may_go there (Entry.came key shot ∷ es) = (there ≡ None) × HaveTurns may_go (Some shot.text) es
HaveTurns may_go there (Entry.changed key was is ∷ es) =
    (there ≡ Some was.text) × (is_text was.text is.text ≡ false) × HaveTurns may_go (Some is.text) es
HaveTurns may_go there (Entry.went key shot ∷ es) = ((is_some there || may_go) ≡ true) × HaveTurns may_go None es

-- an accepted `type=del` of the interface may go where nothing is there: in family 0, and where lines of the interface
-- came since it went, which were all refused
abbrev pub may_go : Picture → Item → Key → Bool
may_go p (Item.went key (Some shot)) q = is_key key q && is_told_gone q (p.of q)
may_go p x q = false

-- a line `type=del` of the interface
abbrev pub is_del : Item → Key → Bool
is_del (Item.went key shot) q = is_key key q
is_del x q = false

abbrev pub TakeTurns : Key → Option (List ℕ) → ℕ → Picture → List Step → Type 0
TakeTurns q there at p [] = Unit {0}
TakeTurns q there at p (step ∷ steps) =
    HaveTurns (may_go p step.item q) there (of_key q step.entries)
    × (is_del step.item q ≡ true → there_after there (of_key q step.entries) ≡ None)
    × TakeTurns q (there_after there (of_key q step.entries)) (suc at) (after p (suc at, step.item)) steps

-- ** what a message tells

abbrev pub AllWent : List Entry → Type 0
AllWent [] = Unit {0}
AllWent (Entry.went key shot ∷ es) = AllWent es
AllWent (Entry.came key shot ∷ es) = ⊥
AllWent (Entry.changed key was is ∷ es) = ⊥

-- with another encoding: one line `changed`; or lines `gone`, and one `new`
abbrev pub TellsOther : List ℕ → Key → Shot → List Entry → Type 0
TellsOther text key shot es =
    ((was : Shot) × (was.text ≡ text) × (es ≡ Entry.changed key was shot ∷ []))
    ⊎ ((gone : List Entry) × AllWent gone × (es ≡ gone ++ Entry.came key shot ∷ []))

-- a message of what is not there: one line `new`; with the encoding that is there: nothing
abbrev pub TellsMessage : Option (List ℕ) → Key → Shot → List Entry → Type 0
TellsMessage None key shot es = es ≡ Entry.came key shot ∷ []
TellsMessage (Some text) key shot es = MatchBool (is_text text shot.text) (es ≡ []) (TellsOther text key shot es)

-- what ends interfaces adds lines `gone` alone, and what is left adds none: what is refused, asked for, and words
abbrev pub TellsItem : (Key → Option (List ℕ)) → Item → List Entry → Type 0
TellsItem there (Item.is key shot words) es = TellsMessage (there key) key shot es
TellsItem there (Item.went key shot) es = AllWent es
TellsItem there (Item.finished dump family) es = AllWent es
TellsItem there x es = es ≡ []

abbrev pub TellNothingElse : (Key → Option (List ℕ)) → List Step → Type 0
TellNothingElse there [] = Unit {0}
TellNothingElse there (step ∷ steps) =
    TellsItem there step.item step.entries
    × TellNothingElse (λ q. there_after (there q) (of_key q step.entries)) steps

-- ** the laws

-- what lines of a host add are lines of entries, of which those of each interface take turns, `new` first; nothing else
-- is told; and lines `changed` lead from the message of the line `new` to the last one
pub record IsOrderly (by : Compared) (pieces : List Piece) : Type 0 where
  pub steps : List Step
  pub are : AreSteps (all_by by) pieces steps
  pub turns : (q : Key) → TakeTurns q None 0 nothing_known steps
  pub nothing : TellNothingElse (λ q. None) steps
  pub lead : (q : Key) → EntriesLead by q (of_key q (all_entries steps))

abbrev pub Orderly : Type 0
Orderly = (by : Compared) (pieces : List Piece) → HostTells (all_by by) 0 nothing_known pieces → IsOrderly by pieces
