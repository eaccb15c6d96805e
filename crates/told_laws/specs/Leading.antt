-- The leaves of the message that was told as new, with the changes that are told since, are those of the last one. A
-- value that is told as a whole stands for all leaves inside it.
use Rattle.std.specs.Prelude.{◌≡◌, ◌++◌, ℕ, true, false, List, [], ◌∷◌, Option, None, Some, codes, cond, map}
use Rattle.std.specs.Prelude.{option_map}
use Rattle.std.specs.List.{flat_map, fold}
use Rattle.frame_diff.specs.Differences.{Change, path_of, text_of}
use Rattle.frame_diff.specs.Forests.{Leaf, Path, Step, is_path, leaves, value_at}
use Rattle.frame_diff.specs.Wholes.{opened}
use Rattle.message_diff.specs.declared.key.Key.{Key}
use Rattle.message_diff.specs.declared.snapshot.Compared.{Compared}
use Rattle.message_diff.specs.Changed.{forest_by, told_changes}
use Rattle.message_diff.specs.Compared.{is_state}
use Rattle.message_diff.specs.Shots.{Shot}
use Rattle.told_laws.specs.Entries.{Entry}

-- ** leaves, by the texts of their values

-- the text that stands at a path
abbrev pub text_in : List Leaf → Path → Option (List ℕ)
text_in ls q = option_map text_of (value_at ls q)

-- of a message as it is compared
abbrev pub text_at : Compared → Shot → Path → Option (List ℕ)
text_at by shot q = text_in (leaves (forest_by by shot)) q

-- ** changes

-- what stands at a path behind a change, where this text stood there: the new one in the place of the old one
abbrev pub behind : Path → Option (List ℕ) → Change → Option (List ℕ)
behind q text (Change.came path value) = cond (is_path path q) (Some (text_of value)) text
behind q text (Change.went path value) = cond (is_path path q) None text
behind q text (Change.turned path was is) = cond (is_path path q) (Some (text_of is)) text

-- what stood at its path, as it says
abbrev pub old_of : Change → Option (List ℕ)
old_of (Change.came path value) = None
old_of (Change.went path value) = Some (text_of value)
old_of (Change.turned path was is) = Some (text_of was)

-- one after another, each of those at a path has the old text that stands there by then
abbrev pub HaveOld : Path → Option (List ℕ) → List Change → Type 0
HaveOld q text [] = Unit {0}
HaveOld q text (c ∷ cs) = (is_path (path_of c) q ≡ true → old_of c ≡ text) × HaveOld q (behind q text c) cs

-- at a path they lead from one text to another
pub record Lead (q : Path) (first last : Option (List ℕ)) (cs : List Change) : Type 0 where
  pub old : HaveOld q first cs
  pub leads : fold (behind q) first cs ≡ last

-- ** lines `changed`

-- the messages before such a line and behind it
pub record Turn : Type 0 where
  pub was : Shot
  pub is : Shot

-- what one tells, leaf by leaf
abbrev pub leaves_told : Compared → Turn → List Change
leaves_told by t = flat_map (opened (forest_by by t.was) (forest_by by t.is)) (told_changes by t.was t.is)

-- what they tell, one after another
abbrev pub told_by : Compared → List Turn → List Change
told_by by ts = flat_map (leaves_told by) ts

-- a message behind which this one tells nothing: it has its encoding, and where counters are compared it was read in
-- the same order of them
abbrev pub IsAgain : Compared → Shot → Shot → Type 0
IsAgain by was is = (is.text ≡ was.text) × (is_state by ≡ false → is.order ≡ was.order)

-- each of them begins where the last one ended
abbrev pub Follow : Compared → Shot → List Turn → Type 0
Follow by shot [] = Unit {0}
Follow by shot (t ∷ ts) = IsAgain by shot t.was × Follow by t.is ts

abbrev pub last_shot : Shot → List Turn → Shot
last_shot shot [] = shot
last_shot shot (t ∷ ts) = last_shot t.is ts

-- ** the law

-- from the first message to the last one, and to each that tells nothing behind it
abbrev pub LeadsAt : Compared → Path → Shot → List Turn → Type 0
LeadsAt by q shot ts = (last : Shot) → IsAgain by (last_shot shot ts) last
    → Lead q (text_at by shot q) (text_at by last q) (told_by by ts)

-- at each path but `state`, at which a line may tell both encodings where no leaf differs
abbrev pub AllLead : Compared → Shot → List Turn → Type 0
AllLead by shot ts = (q : Path) → is_path (Step.name (codes "state") ∷ []) q ≡ false → LeadsAt by q shot ts

abbrev pub LeadThere : Type 0
LeadThere = (by : Compared) (shot : Shot) (ts : List Turn) → Follow by shot ts → AllLead by shot ts

-- ** lines of an interface

-- the message before each of them was read in the order of counters in which the last one was
abbrev pub AreInOrder : Shot → List Turn → Type 0
AreInOrder shot [] = Unit {0}
AreInOrder shot (t ∷ ts) = (t.was.order ≡ shot.order) × AreInOrder t.is ts

abbrev pub turn_entries : Key → List Turn → List Entry
turn_entries key ts = map (λ t. Entry.changed key t.was t.is) ts

-- wherever lines `changed` stand behind a line `new`, they lead from its message to the last one
abbrev pub EntriesLead : Compared → Key → List Entry → Type 0
EntriesLead by key es =
    (before after : List Entry) (shot : Shot) (ts : List Turn)
    → es ≡ before ++ Entry.came key shot ∷ (turn_entries key ts ++ after)
    → (is_state by ≡ false → AreInOrder shot ts) → AllLead by shot ts
