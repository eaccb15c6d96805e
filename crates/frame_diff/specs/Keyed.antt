-- For the calls that go over lists whose values have labels.
use Rattle.std.specs.Prelude.{◌≡◌, ℕ, List, [], ◌∷◌, ◌++◌, Bool, Option, None, Some, map, option_and_then, option_map}
use Rattle.std.specs.Prelude.{slice_get}
use Rattle.std.specs.List.{AllByRecursion, flat_map, list_any}
use Rattle.std.specs.Option.{is_some as is_some_value}
use Rattle.json.specs.Token.{Token}
use Rattle.shown.specs.Drafts.{Members, list_of}
use Rattle.frame_diff.specs.Forests.{Forest, Held, Step, find}
use Rattle.frame_diff.specs.Groups.{group_at, labelled_inside, is_entries, numbers_at, value_at}
use Rattle.frame_diff.specs.Items.{items_told, moved_items}
use Rattle.frame_diff.specs.Keys.{number_of}
use Rattle.frame_diff.specs.Labels.{place_of}
use Rattle.frame_diff.specs.Members.{value_in}
use Rattle.frame_diff.specs.Values.{kept_at, kept_held, kept_inside_at, kept_numbers}
use Rattle.frame_diff.specs.Walked.{AreBeside, Holding, Showing, step_items}
use Rattle.frame_diff.specs.declared.kept.Kept.{Kept}
use Rattle.frame_diff.specs.declared.keyed.Labelled.{Labelled}
use Rattle.frame_diff.specs.declared.keys.Key.{Key}
use Rattle.frame_diff.specs.declared.labels.Label.{Label}
use Rattle.frame_diff.specs.declared.side.Side.{Side}
use Rattle.frame_diff.specs.declared.walk.Attribute.{Attribute}
use Rattle.frame_diff.specs.declared.walk.Attributes.{Attributes}

-- the number of an attribute, if there is one
abbrev pub picked_numbers : Key → Option Attribute → List (Option ℕ)
picked_numbers key None = []
picked_numbers key (Some a) = number_of key a ∷ []

-- ** values with labels

abbrev pub labels_now : {X : Type 0} → List (Labelled X) → List Label
labels_now {X} vs = map (λ (v : Labelled X). v.label) vs

abbrev pub values_now : {X : Type 0} → List (Labelled X) → List X
values_now {X} vs = map (λ (v : Labelled X). v.value) vs

abbrev pub numbers_now : {X : Type 0} → List (Labelled X) → List (Option ℕ)
numbers_now {X} vs = map (λ (v : Labelled X). v.label.number) vs

-- they are these ones, with these labels
abbrev pub AreAll : {X : Type 0} → (X → Option Held) → List Label → List (Option Held) → List (Labelled X) → Type 0
AreAll value labels hs vs = (labels_now vs ≡ labels) × (map value (values_now vs) ≡ hs)

abbrev pub helds_now : Showing → Holding → Bool → List (Labelled Attribute) → List (Option Held)
helds_now nest inner is_state vs = map (λ a. Some (value_at nest inner is_state a)) (values_now vs)

-- an attribute has the rows of this list
abbrev pub IsIn : Attributes → Attribute → Type 0
IsIn list a = (a.list ≡ list.list) × (a.around.now ≡ list.around.now)

abbrev pub AreIn : Attributes → List (Labelled Attribute) → Type 0
AreIn list vs = AllByRecursion (IsIn list) (values_now vs)

-- they are the values of this list, with these labels of their numbers
abbrev pub AreLabelled : Bool → Attributes → (List (Option ℕ) → List Label) → List (Labelled Attribute)
    → Type 0
AreLabelled is_state list labels vs = AreIn list vs × ((nest : Showing) (inner : Holding)
    → AreAll (λ a. Some (value_at nest inner is_state a)) (labels (numbers_at nest inner is_state list))
    (group_at nest inner is_state list) vs)

-- those that are kept
abbrev pub AreKept : Bool → Attributes → (List (Option ℕ) → List Label) → List (Labelled (Option Kept)) → Type 0
AreKept is_state list labels vs =
    AreAll kept_held (labels (kept_numbers is_state list)) (kept_at is_state list) vs

-- ** beside each other

-- another list that stands for a second one beside the first
abbrev pub StandsFor : Attributes → Attributes → Attributes → Type 0
StandsFor own others a =
    (is_entries others.list ≡ is_entries own.list → is_entries a.list ≡ is_entries own.list)
    × (AreBeside own (Some others) → AreBeside own (Some a))

-- the same is found in it at steps
abbrev pub FindsAt : {X : Type 0} → (X → Step) → Attributes → Attributes → Type 0
FindsAt {X} step others a = (nest : Showing) (inner : Holding) (is_state : Bool) (x : X)
    → find (step x) (labelled_inside nest inner is_state a) ≡ find (step x) (labelled_inside nest inner is_state others)

-- the value with a label
abbrev pub value_of : {X : Type 0} → Label → List (Labelled X) → Option X
value_of {X} l vs =
    option_map (λ (v : Labelled X). v.value) (option_and_then (λ n. slice_get vs n) (place_of l (labels_now vs)))

-- what one tells at its label; one that is passed over tells nothing
abbrev pub label_items : Side → List ℕ → Step → Option Held → Option Held → List Members
label_items side text s None beside = []
label_items side text s (Some held) beside = step_items side text s held beside

-- ** attributes that are kept, in another order

-- some are not passed over
abbrev pub are_any : List (Labelled (Option Kept)) → Bool
are_any ks = list_any (λ (k : Labelled (Option Kept)). is_some_value k.value) ks

-- a list that has members, as one itself
abbrev pub held_unless : List Token → Forest → Option Held
held_unless v Forest.none = None
held_unless v Forest.passed = None
held_unless v (Forest.vlans runs) = None
held_unless v (Forest.texts vs) = None
held_unless v (Forest.tree a b c d) = Some (v, Forest.tree a b c d)

abbrev pub list_beside : List (Option Held) → Forest → Option Held
list_beside hs f = held_unless (list_of (flat_map value_in hs)) f

abbrev pub kept_moved : Side → List ℕ → Bool → Attributes → Attributes → List Members
kept_moved side text is_state own others = moved_items side text (list_of (flat_map value_in (kept_at is_state own)))
    (kept_inside_at is_state own) (list_beside (kept_at is_state others) (kept_inside_at is_state others))

-- and what each of them tells
abbrev pub others_items : Side → List ℕ → Bool → Attributes → Attributes → List Members
others_items side text is_state own others = kept_moved side text is_state own others
    ++ items_told side text (kept_inside_at is_state own) (kept_inside_at is_state others)
