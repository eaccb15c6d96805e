-- The members of an object, those inside each, and their leaves: the paths and values of those that hold no other.
use Rattle.std.specs.Prelude.{◌≡◌, ◌==◌, ◌&&◌, ℕ, List, [], ◌∷◌, ◌++◌, Bool, true, false, Option, Some, None, cond}
use Rattle.std.specs.Prelude.{map}
use lib.Pointwise.{pointwise}
use Rattle.json.specs.Token.{Token}
use Rattle.link_vlans.specs.Runs.{are_apart}
use Rattle.link_vlans.specs.declared.run.Run.{Run}
use Rattle.frame_diff.specs.declared.labels.Label.{Label}

-- ** paths

-- a step of a path: an attribute with this name, the list of this name that attributes are the values of, a member of
-- another sort with this text, the value at this place of a list, the value with this label in a list whose values say
-- a number of this name, or one of the two lists that stand beside the attributes of a place
pub data Step : Type 0 where
  name : List ℕ → Step
  array : List ℕ → Step
  part : (sort : ℕ) (text : List ℕ) → Step
  place : ℕ → Step
  label : (name : List ℕ) (label : Label) → Step
  repeated : Step
  other : Step

abbrev pub Path : Type 0
Path = List Step

abbrev pub is_text : List ℕ → List ℕ → Bool
is_text = pointwise ◌==◌

-- a field of a record
abbrev pub field_step : List ℕ → Step
field_step text = Step.part 0 text

-- a list of entries
abbrev pub entries_step : List ℕ → Step
entries_step text = Step.part 1 text

-- a list of the attributes that have a name, and the list of the others beside it
abbrev pub values_step : List ℕ → Step
values_step text = Step.part 2 text

abbrev pub rest_step : List ℕ → Step
rest_step text = Step.part 3 text

-- two values have the same number, or neither has one
abbrev pub is_number : Option ℕ → Option ℕ → Bool
is_number None None = true
is_number (Some m) (Some n) = m == n
is_number _ _ = false

abbrev pub is_same_label : Label → Label → Bool
is_same_label l m = is_number l.number m.number && l.again == m.again

abbrev pub is_step : Step → Step → Bool
is_step (Step.name a) (Step.name b) = is_text a b
is_step (Step.array a) (Step.array b) = is_text a b
is_step (Step.part m a) (Step.part n b) = m == n && is_text a b
is_step (Step.place m) (Step.place n) = m == n
is_step (Step.label a l) (Step.label b m) = is_text a b && is_same_label l m
is_step Step.repeated Step.repeated = true
is_step Step.other Step.other = true
is_step _ _ = false

-- a label stands right behind the list that it is of
abbrev pub is_label : Step → Bool
is_label (Step.label a l) = true
is_label (Step.part n a) = false
is_label (Step.name a) = false
is_label (Step.array a) = false
is_label (Step.place n) = false
is_label Step.repeated = false
is_label Step.other = false

abbrev pub is_path : Path → Path → Bool
is_path [] [] = true
is_path [] (t ∷ q) = false
is_path (s ∷ p) [] = false
is_path (s ∷ p) (t ∷ q) = is_step s t && is_path p q

-- ** members

-- members beside each other: the step to each, its value as it is shown, and those inside it; a value inside which
-- there are none is a leaf, unless it has some that are all passed over; or the runs of the VLANs of a port; or the
-- values of a list that are their own keys, which is a leaf too
pub data Forest : Type 0 where
  none : Forest
  passed : Forest
  vlans : (runs : List Run) → Forest
  texts : (values : List (List Token)) → Forest
  tree : (step : Step) (value : List Token) (inside rest : Forest) → Forest

-- a value, and the members inside it
abbrev pub Held : Type 0
Held = List Token × Forest

-- the first one at a step
abbrev pub find : Step → Forest → Option Held
find t Forest.none = None
find t Forest.passed = None
find t (Forest.vlans runs) = None
find t (Forest.texts vs) = None
find t (Forest.tree s v i rest) = cond (is_step s t) (Some (v, i)) (find t rest)

-- the runs in a forest, if it holds VLANs
abbrev pub runs_inside : Forest → List Run
runs_inside Forest.none = []
runs_inside Forest.passed = []
runs_inside (Forest.vlans runs) = runs
runs_inside (Forest.texts vs) = []
runs_inside (Forest.tree s v i rest) = []

-- no two members beside each other have one step, no VLAN stands in two runs, and none beside members
abbrev pub AreApart : Forest → Type 0
AreApart Forest.none = Unit {0}
AreApart Forest.passed = Unit {0}
AreApart (Forest.vlans runs) = are_apart None runs ≡ true
AreApart (Forest.texts vs) = Unit {0}
AreApart (Forest.tree s v i rest) =
    (find s rest ≡ None) × AreApart i × AreApart rest × (runs_inside rest ≡ [])

-- members, of which those are left out behind which another one of their step stands
abbrev pub Member : Type 0
Member = Step × Held

abbrev pub comes : Step → List Member → Bool
comes s [] = false
comes s (m ∷ ms) = cond (is_step m.0 s) true (comes s ms)

abbrev pub forest : List Member → Forest
forest [] = Forest.none
forest (m ∷ ms) = cond (comes m.0 ms) (forest ms) (Forest.tree m.0 m.1.0 m.1.1 (forest ms))

-- those that are left of some, or of none
abbrev pub left_of : Bool → List Member → Forest
left_of is_any [] = cond is_any Forest.passed Forest.none
left_of is_any (m ∷ ms) = forest (m ∷ ms)

-- ** leaves

abbrev pub Leaf : Type 0
Leaf = Path × List Token

abbrev pub under : Step → List Leaf → List Leaf
under s ls = map (λ l. (s ∷ l.0, l.1)) ls

-- of one member, by those of the members inside it
abbrev pub leaves_at : Step → List Token → Forest → List Leaf → List Leaf
leaves_at s v Forest.none ls = (s ∷ [], v) ∷ []
leaves_at s v Forest.passed ls = []
leaves_at s v (Forest.vlans runs) ls = []
leaves_at s v (Forest.texts vs) ls = (s ∷ [], v) ∷ []
leaves_at s v (Forest.tree a b c d) ls = under s ls

abbrev pub leaves : Forest → List Leaf
leaves Forest.none = []
leaves Forest.passed = []
leaves (Forest.vlans runs) = []
leaves (Forest.texts vs) = []
leaves (Forest.tree s v i rest) = leaves_at s v i (leaves i) ++ leaves rest

-- the first value at a path
abbrev pub value_at : List Leaf → Path → Option (List Token)
value_at [] path = None
value_at (l ∷ ls) path = cond (is_path l.0 path) (Some l.1) (value_at ls path)
