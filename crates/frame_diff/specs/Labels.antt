-- The labels of the values of a list: the number of each, and how many values with its number stand before it.
use Rattle.std.specs.Prelude.{◌≡◌, ℕ, zero, suc, ◌+◌, ◌&&◌, nat_lt, List, [], ◌∷◌, ◌++◌, Bool, true, false}
use Rattle.std.specs.Prelude.{Option, None, Some, cond, decimal, map, option_map, unwrap_or}
use Rattle.std.specs.BTreeMap.{BTreeMap, get}
use Rattle.std.specs.Option.{option_cmp}
use Rattle.std.specs.Ordering.{nat_cmp, ordering_then}
use Rattle.std.specs.declared.cmp.Ordering.{Ordering}
use Rattle.frame_diff.specs.Forests.{Forest, Held, Member, Step, forest, is_number, is_same_label}
use Rattle.frame_diff.specs.Keys.{key_name}
use Rattle.frame_diff.specs.declared.keys.Key.{Key}
use Rattle.frame_diff.specs.declared.labels.Label.{Label}

-- ** labels

-- how many have a number
abbrev pub count : Option ℕ → List (Option ℕ) → ℕ
count n [] = 0
count n (m ∷ ms) = cond (is_number n m) 1 0 + count n ms

-- of values behind others
abbrev pub labels_behind : List (Option ℕ) → List (Option ℕ) → List Label
labels_behind before [] = []
labels_behind before (n ∷ ns) =
    (record { number = n; again = count n before }) ∷ labels_behind (n ∷ before) ns

abbrev pub labels_of : List (Option ℕ) → List Label
labels_of ns = labels_behind [] ns

-- ** texts

abbrev pub number_text : Option ℕ → List ℕ
number_text None = []
number_text (Some n) = 61 ∷ decimal n

-- how many stand before it, unless it has a number and none does
abbrev pub again_text : Option ℕ → ℕ → List ℕ
again_text None again = 35 ∷ decimal again
again_text (Some n) zero = []
again_text (Some n) (suc again) = 35 ∷ decimal (suc again)

-- in brackets: `name=n`, `name=n#again`, or `name#again`
abbrev pub label_text : List ℕ → Label → List ℕ
label_text name l = 91 ∷ name ++ number_text l.number ++ again_text l.number l.again ++ 93 ∷ []

abbrev pub label_step : Key → Label → Step
label_step key l = Step.label (key_name key) l

-- ** values

abbrev pub at_step : Step → Option Held → List Member
at_step s None = []
at_step s (Some held) = (s, held) ∷ []

-- each at its label
abbrev pub labelled : Key → List Label → List (Option Held) → List Member
labelled key [] hs = []
labelled key (l ∷ ls) [] = []
labelled key (l ∷ ls) (h ∷ hs) = at_step (label_step key l) h ++ labelled key ls hs

-- by the number of each
abbrev pub keyed : Key → List (Option ℕ) → List (Option Held) → Forest
keyed key ns hs = forest (labelled key (labels_of ns) hs)

-- ** for the calls that go over them

-- there is a number, above the one before
abbrev pub is_above : Option ℕ → Option ℕ → Bool
is_above before None = false
is_above None (Some n) = true
is_above (Some m) (Some n) = nat_lt m n

abbrev pub are_ascending : Option ℕ → List (Option ℕ) → Bool
are_ascending before [] = true
are_ascending before (n ∷ ns) = is_above before n && are_ascending n ns

-- where none has the number of another one
abbrev pub first_labels : List (Option ℕ) → List Label
first_labels ns = map (λ n. record { number = n; again = 0 }) ns

-- how the code orders numbers, and labels
abbrev pub number_cmp : Option ℕ → Option ℕ → Ordering
number_cmp a b = option_cmp nat_cmp a b

abbrev pub label_cmp : Label → Label → Ordering
label_cmp a b = ordering_then (number_cmp a.number b.number) (nat_cmp a.again b.again)

-- what a map counts of a number
abbrev pub count_in : BTreeMap (Option ℕ) ℕ → Option ℕ → ℕ
count_in counts n = unwrap_or (get number_cmp counts n) 0

-- the place of a label
abbrev pub place_of : Label → List Label → Option ℕ
place_of l [] = None
place_of l (m ∷ ms) = cond (is_same_label l m) (Some 0) (option_map suc (place_of l ms))

-- one of two lists begins with the other
abbrev pub GoAlong : List Label → List Label → Type 0
GoAlong [] ms = Unit {0}
GoAlong (l ∷ ls) [] = Unit {0}
GoAlong (l ∷ ls) (m ∷ ms) = (l ≡ m) × GoAlong ls ms

-- a map has the place of each label of the others; where there is none, both lists go along
abbrev pub IsIndex : Option (BTreeMap Label ℕ) → List Label → List Label → Type 0
IsIndex None own others = GoAlong own others
IsIndex (Some places) own others = (l : Label) → get label_cmp places l ≡ place_of l others
