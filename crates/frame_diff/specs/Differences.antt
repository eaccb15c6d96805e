-- What differs between leaves: paths that came, that went, or whose value turned.
use Rattle.std.specs.Prelude.{ℕ, List, [], ◌∷◌, ◌++◌, Bool, Option, Some, None, cond}
use Rattle.std.specs.List.{flat_map, list_any}
use Rattle.json.specs.Token.{Token}
use Rattle.shown.specs.Drafts.{object_of}
use Rattle.shown.specs.Print.{print}
use Rattle.frame_diff.specs.Forests.{Forest, Held, Leaf, Path, find, is_path, is_text, value_at}
use Rattle.frame_diff.specs.declared.side.Side.{Side}
use Rattle.frame_diff.specs.declared.side.Side.TheVariants.{Old, New, Moved}

pub data Change : Type 0 where
  came : (path : Path) (value : List Token) → Change
  went : (path : Path) (value : List Token) → Change
  turned : (path : Path) (was is : List Token) → Change

-- ** of all leaves

-- the text of a value, as that of the one member of an object
unfoldable pub text_of : List Token → List ℕ
text_of v = print (object_of (([], v) ∷ []))

-- two values whose texts are the same
abbrev pub is_shown_same : List Token → List Token → Bool
is_shown_same v w = is_text (text_of v) (text_of w)

-- what a leaf says of one side, by the value at its path on the other one
abbrev pub leaf_change : Side → Path → List Token → Option (List Token) → List Change
leaf_change Old path v None = Change.went path v ∷ []
leaf_change Old path v (Some w) = cond (is_shown_same v w) [] (Change.turned path v w ∷ [])
leaf_change New path v None = Change.came path v ∷ []
leaf_change New path v (Some w) = []
leaf_change Moved path v beside = []

-- what all leaves of one side say
abbrev pub side_changes : Side → Path → List Leaf → List Leaf → List Change
side_changes side path own others = flat_map (λ l. leaf_change side (path ++ l.0) l.1 (value_at others l.0)) own

-- what went or turned, in the order of the old ones, and then what came
abbrev pub changes : List Leaf → List Leaf → List Change
changes old new = side_changes Old [] old new ++ side_changes New [] new old

-- ** member by member

-- the value of a member that holds no other
abbrev pub leaf_in : Option Held → Option (List Token)
leaf_in None = None
leaf_in (Some (v, Forest.none)) = Some v
leaf_in (Some (v, Forest.passed)) = None
leaf_in (Some (v, Forest.vlans runs)) = None
leaf_in (Some (v, Forest.texts vs)) = Some v
leaf_in (Some (v, Forest.tree a b c d)) = None

-- the members inside one
abbrev pub inside_in : Option Held → Forest
inside_in None = Forest.none
inside_in (Some held) = held.1

-- what a member tells beside another one, if there is one, by what those inside it tell
abbrev pub member_told : Side → Path → List Token → Forest → (Forest → List Change) → Option Held → List Change
member_told side path v Forest.none told beside = leaf_change side path v (leaf_in beside)
member_told side path v Forest.passed told beside = []
member_told side path v (Forest.vlans runs) told beside = []
member_told side path v (Forest.texts vs) told beside = leaf_change side path v (leaf_in beside)
member_told side path v (Forest.tree a b c d) told beside = told (inside_in beside)

-- what members tell beside others
abbrev pub told : Side → Path → Forest → Forest → List Change
told side path Forest.none others = []
told side path Forest.passed others = []
told side path (Forest.vlans runs) others = []
told side path (Forest.texts vs) others = []
told side path (Forest.tree s v i rest) others =
    member_told side (path ++ s ∷ []) v i (told side (path ++ s ∷ []) i) (find s others)
    ++ told side path rest others

-- what those of an old object and a new one tell
abbrev pub both_told : Forest → Forest → List Change
both_told old new = told Old [] old new ++ told New [] new old

-- ** paths of changes

abbrev pub path_of : Change → Path
path_of (Change.came path value) = path
path_of (Change.went path value) = path
path_of (Change.turned path was is) = path

abbrev pub is_told : List Change → Path → Bool
is_told cs path = list_any (λ c. is_path (path_of c) path) cs
