-- No path is told twice.
use Rattle.std.proofs.Common.{◌≡◌, Bool, true, false, List, [], ◌∷◌, ◌++◌, refl, sym, ap, subst, ◌∙◌, append_assoc}
use Rattle.std.specs.Prelude.{Option, Some, None, cond, ◌||◌}
use Rattle.json.specs.Token.{Token}
use Rattle.frame_diff.specs.Differences.{Change, is_shown_same, is_told, leaf_change, path_of, side_changes}
use Rattle.frame_diff.specs.Forests.{AreApart, Forest, Leaf, Path, Step, find, is_path, leaves, leaves_at}
use Rattle.frame_diff.specs.Forests.{under, value_at}
use Rattle.frame_diff.specs.Laws.{AreOnce, EachIsToldOnce}
use Rattle.frame_diff.specs.declared.side.Side.{Side}
use Rattle.frame_diff.specs.declared.side.Side.TheVariants.{Old, New, Moved}
use Rattle.frame_diff.proofs.Leaves.{all_told, beneath, either, value_append, value_of, value_under}
use Rattle.frame_diff.proofs.Steps.{path_is, path_same, step_is}

-- ** leaves

-- each path stands once
abbrev pub StandOnce : List Leaf → Type 0
StandOnce [] = Unit {0}
StandOnce (l ∷ ls) = (value_at ls l.0 ≡ None) × StandOnce ls

-- the paths of these have no value there
abbrev pub Lack : List Leaf → List Leaf → Type 0
Lack [] ys = Unit {0}
Lack (x ∷ xs) ys = (value_at ys x.0 ≡ None) × Lack xs ys

append_once : (xs ys : List Leaf) → StandOnce xs → StandOnce ys → Lack xs ys → StandOnce (xs ++ ys)
append_once [] ys h k lack = k
append_once (x ∷ xs) ys h k lack = (
  value_append xs ys x.0 ∙ (λ n. either (h.0 n) (lack.0 n)),
  append_once xs ys h.1 k lack.1,
)

under_once : (s : Step) (ls : List Leaf) → StandOnce ls → StandOnce (under s ls)
under_once s [] once = tt
under_once s (l ∷ ls) once = (value_under s s ls l.0 (step_is s) ∙ once.0, under_once s ls once.1)

under_lack : (s : Step) (ls : List Leaf) (rest : Forest) → AreApart rest → find s rest ≡ None
    → Lack (under s ls) (leaves rest)
under_lack s [] rest apart none = tt
under_lack s (l ∷ ls) rest apart none =
    (value_of rest s l.0 apart ∙ ap (λ o. beneath o l.0) none, under_lack s ls rest apart none)

pub leaves_once : (f : Forest) → AreApart f → StandOnce (leaves f)
leaves_once Forest.none apart = tt
leaves_once Forest.passed apart = tt
leaves_once (Forest.vlans runs) apart = tt
leaves_once (Forest.texts vs) apart = tt
leaves_once (Forest.tree s v i rest) apart =
    append_once (leaves_at s v i (leaves i)) (leaves rest) (once i (leaves_once i apart.1))
    (leaves_once rest apart.2) (lack i)
  where
    once : (j : Forest) → StandOnce (leaves i) → StandOnce (leaves_at s v j (leaves i))
    once Forest.none h = (refl, tt)
    once Forest.passed h = tt
    once (Forest.vlans runs) h = tt
    once (Forest.texts vs) h = (refl, tt)
    once (Forest.tree a b c d) h = under_once s (leaves i) h

    lack : (j : Forest) → Lack (leaves_at s v j (leaves i)) (leaves rest)
    lack Forest.none = (value_of rest s [] apart.2 ∙ ap (λ o. beneath o []) apart.0, tt)
    lack Forest.passed = tt
    lack (Forest.vlans runs) = tt
    lack (Forest.texts vs) = (value_of rest s [] apart.2 ∙ ap (λ o. beneath o []) apart.0, tt)
    lack (Forest.tree a b c d) = under_lack s (leaves i) rest apart.2 apart.0

-- ** what they say

-- of one leaf
one_told : (side : Side) (p : Path) (v : List Token) (beside : Option (List Token)) (path : Path)
    → is_path p path ≡ false → is_told (leaf_change side p v beside) path ≡ false
one_told Old p v None path other = ap (λ b. b || false) other
one_told Old p v (Some w) path other = by (is_shown_same v w)
  where
    by : (b : Bool) → is_told (cond b [] (Change.turned p v w ∷ [])) path ≡ false
    by true = refl
    by false = ap (λ b. b || false) other
one_told New p v None path other = ap (λ b. b || false) other
one_told New p v (Some w) path other = refl
one_told Moved p v beside path other = refl

told_append : (xs ys : List Change) (path : Path) → is_told xs path ≡ false → is_told ys path ≡ false
    → is_told (xs ++ ys) path ≡ false
told_append [] ys path h k = k
told_append (x ∷ xs) ys path h k = by (is_path (path_of x) path) h (λ e. told_append xs ys path e k)
  where
    by : (b : Bool) → (b || is_told xs path) ≡ false → (is_told xs path ≡ false → is_told (xs ++ ys) path ≡ false)
        → (b || is_told (xs ++ ys) path) ≡ false
    by true e later = absurd cc
    by false e later = later e

-- a path that is none of these is not told of these
lacks_path : (l : Leaf) (ls : List Leaf) (path : Path) → value_at (l ∷ ls) path ≡ None
    → (is_path l.0 path ≡ false) × (value_at ls path ≡ None)
lacks_path l ls path none = by (is_path l.0 path) none
  where
    by : (b : Bool) → cond b (Some l.1) (value_at ls path) ≡ None → (b ≡ false) × (value_at ls path ≡ None)
    by true h = absurd cc
    by false h = (refl, h)

not_told : (side : Side) (ls others : List Leaf) (path : Path) → value_at ls path ≡ None
    → is_told (side_changes side [] ls others) path ≡ false
not_told side [] others path none = refl
not_told side (l ∷ ls) others path none =
    let h = lacks_path l ls path none in
    told_append (leaf_change side l.0 l.1 (value_at others l.0)) (side_changes side [] ls others) path
    (one_told side l.0 l.1 (value_at others l.0) path h.0) (not_told side ls others path h.1)

-- changes of one leaf in front of others
in_front : (side : Side) (p : Path) (v : List Token) (beside : Option (List Token)) (cs : List Change)
    → is_told cs p ≡ false → AreOnce cs → AreOnce (leaf_change side p v beside ++ cs)
in_front Old p v None cs none once = (none, once)
in_front Old p v (Some w) cs none once = by (is_shown_same v w)
  where
    by : (b : Bool) → AreOnce (cond b [] (Change.turned p v w ∷ []) ++ cs)
    by true = once
    by false = (none, once)
in_front New p v None cs none once = (none, once)
in_front New p v (Some w) cs none once = once
in_front Moved p v beside cs none once = once

-- what came is at no path of the old ones
came_lacks : (ls old : List Leaf) (path : Path) (v : List Token) → value_at old path ≡ Some v
    → is_told (side_changes New [] ls old) path ≡ false
came_lacks [] old path v some = refl
came_lacks (l ∷ ls) old path v some =
    told_append (leaf_change New l.0 l.1 (value_at old l.0)) (side_changes New [] ls old) path
    (at (value_at old l.0) refl) (came_lacks ls old path v some)
  where
    other : value_at old l.0 ≡ None → (b : Bool) → is_path l.0 path ≡ b → b ≡ false
    other none true same =
        let clash : None ≡ Some v = sym none ∙ ap (value_at old) (path_same l.0 path same) ∙ some in absurd cc
    other none false h = refl

    at : (beside : Option (List Token)) → value_at old l.0 ≡ beside
        → is_told (leaf_change New l.0 l.1 beside) path ≡ false
    at None none = one_told New l.0 l.1 None path (other none (is_path l.0 path) refl)
    at (Some w) h = refl

-- leaves that all have a value among the old ones
abbrev pub AreIn : List Leaf → List Leaf → Type 0
AreIn [] old = Unit {0}
AreIn (l ∷ ls) old = ((v : List Token) × (value_at old l.0 ≡ Some v)) × AreIn ls old

in_more : (x : Leaf) (ls old : List Leaf) → AreIn ls old → AreIn ls (x ∷ old)
in_more x [] old h = tt
in_more x (l ∷ ls) old h = (by (is_path x.0 l.0), in_more x ls old h.1)
  where
    by : (b : Bool) → (v : List Token) × (cond b (Some x.1) (value_at old l.0) ≡ Some v)
    by true = (x.1, refl)
    by false = h.0

all_in : (ls : List Leaf) → AreIn ls ls
all_in [] = tt
all_in (l ∷ ls) =
    ((l.1, ap (λ b. cond b (Some l.1) (value_at ls l.0)) (path_is l.0)), in_more l ls ls (all_in ls))

-- those of old leaves in front of what came
old_once : (ls old new : List Leaf) → StandOnce ls → AreIn ls old → AreOnce (side_changes New [] new old)
    → AreOnce (side_changes Old [] ls new ++ side_changes New [] new old)
old_once [] old new once are later = later
old_once (l ∷ ls) old new once are later =
    subst_once (in_front Old l.0 l.1 (value_at new l.0) (side_changes Old [] ls new ++ side_changes New [] new old)
    (told_append (side_changes Old [] ls new) (side_changes New [] new old) l.0
    (not_told Old ls new l.0 once.0) (came_lacks new old l.0 are.0.0 are.0.1))
    (old_once ls old new once.1 are.1 later))
  where
    first : List Change
    first = leaf_change Old l.0 l.1 (value_at new l.0)

    subst_once : AreOnce (first ++ (side_changes Old [] ls new ++ side_changes New [] new old))
        → AreOnce ((first ++ side_changes Old [] ls new) ++ side_changes New [] new old)
    subst_once h =
        subst AreOnce (sym (append_assoc first (side_changes Old [] ls new) (side_changes New [] new old))) h

new_once : (ls old : List Leaf) → StandOnce ls → AreOnce (side_changes New [] ls old)
new_once [] old once = tt
new_once (l ∷ ls) old once =
    in_front New l.0 l.1 (value_at old l.0) (side_changes New [] ls old) (not_told New ls old l.0 once.0)
    (new_once ls old once.1)

pub each_once : EachIsToldOnce
each_once old new apart apart_too =
    subst AreOnce (sym (all_told old new apart apart_too))
    (old_once (leaves old) (leaves old) (leaves new) (leaves_once old apart) (all_in (leaves old))
    (new_once (leaves new) (leaves old) (leaves_once new apart_too)))
