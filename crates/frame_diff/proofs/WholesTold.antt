-- Values that are told as a whole: they are leaves of two objects, and say the leaves inside.
use Rattle.std.proofs.Common.{◌≡◌, Bool, true, false, List, [], ◌∷◌, ◌++◌, append-nil, map, refl, sym, ap, ◌∙◌}
use Rattle.std.proofs.lemmas.List.Concat.{flat_map-append}
use Rattle.std.specs.Prelude.{Option, Some, None, cond, option_map, ◌&&◌}
use Rattle.std.specs.List.{flat_map}
use Rattle.json.specs.Token.{Token}
use Rattle.frame_diff.specs.Differences.{Change, inside_in, is_shown_same, leaf_change, leaf_in, member_told}
use Rattle.frame_diff.specs.Differences.{side_changes, told}
use Rattle.frame_diff.specs.Forests.{AreApart, Forest, Held, Leaf, Path, Step, find, is_label, is_step, leaves}
use Rattle.frame_diff.specs.Laws.{WholesAreLeaves}
use Rattle.frame_diff.specs.Sides.{is_moved}
use Rattle.frame_diff.specs.Wholes.{cut, inside_at, is_alone, opened, opened_by, wholes}
use Rattle.frame_diff.specs.declared.side.Side.{Side}
use Rattle.frame_diff.specs.declared.side.Side.TheVariants.{Old, New, Moved}
use Rattle.frame_diff.proofs.Leaves.{all_told, told_is}
use Rattle.frame_diff.proofs.Silent.{Has, found_first, rest_has}
use Rattle.frame_diff.proofs.Steps.{step_same}
use Rattle.frame_diff.specs.Forests.{runs_inside}

-- ** members

-- what a member holds, beside what stands at its step
abbrev held_cut : Step → Option Held → Held → Held
held_cut s beside held = (held.0, cut s beside (wholes held.1 (inside_in beside)))

found_whole : (s : Step) (f g : Forest) → find s (wholes f g) ≡ option_map (held_cut s (find s g)) (find s f)
found_whole s Forest.none g = refl
found_whole s Forest.passed g = refl
found_whole s (Forest.vlans runs) g = refl
found_whole s (Forest.texts vs) g = refl
found_whole s (Forest.tree t v i rest) g = by (is_step t s) refl (found_whole s rest g)
  where
    by : (b : Bool) → is_step t s ≡ b → find s (wholes rest g) ≡ option_map (held_cut s (find s g)) (find s rest)
        → cond b (Some (held_cut t (find t g) (v, i))) (find s (wholes rest g))
        ≡ option_map (held_cut s (find s g)) (cond b (Some (v, i)) (find s rest))
    by true same later = ap (λ u. Some (held_cut u (find u g) (v, i))) (step_same t s same)
    by false other later = later

cut_apart : (s : Step) (beside : Option Held) (i : Forest) → AreApart i → AreApart (cut s beside i)
cut_apart s beside i apart = by (is_label s && is_alone beside)
  where
    by : (b : Bool) → AreApart (cond b Forest.none i)
    by true = tt
    by false = apart

wholes_runs : (f g : Forest) → runs_inside f ≡ [] → runs_inside (wholes f g) ≡ []
wholes_runs Forest.none g none = refl
wholes_runs Forest.passed g none = refl
wholes_runs (Forest.vlans runs) g none = none
wholes_runs (Forest.texts vs) g none = refl
wholes_runs (Forest.tree s v i rest) g none = refl

pub wholes_apart : (f g : Forest) → AreApart f → AreApart (wholes f g)
wholes_apart Forest.none g apart = tt
wholes_apart Forest.passed g apart = tt
wholes_apart (Forest.vlans runs) g apart = apart
wholes_apart (Forest.texts vs) g apart = tt
wholes_apart (Forest.tree s v i rest) g apart = (
  found_whole s rest g ∙ ap (option_map (held_cut s (find s g))) apart.0,
  cut_apart s (find s g) (wholes i (inside_in (find s g))) (wholes_apart i (inside_in (find s g)) apart.1),
  wholes_apart rest g apart.2,
  wholes_runs rest g apart.3,
)

-- ** beside the wholes of others

and_false : (a : Bool) → (a && false) ≡ false
and_false true = refl
and_false false = refl

-- what a member holds that does not stand alone
abbrev held_beside : Forest → Held → Held
held_beside i held = (held.0, wholes held.1 i)

abbrev held_unless : Bool → Forest → Held → Held
held_unless b i held = (held.0, cond b Forest.none (wholes held.1 i))

found_beside : (s : Step) (v : List Token) (i g h : Forest) → find s h ≡ Some (v, i)
    → find s (wholes g h) ≡ option_map (held_beside i) (find s g)
found_beside s v i g h found =
    found_whole s g h
    ∙ ap (λ beside. option_map (held_cut s beside) (find s g)) found
    ∙ ap (λ b. option_map (held_unless b i) (find s g)) (and_false (is_label s))

leaf_beside : (v : List Token) (j i : Forest) → leaf_in (Some (v, wholes j i)) ≡ leaf_in (Some (v, j))
leaf_beside v Forest.none i = refl
leaf_beside v Forest.passed i = refl
leaf_beside v (Forest.vlans runs) i = refl
leaf_beside v (Forest.texts vs) i = refl
leaf_beside v (Forest.tree a b c d) i = refl

module _ (side : Side) (path : Path) (v : List Token) where
  found_same : (w : List Token) (j i : Forest)
      → told side path (wholes i j) (wholes j i) ≡ told side path (wholes i j) j → (b : Bool)
      → member_told side path v (cond b Forest.none (wholes i j)) (told side path (cond b Forest.none (wholes i j)))
      (Some (w, wholes j i))
      ≡ member_told side path v (cond b Forest.none (wholes i j)) (told side path (cond b Forest.none (wholes i j)))
      (Some (w, j))
  found_same w j i inner true = ap (leaf_change side path v) (leaf_beside w j i)
  found_same w j Forest.none inner false = ap (leaf_change side path v) (leaf_beside w j Forest.none)
  found_same w j Forest.passed inner false = refl
  found_same w j (Forest.vlans runs) inner false = refl
  found_same w j (Forest.texts vs) inner false = ap (leaf_change side path v) (leaf_beside w j (Forest.texts vs))
  found_same w j (Forest.tree a b c d) inner false = inner

  member_same : (s : Step) (i : Forest) (beside : Option Held)
      → told side path (wholes i (inside_in beside)) (wholes (inside_in beside) i)
      ≡ told side path (wholes i (inside_in beside)) (inside_in beside)
      → member_told side path v (cut s beside (wholes i (inside_in beside)))
      (told side path (cut s beside (wholes i (inside_in beside)))) (option_map (held_beside i) beside)
      ≡ member_told side path v (cut s beside (wholes i (inside_in beside)))
      (told side path (cut s beside (wholes i (inside_in beside)))) beside
  member_same s i None inner = refl
  member_same s i (Some held) inner = found_same held.0 held.1 i inner (is_label s && false)

-- what a forest has is found in the others as it is, whether these are taken with their wholes
pub told_same : (side : Side) (path : Path) (f g h : Forest) → AreApart f → Has f h
    → told side path (wholes f g) (wholes g h) ≡ told side path (wholes f g) g
told_same side path Forest.none g h apart has = refl
told_same side path Forest.passed g h apart has = refl
told_same side path (Forest.vlans runs) g h apart has = refl
told_same side path (Forest.texts vs) g h apart has = refl
told_same side path (Forest.tree s v i rest) g h apart has =
    let inside = cut s (find s g) (wholes i (inside_in (find s g))) in
    (λ k. member_told side (path ++ s ∷ []) v inside (told side (path ++ s ∷ []) inside)
    (found_beside s v i g h (has s (v, i) (found_first s v i rest)) k)
    ++ told_same side path rest g h apart.2 (rest_has s v i rest h apart.0 has) k)
    ∙ ap (λ cs. cs ++ told side path (wholes rest g) g)
    (member_same side (path ++ s ∷ []) v s i (find s g)
    (told_same side (path ++ s ∷ []) i (inside_in (find s g)) i apart.1 (λ t held h. h)))

-- ** leaf by leaf

-- a value that one side alone has
abbrev alone : Side → Path → List Token → Change
alone Old = Change.went
alone New = Change.came
alone Moved = Change.went

alone_is : (side : Side) (path : Path) (v : List Token) → is_moved side ≡ false
    → leaf_change side path v None ≡ alone side path v ∷ []
alone_is Old path v telling = refl
alone_is New path v telling = refl
alone_is Moved path v telling = absurd cc

alone_leaves : (side : Side) (path : Path) (ls : List Leaf) → is_moved side ≡ false
    → side_changes side path ls [] ≡ map (λ l. alone side (path ++ l.0) l.1) ls
alone_leaves side path [] telling = refl
alone_leaves side path (l ∷ ls) telling =
    (λ k. alone_is side (path ++ l.0) l.1 telling k ++ alone_leaves side path ls telling k)

alone_told : (side : Side) (path : Path) (v : List Token) (i : Forest) → is_moved side ≡ false
    → opened_by (alone side) path v i ≡ member_told side path v i (told side path i) None
alone_told side path v Forest.none telling = sym (alone_is side path v telling)
alone_told side path v Forest.passed telling = refl
alone_told side path v (Forest.vlans runs) telling = refl
alone_told side path v (Forest.texts vs) telling = sym (alone_is side path v telling)
alone_told side path v (Forest.tree a b c d) telling =
    sym (told_is side path (Forest.tree a b c d) Forest.none tt
    ∙ alone_leaves side path (leaves (Forest.tree a b c d)) telling)

inside_further : (path : Path) (s : Step) (f : Forest)
    → inside_at (path ++ s ∷ []) f ≡ inside_in (find s (inside_at path f))
inside_further [] s f = refl
inside_further (t ∷ path) s f = inside_further path s (inside_in (find t f))

-- where values that one side alone has are opened by what stands in a forest, and no others are
module _ (side : Side) (telling : is_moved side ≡ false) (own : Forest) (opening : Change → List Change)
    (one : (path : Path) (v : List Token)
    → flat_map opening (leaf_change side path v None) ≡ opened_by (alone side) path v (inside_at path own))
    (both : (path : Path) (v w : List Token)
    → flat_map opening (leaf_change side path v (Some w)) ≡ leaf_change side path v (Some w)) where
  leaf_opened : (path : Path) (v : List Token) (beside : Option (List Token))
      → opened_by (alone side) path v (inside_at path own) ≡ alone side path v ∷ []
      → flat_map opening (leaf_change side path v beside) ≡ leaf_change side path v beside
  leaf_opened path v None is = one path v ∙ is ∙ sym (alone_is side path v telling)
  leaf_opened path v (Some w) is = both path v w

  whole_opened : (path : Path) (v : List Token) (i : Forest) → inside_at path own ≡ i
      → flat_map opening (leaf_change side path v None) ≡ member_told side path v i (told side path i) None
  whole_opened path v i is =
      one path v ∙ ap (opened_by (alone side) path v) is ∙ alone_told side path v i telling

  kept_opened : (path : Path) (v : List Token) (i : Forest) (beside : Option Held) → inside_at path own ≡ i
      → flat_map opening (told side path (wholes i (inside_in beside)) (inside_in beside))
      ≡ told side path i (inside_in beside)
      → flat_map opening (member_told side path v (wholes i (inside_in beside))
      (told side path (wholes i (inside_in beside))) beside)
      ≡ member_told side path v i (told side path i) beside
  kept_opened path v Forest.none beside is inner =
      leaf_opened path v (leaf_in beside) (ap (opened_by (alone side) path v) is)
  kept_opened path v Forest.passed beside is inner = refl
  kept_opened path v (Forest.vlans runs) beside is inner = refl
  kept_opened path v (Forest.texts vs) beside is inner =
      leaf_opened path v (leaf_in beside) (ap (opened_by (alone side) path v) is)
  kept_opened path v (Forest.tree a b c d) beside is inner = inner

  -- what the member tells, if it is told as a whole or not
  abbrev member_by : Bool → Path → List Token → Forest → Option Held → List Change
  member_by b path v i beside =
      member_told side path v (cond b Forest.none (wholes i (inside_in beside)))
      (told side path (cond b Forest.none (wholes i (inside_in beside)))) beside

  member_opened : (path : Path) (v : List Token) (s : Step) (i : Forest) (beside : Option Held)
      → inside_at path own ≡ i
      → flat_map opening (told side path (wholes i (inside_in beside)) (inside_in beside))
      ≡ told side path i (inside_in beside)
      → flat_map opening (member_by (is_label s && is_alone beside) path v i beside)
      ≡ member_told side path v i (told side path i) beside
  member_opened path v s i None is inner = by (is_label s && true)
    where
      by : (b : Bool) → flat_map opening (member_by b path v i None) ≡ member_told side path v i (told side path i) None
      by true = whole_opened path v i is
      by false = kept_opened path v i None is inner
  member_opened path v s i (Some held) is inner =
      ap (λ b. flat_map opening (member_by b path v i (Some held))) (and_false (is_label s))
      ∙ kept_opened path v i (Some held) is inner

  told_opened : (path : Path) (f g : Forest) → AreApart f → Has f (inside_at path own)
      → flat_map opening (told side path (wholes f g) g) ≡ told side path f g
  told_opened path Forest.none g apart has = refl
  told_opened path Forest.passed g apart has = refl
  told_opened path (Forest.vlans runs) g apart has = refl
  told_opened path (Forest.texts vs) g apart has = refl
  told_opened path (Forest.tree s v i rest) g apart has =
      let beside = find s g in
      let is : inside_at (path ++ s ∷ []) own ≡ i =
      inside_further path s own ∙ ap inside_in (has s (v, i) (found_first s v i rest)) in
      flat_map-append opening (member_by (is_label s && is_alone beside) (path ++ s ∷ []) v i beside)
      (told side path (wholes rest g) g)
      ∙ (λ k. member_opened (path ++ s ∷ []) v s i beside is
      (told_opened (path ++ s ∷ []) i (inside_in beside) apart.1 (λ t held h. ap (find t) is ∙ h)) k
      ++ told_opened path rest g apart.2 (rest_has s v i rest (inside_at path own) apart.0 has) k)

-- ** of two objects

module _ (old new : Forest) where
  went_one : (path : Path) (v : List Token) → flat_map (opened old new) (leaf_change Old path v None)
      ≡ opened_by Change.went path v (inside_at path old)
  went_one path v = append-nil (opened_by Change.went path v (inside_at path old))

  came_one : (path : Path) (v : List Token) → flat_map (opened old new) (leaf_change New path v None)
      ≡ opened_by Change.came path v (inside_at path new)
  came_one path v = append-nil (opened_by Change.came path v (inside_at path new))

  turned_both : (path : Path) (v w : List Token) → flat_map (opened old new) (leaf_change Old path v (Some w))
      ≡ leaf_change Old path v (Some w)
  turned_both path v w = by (is_shown_same v w)
    where
      by : (b : Bool) → flat_map (opened old new) (cond b [] (Change.turned path v w ∷ []))
          ≡ cond b [] (Change.turned path v w ∷ [])
      by true = refl
      by false = refl

pub wholes_leaves : WholesAreLeaves
wholes_leaves old new apart apart_too =
    (λ k. flat_map (opened old new) (told_same Old [] old new old apart (λ t held h. h) k
    ++ told_same New [] new old new apart_too (λ t held h. h) k))
    ∙ flat_map-append (opened old new) (told Old [] (wholes old new) new) (told New [] (wholes new old) old)
    ∙ (λ k. told_opened Old refl old (opened old new) (went_one old new) (turned_both old new) [] old new apart
    (λ t held h. h) k
    ++ told_opened New refl new (opened old new) (came_one old new) (λ path v w. refl) [] new old apart_too
    (λ t held h. h) k)
    ∙ all_told old new apart apart_too
