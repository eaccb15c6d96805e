-- Members that are the same in both tell nothing.
use Rattle.std.proofs.Common.{◌≡◌, Bool, true, false, List, [], ◌∷◌, ◌++◌, refl, sym, ap, ◌∙◌}
use Rattle.std.specs.Prelude.{Some, None, cond}
use Rattle.json.specs.Token.{Token}
use Rattle.frame_diff.specs.Differences.{Change, leaf_change, member_told, text_of, told}
use Rattle.frame_diff.specs.Forests.{AreApart, Forest, Held, Path, Step, find, is_step}
use Rattle.frame_diff.specs.Laws.{SameIsSilent}
use Rattle.frame_diff.specs.declared.side.Side.{Side}
use Rattle.frame_diff.specs.declared.side.Side.TheVariants.{Old, New, Moved}
use Rattle.frame_diff.proofs.Steps.{step_is, step_same, text_is}

-- what one has, the other has
abbrev pub Has : Forest → Forest → Type 0
Has f g = (t : Step) (held : Held) → find t f ≡ Some held → find t g ≡ Some held

leaf_silent : (side : Side) (path : Path) (v : List Token) → leaf_change side path v (Some v) ≡ []
leaf_silent Old path v = ap (λ b. cond b [] (Change.turned path v v ∷ [])) (text_is (text_of v))
leaf_silent New path v = refl
leaf_silent Moved path v = refl

member_silent : (side : Side) (path : Path) (v : List Token) (i : Forest) → told side path i i ≡ []
    → member_told side path v i (told side path i) (Some (v, i)) ≡ []
member_silent side path v Forest.none inner = leaf_silent side path v
member_silent side path v Forest.passed inner = refl
member_silent side path v (Forest.vlans runs) inner = refl
member_silent side path v (Forest.texts vs) inner = leaf_silent side path v
member_silent side path v (Forest.tree a b c d) inner = inner

pub found_first : (s : Step) (v : List Token) (i rest : Forest) → find s (Forest.tree s v i rest) ≡ Some (v, i)
found_first s v i rest = ap (λ b. cond b (Some (v, i)) (find s rest)) (step_is s)

-- those behind the first one
pub rest_has : (s : Step) (v : List Token) (i rest g : Forest) → find s rest ≡ None → Has (Forest.tree s v i rest) g
    → Has rest g
rest_has s v i rest g none has t held found = has t held (by (is_step s t) refl)
  where
    by : (b : Bool) → is_step s t ≡ b → cond b (Some (v, i)) (find t rest) ≡ Some held
    by true same =
        let clash : None ≡ Some held = sym none ∙ ap (λ u. find u rest) (step_same s t same) ∙ found in absurd cc
    by false other = found

pub silent_in : (side : Side) (path : Path) (f g : Forest) → AreApart f → Has f g → told side path f g ≡ []
silent_in side path Forest.none g apart has = refl
silent_in side path Forest.passed g apart has = refl
silent_in side path (Forest.vlans runs) g apart has = refl
silent_in side path (Forest.texts vs) g apart has = refl
silent_in side path (Forest.tree s v i rest) g apart has =
    (λ k. member_told side (path ++ s ∷ []) v i (told side (path ++ s ∷ []) i)
    (has s (v, i) (found_first s v i rest) k) ++ told side path rest g)
    ∙ (λ k. member_silent side (path ++ s ∷ []) v i
    (silent_in side (path ++ s ∷ []) i i apart.1 (λ t held h. h)) k
    ++ silent_in side path rest g apart.2 (rest_has s v i rest g apart.0 has) k)

pub same_silent : SameIsSilent
same_silent side path f apart = silent_in side path f f apart (λ t held h. h)
