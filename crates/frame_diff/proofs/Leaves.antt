-- What is told member by member is what differs between leaves.
use Rattle.std.proofs.Common.{◌≡◌, Bool, true, false, List, [], ◌∷◌, ◌++◌, refl, sym, ap, ◌∙◌}
use Rattle.std.proofs.Common.{append_assoc, append-nil}
use Rattle.std.specs.Prelude.{Option, Some, None, cond, ◌&&◌}
use Rattle.std.specs.List.{flat_map}
use Rattle.std.proofs.lemmas.List.Concat.{flat_map-append}
use Rattle.json.specs.Token.{Token}
use Rattle.frame_diff.specs.Differences.{Change, inside_in, leaf_change, leaf_in, member_told}
use Rattle.frame_diff.specs.Differences.{side_changes, told}
use Rattle.frame_diff.specs.Forests.{AreApart, Forest, Held, Leaf, Path, Step, find, is_path, is_step, leaves}
use Rattle.frame_diff.specs.Forests.{leaves_at, under, value_at}
use Rattle.frame_diff.specs.Laws.{WhatDiffersIsTold}
use Rattle.frame_diff.specs.declared.side.Side.{Side}
use Rattle.frame_diff.specs.declared.side.Side.TheVariants.{Old, New}
use Rattle.frame_diff.proofs.Steps.{step_same}

-- ** values at paths

-- the first of two
abbrev pub either : Option (List Token) → Option (List Token) → Option (List Token)
either None other = other
either (Some v) other = Some v

either_none : (a : Option (List Token)) → either a None ≡ a
either_none None = refl
either_none (Some v) = refl

pub value_append : (xs ys : List Leaf) (path : Path)
    → value_at (xs ++ ys) path ≡ either (value_at xs path) (value_at ys path)
value_append [] ys path = refl
value_append (x ∷ xs) ys path = by (is_path x.0 path) (value_append xs ys path)
  where
    by : (b : Bool) → value_at (xs ++ ys) path ≡ either (value_at xs path) (value_at ys path)
        → cond b (Some x.1) (value_at (xs ++ ys) path)
        ≡ either (cond b (Some x.1) (value_at xs path)) (value_at ys path)
    by true later = refl
    by false later = later

pub value_under : (s t : Step) (ls : List Leaf) (path : Path) → is_step s t ≡ true
    → value_at (under s ls) (t ∷ path) ≡ value_at ls path
value_under s t [] path same = refl
value_under s t (l ∷ ls) path same =
    (λ k. cond (same k && is_path l.0 path) (Some l.1) (value_under s t ls path same k))

pub value_not_under : (s t : Step) (ls : List Leaf) (path : Path) → is_step s t ≡ false
    → value_at (under s ls) (t ∷ path) ≡ None
value_not_under s t [] path other = refl
value_not_under s t (l ∷ ls) path other =
    (λ k. cond (other k && is_path l.0 path) (Some l.1) (value_not_under s t ls path other k))

-- the value at a path from a member on
abbrev pub within : List Token → Forest → Path → Option (List Token)
within v Forest.none [] = Some v
within v Forest.none (s ∷ path) = None
within v Forest.passed path = None
within v (Forest.vlans runs) path = None
within v (Forest.texts vs) [] = Some v
within v (Forest.texts vs) (s ∷ path) = None
within v (Forest.tree a b c d) path = value_at (leaves (Forest.tree a b c d)) path

abbrev pub beneath : Option Held → Path → Option (List Token)
beneath None path = None
beneath (Some held) path = within held.0 held.1 path

-- of one member, where its step is that one
member_value : (s t : Step) (v : List Token) (i : Forest) (path : Path) → is_step s t ≡ true
    → value_at (leaves_at s v i (leaves i)) (t ∷ path) ≡ within v i path
member_value s t v Forest.none [] same = ap (λ b. cond (b && true) (Some v) None) same
member_value s t v Forest.none (x ∷ path) same = ap (λ b. cond (b && false) (Some v) None) same
member_value s t v Forest.passed path same = refl
member_value s t v (Forest.vlans runs) path same = refl
member_value s t v (Forest.texts vs) [] same = ap (λ b. cond (b && true) (Some v) None) same
member_value s t v (Forest.texts vs) (x ∷ path) same = ap (λ b. cond (b && false) (Some v) None) same
member_value s t v (Forest.tree a b c d) path same = value_under s t (leaves (Forest.tree a b c d)) path same

member_lacks : (s t : Step) (v : List Token) (i : Forest) (path : Path) → is_step s t ≡ false
    → value_at (leaves_at s v i (leaves i)) (t ∷ path) ≡ None
member_lacks s t v Forest.none path other = ap (λ b. cond (b && is_path [] path) (Some v) None) other
member_lacks s t v Forest.passed path other = refl
member_lacks s t v (Forest.vlans runs) path other = refl
member_lacks s t v (Forest.texts vs) path other = ap (λ b. cond (b && is_path [] path) (Some v) None) other
member_lacks s t v (Forest.tree a b c d) path other =
    value_not_under s t (leaves (Forest.tree a b c d)) path other

-- a path leads to the member of its first step
pub value_of : (g : Forest) (t : Step) (path : Path) → AreApart g
    → value_at (leaves g) (t ∷ path) ≡ beneath (find t g) path
value_of Forest.none t path apart = refl
value_of Forest.passed t path apart = refl
value_of (Forest.vlans runs) t path apart = refl
value_of (Forest.texts vs) t path apart = refl
value_of (Forest.tree s v i rest) t path apart =
    value_append (leaves_at s v i (leaves i)) (leaves rest) (t ∷ path)
    ∙ by (is_step s t) refl (value_of rest t path apart.2)
  where
    by : (b : Bool) → is_step s t ≡ b → value_at (leaves rest) (t ∷ path) ≡ beneath (find t rest) path
        → either (value_at (leaves_at s v i (leaves i)) (t ∷ path)) (value_at (leaves rest) (t ∷ path))
        ≡ beneath (cond b (Some (v, i)) (find t rest)) path
    by true same later =
        let none : find t rest ≡ None = ap (λ u. find u rest) (sym (step_same s t same)) ∙ apart.0 in
        (λ k. either (member_value s t v i path same k) ((later ∙ ap (λ o. beneath o path) none) k))
        ∙ either_none (within v i path)
    by false other later = (λ k. either (member_lacks s t v i path other k) (later k))

-- ** paths of leaves

-- no path is empty
abbrev pub HaveSteps : List Leaf → Type 0
HaveSteps [] = Unit {0}
HaveSteps (([], v) ∷ ls) = ⊥
HaveSteps ((s ∷ path, v) ∷ ls) = HaveSteps ls

under_steps : (s : Step) (ls : List Leaf) → HaveSteps (under s ls)
under_steps s [] = tt
under_steps s (l ∷ ls) = under_steps s ls

append_steps : (xs ys : List Leaf) → HaveSteps xs → HaveSteps ys → HaveSteps (xs ++ ys)
append_steps [] ys h k = k
append_steps (([], v) ∷ xs) ys h k = absurd h
append_steps ((s ∷ path, v) ∷ xs) ys h k = append_steps xs ys h k

pub have_steps : (f : Forest) → HaveSteps (leaves f)
have_steps Forest.none = tt
have_steps Forest.passed = tt
have_steps (Forest.vlans runs) = tt
have_steps (Forest.texts vs) = tt
have_steps (Forest.tree s v i rest) =
    append_steps (leaves_at s v i (leaves i)) (leaves rest) (at i (leaves i)) (have_steps rest)
  where
    at : (j : Forest) (ls : List Leaf) → HaveSteps (leaves_at s v j ls)
    at Forest.none ls = tt
    at Forest.passed ls = tt
    at (Forest.vlans runs) ls = tt
    at (Forest.texts vs) ls = tt
    at (Forest.tree a b c d) ls = under_steps s ls

-- ** members beside others

-- what a leaf of one side says
abbrev says : Side → Path → List Leaf → Leaf → List Change
says side path others l = leaf_change side (path ++ l.0) l.1 (value_at others l.0)

pub inside_apart : (t : Step) (g : Forest) → AreApart g → AreApart (inside_in (find t g))
inside_apart t Forest.none apart = tt
inside_apart t Forest.passed apart = tt
inside_apart t (Forest.vlans runs) apart = tt
inside_apart t (Forest.texts vs) apart = tt
inside_apart t (Forest.tree s v i rest) apart = by (is_step s t) (inside_apart t rest apart.2)
  where
    by : (b : Bool) → AreApart (inside_in (find t rest))
        → AreApart (inside_in (cond b (Some (v, i)) (find t rest)))
    by true later = apart.1
    by false later = later

leaf_beneath : (beside : Option Held) → beneath beside [] ≡ leaf_in beside
leaf_beneath None = refl
leaf_beneath (Some (v, Forest.none)) = refl
leaf_beneath (Some (v, Forest.passed)) = refl
leaf_beneath (Some (v, Forest.vlans runs)) = refl
leaf_beneath (Some (v, Forest.texts vs)) = refl
leaf_beneath (Some (v, Forest.tree a b c d)) = lacks (leaves (Forest.tree a b c d)) (have_steps (Forest.tree a b c d))
  where
    lacks : (ls : List Leaf) → HaveSteps ls → value_at ls [] ≡ None
    lacks [] h = refl
    lacks (([], v) ∷ ls) h = absurd h
    lacks ((s ∷ path, v) ∷ ls) h = lacks ls h

inner_beneath : (beside : Option Held) (s : Step) (path : Path)
    → beneath beside (s ∷ path) ≡ value_at (leaves (inside_in beside)) (s ∷ path)
inner_beneath None s path = refl
inner_beneath (Some (v, Forest.none)) s path = refl
inner_beneath (Some (v, Forest.passed)) s path = refl
inner_beneath (Some (v, Forest.vlans runs)) s path = refl
inner_beneath (Some (v, Forest.texts vs)) s path = refl
inner_beneath (Some (v, Forest.tree a b c d)) s path = refl

-- leaves inside a member, by those of what is inside the one beside it
under_says : (side : Side) (path : Path) (s : Step) (g : Forest) (ls : List Leaf) → AreApart g → HaveSteps ls
    → side_changes side (path ++ s ∷ []) ls (leaves (inside_in (find s g)))
    ≡ flat_map (says side path (leaves g)) (under s ls)
under_says side path s g [] apart steps = refl
under_says side path s g (([], v) ∷ ls) apart steps = absurd steps
under_says side path s g ((t ∷ more, v) ∷ ls) apart steps =
    let value : value_at (leaves (inside_in (find s g))) (t ∷ more) ≡ value_at (leaves g) (s ∷ t ∷ more) =
    sym (value_of g s (t ∷ more) apart ∙ inner_beneath (find s g) t more) in
    (λ k. leaf_change side (append_assoc path (s ∷ []) (t ∷ more) k) v (value k)
    ++ under_says side path s g ls apart steps k)

member_is : (side : Side) (path : Path) (s : Step) (v : List Token) (i g : Forest) → AreApart g
    → told side (path ++ s ∷ []) i (inside_in (find s g))
    ≡ side_changes side (path ++ s ∷ []) (leaves i) (leaves (inside_in (find s g)))
    → member_told side (path ++ s ∷ []) v i (told side (path ++ s ∷ []) i) (find s g)
    ≡ flat_map (says side path (leaves g)) (leaves_at s v i (leaves i))
member_is side path s v Forest.none g apart inner =
    ap (leaf_change side (path ++ s ∷ []) v) (sym (value_of g s [] apart ∙ leaf_beneath (find s g)))
    ∙ sym (append-nil (leaf_change side (path ++ s ∷ []) v (value_at (leaves g) (s ∷ []))))
member_is side path s v Forest.passed g apart inner = refl
member_is side path s v (Forest.vlans runs) g apart inner = refl
member_is side path s v (Forest.texts vs) g apart inner =
    ap (leaf_change side (path ++ s ∷ []) v) (sym (value_of g s [] apart ∙ leaf_beneath (find s g)))
    ∙ sym (append-nil (leaf_change side (path ++ s ∷ []) v (value_at (leaves g) (s ∷ []))))
member_is side path s v (Forest.tree a b c d) g apart inner =
    inner ∙ under_says side path s g (leaves (Forest.tree a b c d)) apart (have_steps (Forest.tree a b c d))

pub told_is : (side : Side) (path : Path) (f g : Forest) → AreApart g
    → told side path f g ≡ side_changes side path (leaves f) (leaves g)
told_is side path Forest.none g apart = refl
told_is side path Forest.passed g apart = refl
told_is side path (Forest.vlans runs) g apart = refl
told_is side path (Forest.texts vs) g apart = refl
told_is side path (Forest.tree s v i rest) g apart =
    (λ k. member_is side path s v i g apart
    (told_is side (path ++ s ∷ []) i (inside_in (find s g)) (inside_apart s g apart)) k
    ++ told_is side path rest g apart k)
    ∙ sym (flat_map-append (says side path (leaves g)) (leaves_at s v i (leaves i)) (leaves rest))

pub all_told : WhatDiffersIsTold
all_told old new apart apart_too =
    (λ k. told_is Old [] old new apart_too k ++ told_is New [] new old apart k)
