-- Equality of wide enums, variant by variant, in the order of their declaration.
use Rattle.std.specs.Prelude.{◌≡◌, ◌==◌, ◌&&◌, ℕ, ℤ, Bool, true, false, List, [], ◌∷◌}
use Rattle.std.specs.Bool.{Decides}
use Rattle.std.specs.Ordering.{int_eq}
use mathlib.Core.Bool.{beq}
use Rattle.std.specs.Cmp.{unsigned_Decides, signed_Decides, booleans_Decides}
use Rattle.std.proofs.Common.{ap, inl, inr, refl}
use Rattle.std.proofs.lemmas.Slice.Eq.{slice_eq-Decides}
use lib.Pointwise.{pointwise}
use denote.Struct.Field.{Field}
use denote.Struct.Values.{Values}
use denote.Enum.Declared.{Record, Choice, values_one}
use denote.Enum.Compared.{Each, by}

-- equality decides at each variant's fields
abbrev pub Exacts : (Fss : List (List Field)) → Each Bool Fss → Type 0
Exacts [] es = Unit {0}
Exacts (Fs ∷ Fss) es = ((x y : Values Fs) → Decides (es.0 x y) (x ≡ y)) × Exacts Fss es.1

pub choices_exact : (Fss : List (List Field)) (es : Each Bool Fss) → Exacts Fss es → (c d : Choice Fss)
    → Decides (by false false Fss es c d) (c ≡ d)
choices_exact [] es all c d = absurd c
choices_exact (Fs ∷ Fss) es all (inl x) (inl y) =
    (λ e. ap inl ((all.0 x y).0 e), λ e. let k : x ≡ y = cc in (all.0 x y).1 k)
choices_exact (Fs ∷ Fss) es all (inl x) (inr y) = (λ e. absurd cc, λ e. absurd cc)
choices_exact (Fs ∷ Fss) es all (inr x) (inl y) = (λ e. absurd cc, λ e. absurd cc)
choices_exact (Fs ∷ Fss) es all (inr x) (inr y) = (
  λ e. ap inr ((choices_exact Fss es.1 all.1 x y).0 e),
  λ e. let k : x ≡ y = cc in (choices_exact Fss es.1 all.1 x y).1 k,
)

-- the derived equality of an enum decides, where it does at each variant's fields
pub by_exact : (N : Record) (es : Each Bool N.parts) → Exacts N.parts es → (x y : N.D)
    → Decides (by false false N.parts es (N.as_values x) (N.as_values y)) (x ≡ y)
by_exact N es all x y = (
  λ e. values_one N x y ((choices_exact N.parts es all (N.as_values x) (N.as_values y)).0 e),
  λ e. (choices_exact N.parts es all (N.as_values x) (N.as_values y)).1 (ap N.as_values e),
)

-- two tests, one after the other
pub both_exact : {P Q : Type 0} (a b : Bool) → Decides a P → Decides b Q → Decides (a && b) (P × Q)
both_exact true b p q = (λ e. (p.0 refl, q.0 e), λ h. q.1 h.1)
both_exact false b p q = (λ e. absurd cc, λ h. absurd (let k : false ≡ true = p.1 h.0 in cc))

-- a variant of one field
pub one_field : {A : Type 0} {E : A → A → Bool} → ((x y : A) → Decides (E x y) (x ≡ y)) → (x y : A × Unit {0})
    → Decides (E x.0 y.0) (x ≡ y)
one_field d x y =
    (λ e. let k : x.0 ≡ y.0 = (d x.0 y.0).0 e in ap (λ a. (a, tt)) k, λ e. (d x.0 y.0).1 (ap (λ p. p.0) e))

-- a list
pub list_exact : {A : Type 0} {E : A → A → Bool} → ((x y : A) → Decides (E x y) (x ≡ y)) → (xs ys : List A)
    → Decides (pointwise E xs ys) (xs ≡ ys)
list_exact d xs ys = slice_eq-Decides d xs ys _ refl

-- numbers, and lists of them
pub number_exact : (x y : ℕ) → Decides (x == y) (x ≡ y)
number_exact = unsigned_Decides

pub signed_exact : (x y : ℤ) → Decides (int_eq x y) (x ≡ y)
signed_exact = signed_Decides

pub bytes_exact : (xs ys : List ℕ) → Decides (pointwise ◌==◌ xs ys) (xs ≡ ys)
bytes_exact = list_exact number_exact

pub bool_exact : (x y : Bool) → Decides (beq x y) (x ≡ y)
bool_exact = booleans_Decides

-- one variant of one field, before those that are declared after it
infixr 5 ◌&◌
abbrev pub ◌&◌ : {A B : Type 0} {E : A → A → Bool} → ((x y : A) → Decides (E x y) (x ≡ y)) → B
    → ((x y : A × Unit {0}) → Decides (E x.0 y.0) (x ≡ y)) × B
d & rest = (one_field d, rest)
