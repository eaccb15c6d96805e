-- The grammar of nested attributes: places as tables, built from a few combinators. Each combinator says side by side
-- what bytes mean, why they mean nothing, and what a reader returns.
use Rattle.std.specs.Prelude.{◌≡◌, ℕ, ◌<◌, ◌==◌, Bool, true, false, not, List, [], ◌∷◌, ◌⊎◌, length, filter}
use Rattle.std.specs.Prelude.{Option, None, Some, Result, Ok, Err}
use Rattle.std.specs.List.{AllZip}
use Rattle.nla_wire.specs.Frames.{Frame, number, Begins, Frames, BadStart}
use Rattle.nla_wire.specs.Reading.{list_of, ◌>>=◌}
use Rattle.nla_wire.specs.declared.error.Cause.{Cause}
use Rattle.nla_wire.specs.declared.error.Cause.TheVariants.{EmptyList}

-- s is a payload, or a frame: a grammar of frames is a place
pub record Grammar (S A : Type 0) : Type 1 where
  -- s means a
  pub means : S → A → Type 0
  -- s means nothing, and this is its first fault
  pub bad : S → Cause → Type 0
  -- what a reader returns
  pub reads : S → Result A Cause

-- the reader returns what the relations say
pub record Agrees {S A : Type 0} (IsOne : S → Type 0) (g : Grammar S A) : Type 0 where
  pub only : (s : S) (a : A) → g.means s a → g.reads s ≡ Ok a
  pub found : (s : S) (a : A) → IsOne s → g.reads s ≡ Ok a → g.means s a
  pub fault : (s : S) (c : Cause) → IsOne s → g.reads s ≡ Err c → g.bad s c
  pub refused : (s : S) (c : Cause) → g.bad s c → g.reads s ≡ Err c

-- what is read by g, as this variant
abbrev pub as_a : {S A B : Type 0} → (A → B) → Grammar S A → Grammar S B
as_a {S} {A} {B} variant g = record {
  means = λ s b. (a : A) × g.means s a × (b ≡ variant a);
  bad = g.bad;
  reads = λ s. g.reads s >>= λ a. Ok (variant a);
}

-- fs and vs are equally long, and each frame means the value at its place
abbrev pub Every : {V : Type 0} → (Frame → V → Type 0) → List Frame → List V → Type 0
Every M fs vs = AllZip M fs vs

-- each of the frames fs at the front of b has a value, and what follows them is the fault
abbrev pub FirstAfter : {V : Type 0} → Grammar Frame V → List ℕ → List Frame → Cause → Type 0
FirstAfter place b [] c = BadStart b c ⊎ ((f : Frame) × (rest : List ℕ) × Begins b f rest × place.bad f c)
FirstAfter {V} place b (f ∷ fs) c =
    (rest : List ℕ) × Begins b f rest × ((v : V) × place.means f v) × FirstAfter place rest fs c

-- the first fault of b, from its front on: that of a frame's value comes before that of the frame after it
abbrev pub First : {V : Type 0} → Grammar Frame V → List ℕ → Cause → Type 0
First place b c = (fs : List Frame) × FirstAfter place b fs c

-- a list of members of this place
abbrev pub list : {V : Type 0} → Grammar Frame V → Grammar (List ℕ) (List V)
list {V} place = record {
  means = λ p vs. (fs : List Frame) × Frames p fs × Every place.means fs vs;
  bad = First place;
  reads = list_of place.reads;
}

unfoldable pub unless_empty : {A : Type 0} → List ℕ → Result A Cause → Result A Cause
unless_empty [] r = Err EmptyList
unless_empty (x ∷ p) r = r

-- the same where the empty payload is refused
abbrev pub not_empty : {A : Type 0} → Grammar (List ℕ) A → Grammar (List ℕ) A
not_empty g = record {
  means = λ p a. (0 < length p) × g.means p a;
  bad = λ p c. ((p ≡ []) × (c ≡ EmptyList)) ⊎ ((0 < length p) × g.bad p c);
  reads = λ p. unless_empty p (g.reads p);
}

-- ** readings of frames

abbrev pub by_payload : {V : Type 0} → Grammar (List ℕ) V → Grammar Frame V
by_payload g = record { means = λ f. g.means f.payload; bad = λ f. g.bad f.payload; reads = λ f. g.reads f.payload }

-- a frame that is kept as it is: it always has a value
abbrev pub undecoded : {V : Type 0} → (Frame → V) → Grammar Frame V
undecoded other = record { means = λ f v. v ≡ other f; bad = λ f c. ⊥; reads = λ f. Ok (other f) }

abbrev pub if_true : {V : Type 0} → Bool → Grammar Frame V → Grammar Frame V → Grammar Frame V
if_true true g h = g
if_true false g h = h

-- read as g where the frame passes the test, else as h
abbrev pub choose : {V : Type 0} → (Frame → Bool) → Grammar Frame V → Grammar Frame V → Grammar Frame V
choose test g h = record {
  means = λ f. (if_true (test f) g h).means f;
  bad = λ f. (if_true (test f) g h).bad f;
  reads = λ f. (if_true (test f) g h).reads f;
}

-- ** a list of which the members with other numbers than 1 are dropped unread

abbrev pub is_one : Frame → Bool
is_one f = number f == 1

-- a value at this place, or nothing where the frame is dropped
abbrev pub some_if_picked : {V : Type 0} → Grammar Frame V → Grammar Frame (Option V)
some_if_picked {V} place = choose is_one (as_a (λ (v : V). Some v) place) (undecoded (λ f. None))

abbrev pub present_values : {V : Type 0} → List (Option V) → List V
present_values [] = []
present_values (None ∷ os) = present_values os
present_values ((Some v) ∷ os) = v ∷ present_values os

abbrev pub picked : {V : Type 0} → Grammar Frame V → Grammar (List ℕ) (List V)
picked {V} place = record {
  means = λ p vs. (fs : List Frame) × Frames p fs × Every place.means (filter is_one fs) vs;
  bad = First (some_if_picked place);
  reads = λ p. list_of (some_if_picked place).reads p >>= λ os. Ok (present_values os);
}

-- ** the list of a place, which may drop members

-- whether a place of which members are picked drops those of this number
abbrev pub drops : Bool → ℕ → Bool
drops false n = false
drops true n = not (n == 1)

-- all members are read, or those with the number 1
abbrev pub members : {V : Type 0} → Bool → Grammar Frame V → Grammar (List ℕ) (List V)
members false place = list place
members true place = picked place
