-- No grammar says that memory ran out: that cause says nothing of bytes.
use Rattle.std.proofs.Common.{◌≡◌, ℕ, inl, inr, List, [], ◌∷◌, Bool, true, false, Option, Some, None, Err}
use Rattle.std.specs.Int.{Width}
use Rattle.nla_wire.specs.Frames.{Frame}
use Rattle.nla_wire.specs.Grammar.{Grammar, Agrees, as_a, FirstAfter, list, not_empty, undecoded, if_true, choose}
use Rattle.nla_wire.specs.Grammar.{is_one, some_if_picked, picked}
use Rattle.nla_wire.specs.Payloads.{number_of, bytes, exactly, text, filled, sized}
use Rattle.nla_wire.specs.declared.error.Cause.TheVariants.{EmptyList, WrongLength, NotUtf8, TooShort, OutOfMemory}

-- nothing is bad for lack of memory
abbrev pub NeverMemory : {S A : Type 0} → Grammar S A → Type 0
NeverMemory {S} {A} g = (s : S) → g.bad s OutOfMemory → ⊥

-- no reader returns that memory ran out
pub reads_never_memory : {S A : Type 0} (One : S → Type 0) (g : Grammar S A) → Agrees One g → NeverMemory g → (s : S)
    → One s → g.reads s ≡ Err OutOfMemory → ⊥
reads_never_memory One g h never s one e = never s (h.fault s OutOfMemory one e)

not_empty_list : OutOfMemory ≡ EmptyList → ⊥
not_empty_list e = absurd cc

not_text : OutOfMemory ≡ NotUtf8 → ⊥
not_text e = absurd cc

not_length : (got want : ℕ) → OutOfMemory ≡ WrongLength got want → ⊥
not_length got want e = absurd cc

not_short : (got need : ℕ) → OutOfMemory ≡ TooShort got need → ⊥
not_short got need e = absurd cc

-- ** combinators

pub memory_kept : {V : Type 0} (other : Frame → V) → NeverMemory (undecoded other)
memory_kept other f bad = bad

memory_if : {V : Type 0} (test : Bool) (g h : Grammar Frame V) → NeverMemory g → NeverMemory h
    → NeverMemory (if_true test g h)
memory_if true g h a b = a
memory_if false g h a b = b

pub memory_choose : {V : Type 0} (test : Frame → Bool) (g h : Grammar Frame V) → NeverMemory g → NeverMemory h
    → NeverMemory (choose test g h)
memory_choose test g h a b f bad = memory_if (test f) g h a b f bad

pub memory_not_empty : {A : Type 0} (g : Grammar (List ℕ) A) → NeverMemory g → NeverMemory (not_empty g)
memory_not_empty g never p (inl bad) = not_empty_list bad.1
memory_not_empty g never p (inr bad) = never p bad.1

memory_after : {V : Type 0} (place : Grammar Frame V) → NeverMemory place → (b : List ℕ) (fs : List Frame)
    → FirstAfter place b fs OutOfMemory → ⊥
memory_after place never b [] (inl start) = start
memory_after place never b [] (inr (f, rest, begins, bad)) = never f bad
memory_after place never b (f ∷ fs) h = memory_after place never h.0 fs h.3

pub memory_list : {V : Type 0} (place : Grammar Frame V) → NeverMemory place → NeverMemory (list place)
memory_list place never p bad = memory_after place never p bad.0 bad.1

pub memory_picks : {V : Type 0} (place : Grammar Frame V) → NeverMemory place → NeverMemory (some_if_picked place)
memory_picks {V} place never = memory_choose is_one (as_a (λ (v : V). Some v) place) (undecoded (λ f. None)) never
    (memory_kept {V = Option V} (λ f. None))

pub memory_picked : {V : Type 0} (place : Grammar Frame V) → NeverMemory place → NeverMemory (picked place)
memory_picked place never p bad = memory_after (some_if_picked place) (memory_picks place never) p bad.0 bad.1

-- ** leaf payloads

pub memory_number : (w : Width) → NeverMemory (number_of w)
memory_number w p bad = not_length _ _ bad.1

pub memory_bytes : NeverMemory bytes
memory_bytes p bad = bad

pub memory_exactly : (n : ℕ) → NeverMemory (exactly n)
memory_exactly n p bad = not_length _ _ bad.1

pub memory_text : NeverMemory text
memory_text p bad = not_text bad.1

pub memory_filled : {A : Type 0} (fields : List ℕ → A) → NeverMemory (filled fields)
memory_filled fields p bad = bad

pub memory_sized : {A : Type 0} (size : ℕ) (fields : List ℕ → A) → NeverMemory (sized size fields)
memory_sized size fields p bad = not_short _ _ bad.1
