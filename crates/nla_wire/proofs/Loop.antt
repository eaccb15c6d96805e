-- What contracts on readers say in the words of the relations, and the steps of a loop over items.
use Rattle.std.proofs.Common.{◌≡◌, ◌≢◌, ℕ, inl, inr, List, [], ◌∷◌, ◌++◌, append_assoc, refl, ap, sym, ◌∙◌}
use Rattle.std.proofs.Common.{Result, Ok, Err, IsOk, IfOk, IfErr}
use Rattle.nla_wire.specs.Frames.{Frame}
use Rattle.nla_wire.specs.Reading.{list_of, with_front, ◌>>=◌}
use Rattle.nla_wire.specs.Items.{Item, items, read_items}
use Rattle.nla_wire.specs.Gives.{Fails, Gives, Checks}
use Rattle.nla_wire.specs.Grammar.{Grammar, Agrees}
use Rattle.nla_wire.specs.declared.error.Cause.{Cause}
use Rattle.nla_wire.specs.declared.error.Cause.TheVariants.{OutOfMemory}
use Rattle.nla_wire.specs.declared.error.DecodeError.{DecodeError}
use Rattle.nla_wire.proofs.Items.{list_items}

-- ** results of readers

-- a reading that is Ok has a value
pub given : {A : Type 0} (r : Result A Cause) → IsOk r → (a : A) × (r ≡ Ok a)
given (Ok a) ok = (a, refl)
given (Err c) ok = absurd cc

pub ok_not_err : {A : Type 0} (r : Result A Cause) (a : A) (c : Cause) → r ≡ Ok a → r ≡ Err c → ⊥
ok_not_err r a c e k = absurd cc

module _ {S A : Type 0} {One : S → Type 0} (g : Grammar S A) (h : Agrees One g) (s : S) (one : One s) where
  pub fails_as : (c : Cause) → Fails c (g.reads s) → c ≢ OutOfMemory → g.reads s ≡ Err c
  fails_as c (inl memory) other = absurd (other memory)
  fails_as c (inr e) other = e

  -- a value that is given is meant
  pub gives_found : (r : Result A DecodeError) → Gives r (g.reads s) → IfOk r (λ a. g.means s a)
  gives_found (Ok a) gives = h.found s a one gives
  gives_found (Err e) gives = tt

  -- the cause of a fault is that of the first fault, unless memory ran out
  pub gives_fault : (r : Result A DecodeError) → Gives r (g.reads s)
      → IfErr r (λ e. e.cause ≢ OutOfMemory → g.bad s e.cause)
  gives_fault (Ok a) gives = tt
  gives_fault (Err e) gives = λ other. h.fault s e.cause one (fails_as e.cause gives other)

  -- what is refused means nothing, unless memory ran out
  pub gives_refused : (r : Result A DecodeError) → Gives r (g.reads s)
      → IfErr r (λ e. e.cause ≢ OutOfMemory → (a : A) → g.means s a → ⊥)
  gives_refused (Ok a) gives = tt
  gives_refused (Err e) gives = λ other a m.
      ok_not_err (g.reads s) a e.cause (h.only s a m) (fails_as e.cause gives other)

  -- what is accepted has a meaning
  pub checks_found : (r : Result Unit DecodeError) → Checks r (g.reads s) → IfOk r (λ x. (a : A) × g.means s a)
  checks_found (Ok x) checks = let k = given (g.reads s) checks in (k.0, h.found s k.0 one k.1)
  checks_found (Err e) checks = tt

  pub checks_fault : (r : Result Unit DecodeError) → Checks r (g.reads s) → IfErr r (λ e. g.bad s e.cause)
  checks_fault (Ok x) checks = tt
  checks_fault (Err e) checks = h.fault s e.cause one checks

  pub checks_refused : (r : Result Unit DecodeError) → Checks r (g.reads s) → IfErr r (λ e. (a : A) → g.means s a → ⊥)
  checks_refused (Ok x) checks = tt
  checks_refused (Err e) checks = λ a m. ok_not_err (g.reads s) a e.cause (h.only s a m) checks

-- ** a loop over items: the values in front, then what the items left are read as, are the whole reading

pub front_none : {V : Type 0} (r : Result (List V) Cause) → with_front [] r ≡ r
front_none (Ok vs) = refl
front_none (Err c) = refl

front_one : {V : Type 0} (front : List V) (v : V) (r : Result (List V) Cause)
    → with_front (front ++ v ∷ []) r ≡ with_front front (r >>= λ vs. Ok (v ∷ vs))
front_one front v (Ok vs) = ap (λ (ws : List _). Ok ws) (append_assoc front (v ∷ []) vs)
front_one front v (Err c) = refl

pub items_start : {V : Type 0} (read : Frame → Result V Cause) (b : List ℕ)
    → with_front [] (read_items read (items b)) ≡ list_of read b
items_start read b = front_none (read_items read (items b)) ∙ sym (list_items read b)

module _ {V : Type 0} (read : Frame → Result V Cause) (front : List V) (left : List Item)
    (total : Result (List V) Cause) (so_far : with_front front (read_items read left) ≡ total) where
  pub items_more : (f : Frame) (rest : List Item) (v : V) → left ≡ Ok f ∷ rest → read f ≡ Ok v
      → with_front (front ++ v ∷ []) (read_items read rest) ≡ total
  items_more f rest v left_is e =
      front_one front v (read_items read rest)
      ∙ ap (λ (r : Result V Cause). with_front front (r >>= λ w. read_items read rest >>= λ ws. Ok (w ∷ ws))) (sym e)
      ∙ ap (λ (xs : List Item). with_front front (read_items read xs)) (sym left_is)
      ∙ so_far

  fault_of : (c : Cause) → read_items read left ≡ Err c → total ≡ Err c
  fault_of c e = sym so_far ∙ ap (λ (r : Result (List V) Cause). with_front front r) e
