-- Lists of members: the reader returns what the relations say.
use Rattle.std.proofs.Common.{◌≡◌, ℕ, zero, suc, ◌<◌, ◌⊎◌, inl, inr, List, [], ◌∷◌, length, refl, ap, sym, ◌∙◌, subst}
use Rattle.std.proofs.Common.{arith, Bool, true, false, cond, filter, Option, Some, None, Result, Ok, Err}
use Rattle.nla_wire.specs.Frames.{Frame, IsBytes, IsFrame, Begins, Frames}
use Rattle.nla_wire.specs.Reading.{Step, step, list_of, ◌>>=◌}
use Rattle.nla_wire.specs.Reading.Step.{End, Bad, Next}
use Rattle.nla_wire.specs.Items.{Item, read_items}
use Rattle.nla_wire.specs.Grammar.{Grammar, Agrees, as_a, undecoded, if_true, Every, FirstAfter, First, list, is_one}
use Rattle.nla_wire.specs.Grammar.{some_if_picked, present_values, picked}
use Rattle.nla_wire.specs.declared.error.Cause.{Cause}
use Rattle.nla_wire.proofs.Steps.{step_whole, step_begins, step_bad, bad_step, step_shorter, step_end, step_framed}
use Rattle.nla_wire.proofs.Steps.{step_rest_bytes}
use Rattle.nla_wire.proofs.Items.{items_nil, items_next, items_bad, list_items}
use Rattle.nla_wire.proofs.Agreement.{as_agrees, kept_agrees, choose_agrees}

-- ** step by step

module _ {V : Type 0} (read : Frame → Result V Cause) where
  pub list_nil : list_of read [] ≡ Ok []
  list_nil = list_items read [] ∙ ap (λ (xs : List Item). read_items read xs) items_nil

  pub list_bad : (b : List ℕ) (c : Cause) → step b ≡ Bad c → list_of read b ≡ Err c
  list_bad b c e = list_items read b ∙ ap (λ (xs : List Item). read_items read xs) (items_bad b c e)

  pub list_next : (b : List ℕ) (f : Frame) (rest : List ℕ) → step b ≡ Next f rest
      → list_of read b ≡ (read f >>= λ v. list_of read rest >>= λ vs. Ok (v ∷ vs))
  list_next b f rest e =
      list_items read b
      ∙ ap (λ (xs : List Item). read_items read xs) (items_next b f rest e)
      ∙ ap (λ (r : Result (List V) Cause). read f >>= λ v. r >>= λ vs. Ok (v ∷ vs)) (sym (list_items read rest))

-- ** a list of members

first_found : {V : Type 0} (r : Result V Cause) (more : Result (List V) Cause) (vs : List V)
    → (r >>= λ v. more >>= λ ws. Ok (v ∷ ws)) ≡ Ok vs
    → (v : V) × (ws : List V) × (r ≡ Ok v) × (more ≡ Ok ws) × (vs ≡ v ∷ ws)
first_found (Err c) more vs e = absurd cc
first_found (Ok v) (Err c) vs e = absurd cc
first_found (Ok v) (Ok ws) vs e = (v, ws, refl, refl, cc)

first_fault : {V : Type 0} (r : Result V Cause) (more : Result (List V) Cause) (c : Cause)
    → (r >>= λ v. more >>= λ ws. Ok (v ∷ ws)) ≡ Err c
    → (r ≡ Err c) ⊎ ((v : V) × (r ≡ Ok v) × (more ≡ Err c))
first_fault (Err d) more c e = inl cc
first_fault (Ok v) (Err d) c e = inr (v, refl, cc)
first_fault (Ok v) (Ok ws) c e = absurd cc

module _ {V : Type 0} (place : Grammar Frame V) (agrees : Agrees IsFrame place) where
  pub list_only : (p : List ℕ) (fs : List Frame) (vs : List V) → Frames p fs → Every place.means fs vs
      → list_of place.reads p ≡ Ok vs
  list_only p [] [] frames every = ap (list_of place.reads) frames ∙ list_nil place.reads
  list_only p [] (v ∷ vs) frames every = absurd every
  list_only p (f ∷ fs) [] frames every = absurd every
  list_only p (f ∷ fs) (v ∷ vs) frames every =
      list_next place.reads p f frames.0 (step_whole p f frames.0 frames.1)
      ∙ (λ i. agrees.only f v every.0 i >>= λ w. list_only frames.0 fs vs frames.2 every.1 i >>= λ ws. Ok (w ∷ ws))

  pub list_refused : (p : List ℕ) (fs : List Frame) (c : Cause) → FirstAfter place p fs c
      → list_of place.reads p ≡ Err c
  list_refused p [] c (inl start) = list_bad place.reads p c (bad_step p c start)
  list_refused p [] c (inr (f, rest, begins, bad)) =
      list_next place.reads p f rest (step_whole p f rest begins)
      ∙ ap (λ (r : Result V Cause). r >>= λ w. list_of place.reads rest >>= λ ws. Ok (w ∷ ws)) (agrees.refused f c bad)
  list_refused p (f ∷ fs) c h =
      list_next place.reads p f h.0 (step_whole p f h.0 h.1)
      ∙ (λ i. agrees.only f h.2.0 h.2.1 i >>= λ w. list_refused h.0 fs c h.3 i >>= λ ws. Ok (w ∷ ws))

  found_on : (p : List ℕ) (s : Step) (vs : List V) → step p ≡ s → IsBytes p
      → ((rest : List ℕ) (ws : List V) → length rest < length p → IsBytes rest → list_of place.reads rest ≡ Ok ws
      → (list place).means rest ws)
      → list_of place.reads p ≡ Ok vs → (list place).means p vs
  found_on p End vs s small more e =
      let none : list_of place.reads p ≡ Ok [] = ap (list_of place.reads) (step_end p s) ∙ list_nil place.reads in
      let empty : [] ≡ vs = cc in
      ([], step_end p s, subst (λ ws. Every place.means [] ws) empty tt)
  found_on p (Bad c) vs s small more e =
      let fault : list_of place.reads p ≡ Err c = list_bad place.reads p c s in
      absurd cc
  found_on p (Next f rest) vs s small more e =
      let both =
      first_found (place.reads f) (list_of place.reads rest) vs (sym (list_next place.reads p f rest s) ∙ e) in
      let after = more rest both.1 (step_shorter p f rest s) (step_rest_bytes p f rest small s) both.3 in (
        f ∷ after.0,
        (rest, step_begins p f rest small s, after.1),
        subst (λ ws. Every place.means (f ∷ after.0) ws) (sym both.4)
            (agrees.found f both.0 (step_framed p f rest small s) both.2, after.2),
      )

  found_within : (n : ℕ) (p : List ℕ) (vs : List V) → length p < n → IsBytes p → list_of place.reads p ≡ Ok vs
      → (list place).means p vs
  found_within zero p vs h small e = absurd (omega arith)
  found_within (suc n) p vs h small e = found_on p (step p) vs refl small
      (λ rest ws shorter rest_small k. found_within n rest ws (omega arith) rest_small k) e

  pub list_found : (p : List ℕ) (vs : List V) → IsBytes p → list_of place.reads p ≡ Ok vs → (list place).means p vs
  list_found p vs small e = found_within (suc (length p)) p vs (omega arith) small e

  fault_on : (p : List ℕ) (s : Step) (c : Cause) → step p ≡ s → IsBytes p
      → ((rest : List ℕ) → length rest < length p → IsBytes rest → list_of place.reads rest ≡ Err c
      → First place rest c)
      → list_of place.reads p ≡ Err c → First place p c
  fault_on p End c s small more e =
      let none : list_of place.reads p ≡ Ok [] = ap (list_of place.reads) (step_end p s) ∙ list_nil place.reads in
      absurd cc
  fault_on p (Bad d) c s small more e =
      let fault : list_of place.reads p ≡ Err d = list_bad place.reads p d s in
      let same : d ≡ c = cc in
      ([], inl (step_bad p c (s ∙ ap (λ x. Bad x) same)))
  fault_on p (Next f rest) c s small more e =
      let begins : Begins p f rest = step_begins p f rest small s in
      elim (first_fault (place.reads f) (list_of place.reads rest) c (sym (list_next place.reads p f rest s) ∙ e)) [
        | inl here ↦ ([], inr (f, rest, begins, agrees.fault f c (step_framed p f rest small s) here))
        | inr after ↦ let later = more rest (step_shorter p f rest s) (step_rest_bytes p f rest small s) after.2 in (
          f ∷ later.0,
          (rest, begins, (after.0, agrees.found f after.0 (step_framed p f rest small s) after.1), later.1),
        )
      ]

  fault_within : (n : ℕ) (p : List ℕ) (c : Cause) → length p < n → IsBytes p → list_of place.reads p ≡ Err c
      → First place p c
  fault_within zero p c h small e = absurd (omega arith)
  fault_within (suc n) p c h small e =
      fault_on p (step p) c refl small (λ rest shorter rest_small k. fault_within n rest c (omega arith) rest_small k) e

  pub list_fault : (p : List ℕ) (c : Cause) → IsBytes p → list_of place.reads p ≡ Err c → First place p c
  list_fault p c small e = fault_within (suc (length p)) p c (omega arith) small e

  pub list_agrees : Agrees IsBytes (list place)
  list_agrees = record {
    only = λ p vs m. list_only p m.0 vs m.1 m.2;
    found = list_found;
    fault = list_fault;
    refused = λ p c m. list_refused p m.0 c m.1;
  }

-- ** a list of which members with other numbers than 1 are dropped

pub picks_agrees : {V : Type 0} (place : Grammar Frame V) → Agrees IsFrame place → Agrees IsFrame (some_if_picked place)
picks_agrees {V} place agrees = choose_agrees is_one (as_a (λ (v : V). Some v) place) (undecoded (λ f. None))
    (as_agrees IsFrame (λ (v : V). Some v) place agrees) (kept_agrees IsFrame (λ f. None))

module _ {V : Type 0} (place : Grammar Frame V) where
  nothing_is_some : (v : V) → None ≡ Some v → ⊥
  nothing_is_some v e = absurd cc

  some_means : (f : Frame) (v w : V) → place.means f v → Some w ≡ Some v → place.means f w
  some_means f v w m e = let same : v ≡ w = cc in subst (λ x. place.means f x) same m

  pick_one : (f : Frame) (v : V) → is_one f ≡ true → place.means f v → (some_if_picked place).means f (Some v)
  pick_one f v one m = rw one (v, m, refl)

  pick_other : (f : Frame) → is_one f ≡ false → (some_if_picked place).means f None
  pick_other f other = rw other refl

  options_more : (f : Frame) (fs kept_after : List Frame) (test : Bool) (vs : List V) → is_one f ≡ test
      → ((ws : List V) → Every place.means kept_after ws
      → (os : List (Option V)) × Every (some_if_picked place).means fs os × (ws ≡ present_values os))
      → Every place.means (cond test (f ∷ kept_after) kept_after) vs
      → (os : List (Option V)) × Every (some_if_picked place).means (f ∷ fs) os × (vs ≡ present_values os)
  options_more f fs kept_after true [] one after every = absurd every
  options_more f fs kept_after true (v ∷ vs) one after every =
      let more = after vs every.1 in
      (Some v ∷ more.0, (pick_one f v one every.0, more.1), ap (λ (ws : List V). v ∷ ws) more.2)
  options_more f fs kept_after false vs other after every =
      let more = after vs every in
      (None ∷ more.0, (pick_other f other, more.1), more.2)

  -- the values of the members with number 1, with nothing in the place of each that is dropped
  pub options : (fs : List Frame) (vs : List V) → Every place.means (filter is_one fs) vs
      → (os : List (Option V)) × Every (some_if_picked place).means fs os × (vs ≡ present_values os)
  options [] [] every = ([], tt, refl)
  options [] (v ∷ vs) every = absurd every
  options (f ∷ fs) vs every = options_more f fs (filter is_one fs) (is_one f) vs refl (options fs) every

  values_more : (f : Frame) (kept_after : List Frame) (test : Bool) (o : Option V) (os : List (Option V))
      → (if_true test (as_a (λ (v : V). Some v) place) (undecoded (λ f. None))).means f o
      → Every place.means kept_after (present_values os)
      → Every place.means (cond test (f ∷ kept_after) kept_after) (present_values (o ∷ os))
  values_more f kept_after true None os m every = absurd (nothing_is_some m.0 m.2)
  values_more f kept_after true (Some v) os m every = (some_means f m.0 v m.1 m.2, every)
  values_more f kept_after false None os m every = every
  values_more f kept_after false (Some v) os m every = absurd cc

  pub values : (fs : List Frame) (os : List (Option V)) → Every (some_if_picked place).means fs os
      → Every place.means (filter is_one fs) (present_values os)
  values [] [] every = tt
  values [] (o ∷ os) every = absurd every
  values (f ∷ fs) [] every = absurd every
  values (f ∷ fs) (o ∷ os) every = values_more f (filter is_one fs) (is_one f) o os every.0 (values fs os every.1)

  pub picked_agrees : Agrees IsFrame place → Agrees IsBytes (picked place)
  picked_agrees agrees =
      let h = as_agrees IsBytes (λ (os : List (Option V)). present_values os) (list (some_if_picked place))
      (list_agrees (some_if_picked place) (picks_agrees place agrees)) in
      record {
        only = λ p vs m. let k = options m.0 vs m.2 in h.only p vs (k.0, (m.0, m.1, k.1), k.2);
        found = λ p vs small e. let k = h.found p vs small e in
            (k.1.0, k.1.1, subst (λ ws. Every place.means (filter is_one k.1.0) ws) (sym k.2) (values k.1.0 k.0 k.1.2));
        fault = h.fault;
        refused = h.refused;
      }
