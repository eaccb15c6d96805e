-- The items of bytes: their frames in order, then a fault or the end.
use Rattle.std.proofs.Common.{◌≡◌, ℕ, zero, suc, ◌*◌, ◌<◌, ◌≤◌, inl, inr, List, [], ◌∷◌, ◌++◌, length, refl, ap, sym}
use Rattle.std.proofs.Common.{subst, arith, Option, Some, None, Result, Ok, Err}
use Rattle.nla_wire.specs.Frames.{Frame, IsBytes}
use Rattle.nla_wire.specs.Reading.{Step, step, Cut, cut, each, unless, list_of, ◌>>=◌}
use Rattle.nla_wire.specs.Reading.Step.{End, Bad, Next}
use Rattle.nla_wire.specs.Items.{Item, items_of, items, all_frames, AreItems, frame_count, read_items}
use Rattle.nla_wire.specs.declared.error.Cause.{Cause}
use Rattle.nla_wire.proofs.Steps.{step_shorter, step_size, step_end}
use Rattle.nla_wire.proofs.Cuts.{cut_nil, cut_next, cut_bad, cut_ended, Ended}

-- ** step by step

pub items_nil : items [] ≡ []
unfolding items
items_nil = ap (λ (k : Cut). items_of k.frames k.stop) cut_nil

pub items_next : (b : List ℕ) (f : Frame) (rest : List ℕ) → step b ≡ Next f rest → items b ≡ Ok f ∷ items rest
unfolding items
items_next b f rest e = ap (λ (k : Cut). items_of k.frames k.stop) (cut_next b f rest e)

pub items_bad : (b : List ℕ) (c : Cause) → step b ≡ Bad c → items b ≡ Err c ∷ []
unfolding items
items_bad b c e = ap (λ (k : Cut). items_of k.frames k.stop) (cut_bad b c e)

-- what holds of the end and of a fault, and of each frame and the items after it, holds of the items of all bytes
module _ (P : List ℕ → List Item → Type 0)
    (at_end : P [] []) (at_fault : (b : List ℕ) (c : Cause) → step b ≡ Bad c → P b (Err c ∷ []))
    (at_frame : (b : List ℕ) (f : Frame) (rest : List ℕ) → step b ≡ Next f rest → P rest (items rest)
    → P b (Ok f ∷ items rest)) where
  case_on : (b : List ℕ) (s : Step) → step b ≡ s → ((rest : List ℕ) → length rest < length b → P rest (items rest))
      → P b (items b)
  case_on b End e more = subst (λ x. P x (items x)) (sym (step_end b e)) (subst (λ xs. P [] xs) (sym items_nil) at_end)
  case_on b (Bad c) e more = subst (λ xs. P b xs) (sym (items_bad b c e)) (at_fault b c e)
  case_on b (Next f rest) e more =
      subst (λ xs. P b xs) (sym (items_next b f rest e)) (at_frame b f rest e (more rest (step_shorter b f rest e)))

  case_within : (n : ℕ) (b : List ℕ) → length b < n → P b (items b)
  case_within zero b h = absurd (omega arith)
  case_within (suc n) b h = case_on b (step b) refl (λ rest shorter. case_within n rest (omega arith))

  pub items_case : (b : List ℕ) → P b (items b)
  items_case b = case_within (suc (length b)) b (omega arith)

-- ** against the relations

items_whole : (fs : List Frame) → items_of fs None ≡ all_frames fs
items_whole [] = refl
items_whole (f ∷ fs) = ap (λ (xs : List Item). Ok f ∷ xs) (items_whole fs)

items_stopped : (fs : List Frame) (c : Cause) → items_of fs (Some c) ≡ all_frames fs ++ Err c ∷ []
items_stopped [] c = refl
items_stopped (f ∷ fs) c = ap (λ (xs : List Item). Ok f ∷ xs) (items_stopped fs c)

ended_are : (b : List ℕ) (fs : List Frame) (stop : Option Cause) → Ended b fs stop → AreItems b (items_of fs stop)
ended_are b fs None h = inl (fs, h, items_whole fs)
ended_are b fs (Some c) h = inr (fs, c, h, items_stopped fs c)

pub items_are : (b : List ℕ) → IsBytes b → AreItems b (items b)
unfolding items
items_are b small = ended_are b (cut b).frames (cut b).stop (cut_ended b small)

-- ** reading

read_more : {V : Type 0} (stop : Option Cause) (r : Result V Cause) (each_read : Result (List V) Cause)
    (after : Result (List V) Cause)
    → (each_read >>= λ vs. unless stop vs) ≡ after
    → ((r >>= λ v. each_read >>= λ vs. Ok (v ∷ vs)) >>= λ vs. unless stop vs) ≡ (r >>= λ v. after >>= λ vs. Ok (v ∷ vs))
read_more stop (Err e) each_read after h = refl
read_more None (Ok v) (Ok vs) after h = ap (λ r. r >>= λ ws. Ok (v ∷ ws)) h
read_more (Some c) (Ok v) (Ok vs) after h = ap (λ r. r >>= λ ws. Ok (v ∷ ws)) h
read_more stop (Ok v) (Err e) after h = ap (λ r. r >>= λ ws. Ok (v ∷ ws)) h

read_of : {V : Type 0} (read : Frame → Result V Cause) (fs : List Frame) (stop : Option Cause)
    → (each read fs >>= λ vs. unless stop vs) ≡ read_items read (items_of fs stop)
read_of read [] None = refl
read_of read [] (Some c) = refl
read_of read (f ∷ fs) stop =
    read_more stop (read f) (each read fs) (read_items read (items_of fs stop)) (read_of read fs stop)

-- a list is read item by item
pub list_items : {V : Type 0} (read : Frame → Result V Cause) (b : List ℕ) → list_of read b ≡ read_items read (items b)
unfolding list_of items
list_items read b = read_of read (cut b).frames (cut b).stop

-- ** sizes

-- each frame has at least four bytes
pub items_count : (b : List ℕ) → 4 * frame_count (items b) ≤ length b
items_count b = items_case (λ b xs. 4 * frame_count xs ≤ length b) (omega arith) (λ b c e. omega arith)
    (λ b f rest e more. omega (arith, step_size b f rest e)) b
