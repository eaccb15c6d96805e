-- Loops over members, as they start, and what their results say in the words of the relations. Where members are
-- checked, what is still to come has the fault of the whole.
use Rattle.std.proofs.Common.{◌≡◌, ◌≢◌, ℕ, ◌+◌, ◌*◌, ◌≤◌, arith, length, List, [], ap, ◌∙◌, Option, Some}
use Rattle.std.proofs.Common.{None, Result, Ok, Err, IfOk, IfErr, MatchResult}
use Rattle.nla_wire.specs.Items.{Item, items, frame_count}
use Rattle.nla_wire.specs.Gives.{Fails, Checks}
use Rattle.nla_wire.specs.Grammar.{Grammar, Agrees}
use Rattle.nla_wire.specs.declared.error.Cause.{Cause}
use Rattle.nla_wire.specs.declared.error.Cause.TheVariants.{OutOfMemory}
use Rattle.nla_wire.specs.declared.error.DecodeError.{DecodeError}
use Rattle.nla_wire.proofs.Items.{items_count}
use Rattle.nla_wire.proofs.Memory.{NeverMemory, reads_never_memory}
use Rattle.nla_wire.proofs.Loop.{ok_not_err, fails_as}

-- why a reading fails, if it does
abbrev pub fault_of : {A : Type 0} → Result A Cause → Option Cause
fault_of (Ok x) = None
fault_of (Err c) = Some c

-- there are four bytes for each frame
pub few_start : {V : Type 0} (b : List ℕ) (left : List Item) → left ≡ items b → (front : List V) → front ≡ []
    → 4 * (length front + frame_count left) ≤ length b
few_start b left left_is front none = omega (arith, items_count b, ap length none, ap frame_count left_is)

-- ** results in the words of the relations

module _ {S A : Type 0} {One : S → Type 0} (g : Grammar S A) (h : Agrees One g) (s : S) (one : One s) where
  -- a check never says that memory ran out
  pub checks_memory : NeverMemory g → (r : Result Unit DecodeError) → Checks r (g.reads s)
      → IfErr r (λ e. e.cause ≢ OutOfMemory)
  checks_memory never (Ok x) checks = tt
  checks_memory never (Err e) checks = λ memory.
      reads_never_memory One g h never s one (checks ∙ ap (λ c. Err c) memory)

  module _ {B : Type 0} (view : B → A) where
    -- the value that is seen in the result is what the reading gives, or memory ran out
    abbrev pub Given : Result B DecodeError → Type 0
    Given r = MatchResult r (λ b. g.reads s ≡ Ok (view b)) (λ e. Fails e.cause (g.reads s))

    pub given_found : (r : Result B DecodeError) → Given r → IfOk r (λ b. g.means s (view b))
    given_found (Ok b) is = h.found s (view b) one is
    given_found (Err e) is = tt

    pub given_fault : (r : Result B DecodeError) → Given r → IfErr r (λ e. e.cause ≢ OutOfMemory → g.bad s e.cause)
    given_fault (Ok b) is = tt
    given_fault (Err e) is = λ other. h.fault s e.cause one (fails_as g h s one e.cause is other)

    pub given_refused : (r : Result B DecodeError) → Given r
        → IfErr r (λ e. e.cause ≢ OutOfMemory → (a : A) → g.means s a → ⊥)
    given_refused (Ok b) is = tt
    given_refused (Err e) is = λ other a m.
        ok_not_err (g.reads s) a e.cause (h.only s a m) (fails_as g h s one e.cause is other)
