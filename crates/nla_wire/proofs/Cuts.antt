-- Bytes cut into frames from the front, against the relations on lists of frames.
use Rattle.std.proofs.Common.{◌≡◌, ℕ, zero, suc, ◌<◌, ◌≤◌, ◌⊎◌, inl, inr, List, [], ◌∷◌, length, refl, ap, sym, ◌∙◌}
use Rattle.std.proofs.Common.{subst, arith, Option, Some, None}
use Rattle.nla_wire.specs.Frames.{Frame, IsBytes, Begins, Frames, Fault}
use Rattle.nla_wire.specs.Reading.{Step, step, Cut, cut_on, cut_within, cut}
use Rattle.nla_wire.specs.Reading.Step.{End, Bad, Next}
use Rattle.nla_wire.specs.declared.error.Cause.{Cause}
use Rattle.nla_wire.proofs.Steps.{step_whole, step_begins, step_bad, bad_step, step_shorter, step_end, step_rest_bytes}

cut_on_same : (F G : List ℕ → Cut) (s : Step) → ((f : Frame) (rest : List ℕ) → s ≡ Next f rest → F rest ≡ G rest)
    → cut_on F s ≡ cut_on G s
cut_on_same F G End same = refl
cut_on_same F G (Bad c) same = refl
cut_on_same F G (Next f rest) same =
    ap (λ (k : Cut). record { frames = f ∷ k.frames; stop = k.stop }) (same f rest refl)

-- how many steps are allowed doesn't count, where they are enough
within_enough : (n m : ℕ) (b : List ℕ) → length b ≤ n → length b ≤ m → cut_within n b ≡ cut_within m b
unfolding cut_within
within_enough zero zero b h k = refl
within_enough zero (suc m) [] h k = refl
within_enough zero (suc m) (x ∷ b) h k = absurd (omega arith)
within_enough (suc n) zero [] h k = refl
within_enough (suc n) zero (x ∷ b) h k = absurd (omega arith)
within_enough (suc n) (suc m) b h k = cut_on_same (cut_within n) (cut_within m) (step b)
    (λ f rest e. within_enough n m rest (omega (arith, step_shorter b f rest e))
    (omega (arith, step_shorter b f rest e)))

pub cut_step : (b : List ℕ) → cut b ≡ cut_on cut (step b)
unfolding cut cut_within
cut_step [] = refl
cut_step (x ∷ b) = cut_on_same (cut_within (length b)) cut (step (x ∷ b))
    (λ f rest e. within_enough (length b) (length rest) rest (omega (arith, step_shorter (x ∷ b) f rest e))
    (omega arith))

pub cut_next : (b : List ℕ) (f : Frame) (rest : List ℕ) → step b ≡ Next f rest
    → cut b ≡ record { frames = f ∷ (cut rest).frames; stop = (cut rest).stop }
cut_next b f rest e = cut_step b ∙ ap (cut_on cut) e

pub cut_bad : (b : List ℕ) (c : Cause) → step b ≡ Bad c → cut b ≡ record { frames = []; stop = Some c }
cut_bad b c e = cut_step b ∙ ap (cut_on cut) e

pub cut_nil : cut [] ≡ record { frames = []; stop = None }
cut_nil = cut_step []

-- ** from the relations to the cut

pub cut_frames : (b : List ℕ) (fs : List Frame) → Frames b fs → cut b ≡ record { frames = fs; stop = None }
cut_frames b [] h = ap cut h ∙ cut_nil
cut_frames b (f ∷ fs) h = cut_next b f h.0 (step_whole b f h.0 h.1)
    ∙ ap (λ (k : Cut). record { frames = f ∷ k.frames; stop = k.stop }) (cut_frames h.0 fs h.2)

pub cut_fault : (b : List ℕ) (fs : List Frame) (c : Cause) → Fault b fs c
    → cut b ≡ record { frames = fs; stop = Some c }
cut_fault b [] c h = cut_bad b c (bad_step b c h)
cut_fault b (f ∷ fs) c h = cut_next b f h.0 (step_whole b f h.0 h.1)
    ∙ ap (λ (k : Cut). record { frames = f ∷ k.frames; stop = k.stop }) (cut_fault h.0 fs c h.2)

-- ** from the cut to the relations

-- b is the frames, or the frames and then this fault
abbrev pub Ended : List ℕ → List Frame → Option Cause → Type 0
Ended b fs None = Frames b fs
Ended b fs (Some c) = Fault b fs c

ended_more : (b : List ℕ) (f : Frame) (rest : List ℕ) (fs : List Frame) (stop : Option Cause) → Begins b f rest
    → Ended rest fs stop → Ended b (f ∷ fs) stop
ended_more b f rest fs None begins h = (rest, begins, h)
ended_more b f rest fs (Some c) begins h = (rest, begins, h)

ended_on : (b : List ℕ) (s : Step) → step b ≡ s → IsBytes b
    → ((rest : List ℕ) → length rest < length b → IsBytes rest → Ended rest (cut rest).frames (cut rest).stop)
    → Ended b (cut_on cut s).frames (cut_on cut s).stop
ended_on b End e small more = step_end b e
ended_on b (Bad c) e small more = step_bad b c e
ended_on b (Next f rest) e small more =
    ended_more b f rest (cut rest).frames (cut rest).stop (step_begins b f rest small e)
    (more rest (step_shorter b f rest e) (step_rest_bytes b f rest small e))

ended_within : (n : ℕ) (b : List ℕ) → length b < n → IsBytes b → Ended b (cut b).frames (cut b).stop
ended_within zero b h small = absurd (omega arith)
ended_within (suc n) b h small = subst (λ (k : Cut). Ended b k.frames k.stop) (sym (cut_step b))
    (ended_on b (step b) refl small (λ rest shorter rest_small. ended_within n rest (omega arith) rest_small))

pub cut_ended : (b : List ℕ) → IsBytes b → Ended b (cut b).frames (cut b).stop
cut_ended b small = ended_within (suc (length b)) b (omega arith) small

ended_cases : (b : List ℕ) (fs : List Frame) (stop : Option Cause) → Ended b fs stop
    → ((fs : List Frame) × Frames b fs) ⊎ ((fs : List Frame) × (c : Cause) × Fault b fs c)
ended_cases b fs None h = inl (fs, h)
ended_cases b fs (Some c) h = inr (fs, c, h)

-- bytes are frames, or frames and then a fault
pub frames_or_fault : (b : List ℕ) → IsBytes b
    → ((fs : List Frame) × Frames b fs) ⊎ ((fs : List Frame) × (c : Cause) × Fault b fs c)
frames_or_fault b small = ended_cases b (cut b).frames (cut b).stop (cut_ended b small)

-- ** one reading

pub frames_once : (b : List ℕ) (fs gs : List Frame) → Frames b fs → Frames b gs → fs ≡ gs
frames_once b fs gs h k = ap (λ (c : Cut). c.frames) (sym (cut_frames b fs h) ∙ cut_frames b gs k)

none_not_some : {A : Type 0} (c : A) (o : Option A) → o ≡ None → o ≡ Some c → ⊥
none_not_some c o h k = absurd cc

some_is : {A : Type 0} (c d : A) (o : Option A) → o ≡ Some c → o ≡ Some d → c ≡ d
some_is c d o h k = cc

pub frames_not_fault : (b : List ℕ) (fs gs : List Frame) (c : Cause) → Frames b fs → Fault b gs c → ⊥
frames_not_fault b fs gs c h k =
    none_not_some c (cut b).stop (ap (λ (k : Cut). k.stop) (cut_frames b fs h))
    (ap (λ (k : Cut). k.stop) (cut_fault b gs c k))

pub fault_once : (b : List ℕ) (fs gs : List Frame) (c d : Cause) → Fault b fs c → Fault b gs d → (fs ≡ gs) × (c ≡ d)
fault_once b fs gs c d h k = (
  ap (λ (k : Cut). k.frames) (sym (cut_fault b fs c h) ∙ cut_fault b gs d k),
  some_is c d (cut b).stop (ap (λ (k : Cut). k.stop) (cut_fault b fs c h))
      (ap (λ (k : Cut). k.stop) (cut_fault b gs d k)),
)
