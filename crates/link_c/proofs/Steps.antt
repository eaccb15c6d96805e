-- The frame at a place of a list, and where the list goes on.
use Rattle.std.specs.Prelude.{◌≡◌, ◌↔◌, ℕ, ◌+◌, ◌<◌, min, List, ◌∷◌, ◌++◌, length, take, drop}
use Rattle.std.proofs.Common.{arith, ap, sym, ◌∙◌, subst, append_assoc, length-drop, drop-drop, take_at}
use Rattle.std.proofs.lemmas.List.{drop_min}
use Rattle.nla_wire.specs.Frames.{Frame, Frames, Fault, Begins, missing}
use Rattle.nla_wire.specs.Reading.Step.{Next}
use Rattle.nla_wire.specs.declared.error.Cause.{Cause}
use Rattle.nla_wire.proofs.Steps.{step_whole, length-begins}
use Rattle.nla_wire.proofs.Front.{step_rest}
use Rattle.link_c.specs.Lists.{IsStep, told}
use Rattle.link_c.specs.declared.list.Attribute.{Attribute}

next_rest : (f : Frame) (r s : List ℕ) → Next f r ≡ Next f s → r ≡ s
next_rest f r s e = cc

-- what follows a frame is one
rest_once : (b : List ℕ) (f : Frame) (r s : List ℕ) → Begins b f r → Begins b f s → r ≡ s
rest_once b f r s h k = next_rest f r s (sym (step_whole b f r h) ∙ step_whole b f s k)

frames_go_on : (b : List ℕ) (f : Frame) (rest : List ℕ) → Begins b f rest → (fs : List Frame)
    → Frames b (f ∷ fs) ↔ Frames rest fs
frames_go_on b f rest h fs = (λ w. subst (λ r. Frames r fs) (rest_once b f w.0 rest w.1 h) w.2, λ w. (rest, h, w))

fault_goes_on : (b : List ℕ) (f : Frame) (rest : List ℕ) → Begins b f rest → (fs : List Frame) (c : Cause)
    → Fault b (f ∷ fs) c ↔ Fault rest fs c
fault_goes_on b f rest h fs c = (λ w. subst (λ r. Fault r fs c) (rest_once b f w.0 rest w.1 h) w.2, λ w. (rest, h, w))

-- the payload stands four bytes after the start of its frame
payload_at : (b : List ℕ) (f : Frame) (rest : List ℕ) (n : ℕ) → n ≡ length f.payload → Begins b f rest
    → take n (drop 4 b) ≡ f.payload
payload_at b f rest n is h =
    ap (λ xs. take n (drop 4 xs)) h.parts
    ∙ ap (take n) (append_assoc f.payload h.padding rest)
    ∙ take_at f.payload (h.padding ++ rest) n (sym is)

told_is : (b : List ℕ) (at : ℕ) (a : Attribute) (f : Frame) (rest : List ℕ) → Begins (drop at b) f rest
    → a.kind ≡ f.kind → a.payload ≡ at + 4 → a.payload_len ≡ length f.payload → told b a ≡ f
told_is b at a f rest h kind payload len =
    let payload_is : take a.payload_len (drop a.payload b) ≡ f.payload =
    ap (λ k. take a.payload_len (drop k b)) payload
    ∙ ap (take a.payload_len) (sym (drop-drop 4 at b))
    ∙ payload_at (drop at b) f rest a.payload_len len h in
    λ i. record { kind = kind i; payload = payload_is i }

-- the frame that stands at a place, told, and the next place
told_step : (b : List ℕ) (at next : ℕ) (a : Attribute) (f : Frame) (rest : List ℕ) → at < length b
    → Begins (drop at b) f rest → a.kind ≡ f.kind → a.payload ≡ at + 4 → a.payload_len ≡ length f.payload
    → next ≡ min (at + 4 + a.payload_len + missing a.payload_len) (length b) → IsStep b at next a
told_step b at next a f rest some h kind payload len next_is =
    let told_f = told_is b at a f rest h kind payload len in
    let size = length-begins (drop at b) f rest h in
    let rest_is : rest ≡ drop next b =
    step_rest (drop at b) f rest (step_whole (drop at b) f rest h)
    ∙ drop-drop (4 + length f.payload + missing (length f.payload)) at b
    ∙ ap (λ k. drop k b) (ap (λ n. at + (4 + n + missing n)) (sym len) ∙ omega arith)
    ∙ sym (drop_min (at + 4 + a.payload_len + missing a.payload_len) b)
    ∙ ap (λ k. drop k b) (sym next_is) in
    let begins : Begins (drop at b) (told b a) (drop next b) =
    subst (λ r. Begins (drop at b) (told b a) r) rest_is (subst (λ g. Begins (drop at b) g rest) (sym told_f) h) in
    record {
      begins = begins;
      payload = payload;
      within = omega (arith, size, length-drop at b);
      next_is = next_is;
      frames = frames_go_on (drop at b) (told b a) (drop next b) begins;
      fault = fault_goes_on (drop at b) (told b a) (drop next b) begins;
    }

-- the same of a whole attribute
pub step_told : (b : List ℕ) (at next n : ℕ) (a : Attribute) (f : Frame) (rest : List ℕ) → at < length b
    → Begins (drop at b) f rest → a ≡ record { kind = f.kind; payload = at + 4; payload_len = length f.payload }
    → n ≡ length f.payload → next ≡ min (at + 4 + n + missing n) (length b) → IsStep b at next a
step_told b at next n a f rest some h is n_is next_is =
    let len : a.payload_len ≡ length f.payload = ap (λ (x : Attribute). x.payload_len) is in
    let kind : a.kind ≡ f.kind = ap (λ (x : Attribute). x.kind) is in
    let payload : a.payload ≡ at + 4 = ap (λ (x : Attribute). x.payload) is in
    told_step b at next a f rest some h kind payload len
    (next_is ∙ ap (λ k. min (at + 4 + k + missing k) (length b)) (n_is ∙ sym len))
