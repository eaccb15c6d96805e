-- What code asks and promises of a payload of one shape, in the words of its grammar.
use Rattle.std.proofs.Common.{◌≡◌, ◌==◌, ℕ, ◌+◌, ◌≤◌, Bool, true, false, List, [], ◌∷◌, ◌++◌, length, refl, sym, ap}
use Rattle.std.proofs.Common.{subst, ◌∙◌, arith, eqb-true, eq-eqb, Option, Some, None, Result, Ok, Err}
use Rattle.std.specs.Prelude.{if◌then◌else◌, nat_lt}
use Rattle.std.specs.Int.{Width, w8, byte_len, from_le_bytes, to_le_bytes}
use Rattle.std.specs.Str.{is_utf8}
use Rattle.nla_wire.specs.Sizes.{most_payload}
use Rattle.nla_wire.specs.Frames.{missing}
use Rattle.nla_wire.specs.Reading.{◌>>=◌}
use Rattle.nla_wire.specs.Payloads.{read_number, read_text, read_sized, without_nul}
use Rattle.nla_wire.specs.Canon.{canon, Writes, Weighs, HasRoom, Rewrites}
use Rattle.nla_wire.specs.declared.error.Cause.{Cause}
use Rattle.nla_wire.specs.declared.error.Cause.TheVariants.{NotUtf8, WrongLength, TooShort}
use Rattle.nla_wire.proofs.Bounds.{length-canon}
use Rattle.nla_wire.proofs.FieldLemmas.{length-to_le_bytes}
use Rattle.nla_wire.proofs.Shapes.{frame_with}
use Rattle.link_msg.specs.Tables.{is_true, truth_number}

-- ** measuring

-- a value that has to fit inside too, and always does
pub weighs_inside : {A : Type 0} (text : A → List ℕ) (Fits Inside : A → Type 0) → ((x : A) → Fits x → Inside x)
    → (r : Result A Cause) (a : Option ℕ)
    → Weighs text Fits r a → Weighs text (λ x. Fits x × Inside x) r a
weighs_inside text Fits Inside always (Ok x) (Some n) w = ((w.0, always x w.0), w.1)
weighs_inside text Fits Inside always (Ok x) None w = λ fits. w fits.0
weighs_inside text Fits Inside always (Err c) (Some n) w = w
weighs_inside text Fits Inside always (Err c) None w = tt

-- a value made of another, with a text as long
pub weighs_same : {A B : Type 0} (make : A → B) (text : A → List ℕ) (other : B → List ℕ)
    → ((x : A) → length (text x) ≡ length (other (make x))) → (r : Result A Cause) (a : Option ℕ)
    → Weighs text (λ x. length (text x) ≤ most_payload) r a
    → Weighs other (λ y. length (other y) ≤ most_payload) (r >>= λ x. Ok (make x)) a
weighs_same make text other same (Ok x) (Some n) w = (omega (arith, w.0, same x), w.1 ∙ same x)
weighs_same make text other same (Ok x) None w = λ fits. w (omega (arith, fits, same x))
weighs_same make text other same (Err c) (Some n) w = w
weighs_same make text other same (Err c) None w = tt

-- ** numbers

chosen : {A : Type 0} (t : Bool) (x y : A) (e : Cause) → (if t then Ok x else Err e) ≡ Ok y → (t ≡ true) × (x ≡ y)
chosen true x y e h = (refl, cc)
chosen false x y e h = absurd cc

roomy : {A : Type 0} (text : A → List ℕ) (Fits : A → Type 0) (r : Result A Cause) (room : ℕ) → HasRoom text Fits r room
    → (x : A) × (r ≡ Ok x) × Fits x × (length (text x) ≤ room)
roomy text Fits (Ok x) room h = (x, refl, h.0, h.1)
roomy text Fits (Err c) room h = absurd h

module _ (w : Width) (kind : ℕ) (p : List ℕ) where
  pub number_room : (Fits : ℕ → Type 0) (room : ℕ)
      → HasRoom (λ x. canon (frame_with kind (to_le_bytes w x))) Fits (read_number w p) room
      → (length p ≡ byte_len w) × (4 + byte_len w + missing (byte_len w) ≤ room)
  unfolding read_number
  number_room Fits room h =
      let k = roomy (λ x. canon (frame_with kind (to_le_bytes w x))) Fits (read_number w p) room h in
      let size = length-to_le_bytes w k.0 in (
        eqb-true (length p) (byte_len w)
            (chosen (length p == byte_len w) (from_le_bytes w p) k.0 (WrongLength (length p) (byte_len w)) k.1).0,
        omega (arith, k.3, length-canon (frame_with kind (to_le_bytes w k.0)), size, ap missing size),
      )

  pub number_writes : (old new : List ℕ) (n : ℕ) → length p ≡ byte_len w
      → Writes (canon (record { kind = kind; payload = to_le_bytes w (from_le_bytes w p) })) old new n
      → Rewrites (λ x. canon (frame_with kind (to_le_bytes w x))) (read_number w p) old new n
  unfolding read_number
  number_writes old new n exact h = rw (eq-eqb (length p) (byte_len w) exact) h

-- ** texts

module _ (kind : ℕ) (p : List ℕ) where
  pub text_room : (Fits : List ℕ → Type 0) → ((s : List ℕ) → Fits s → length (s ++ 0 ∷ []) ≤ most_payload) → (room : ℕ)
      → HasRoom (λ s. canon (frame_with kind (s ++ 0 ∷ []))) Fits (read_text p) room
      → (length (without_nul p ++ 0 ∷ []) ≤ most_payload)
      × (length (canon (record { kind = kind; payload = without_nul p ++ 0 ∷ [] })) ≤ room)
  unfolding read_text
  text_room Fits small room h =
      let k = roomy (λ s. canon (frame_with kind (s ++ 0 ∷ []))) Fits (read_text p) room h in
      let same : without_nul p ≡ k.0 = (chosen (is_utf8 (without_nul p)) (without_nul p) k.0 NotUtf8 k.1).1 in (
        subst (λ s. length (s ++ 0 ∷ []) ≤ most_payload) (sym same) (small k.0 k.2),
        subst (λ s. length (canon (frame_with kind (s ++ 0 ∷ []))) ≤ room) (sym same) k.3,
      )

  pub text_writes : (old new : List ℕ) (n : ℕ)
      → Writes (canon (record { kind = kind; payload = without_nul p ++ 0 ∷ [] })) old new n
      → Rewrites (λ s. canon (frame_with kind (s ++ 0 ∷ []))) (read_text p) old new n
  unfolding read_text
  text_writes old new n h = by (is_utf8 (without_nul p)) where
    by : (t : Bool) → Rewrites (λ s. canon (frame_with kind (s ++ 0 ∷ [])))
        (if t then Ok (without_nul p) else Err NotUtf8) old new n
    by true = h
    by false = tt

-- ** records that are refused where the payload is short

module _ {A : Type 0} (size : ℕ) (of : List ℕ → A) (text : A → List ℕ) (p : List ℕ) where
  whole : (t : Bool) (x y : A) (e : Cause) → (if t then Err e else Ok x) ≡ Ok y → (t ≡ false) × (x ≡ y)
  whole true x y e h = absurd cc
  whole false x y e h = (refl, cc)

  pub sized_room : (Fits : A → Type 0) (room : ℕ) → HasRoom text Fits (read_sized size of p) room
      → (nat_lt (length p) size ≡ false) × (length (text (of p)) ≤ room)
  unfolding read_sized
  sized_room Fits room h =
      let k = roomy text Fits (read_sized size of p) room h in
      let l = whole (nat_lt (length p) size) (of p) k.0 (TooShort (length p) size) k.1 in
      (l.0, subst (λ x. length (text x) ≤ room) (sym l.1) k.3)

  pub sized_writes : (old new : List ℕ) (n : ℕ) → Writes (text (of p)) old new n
      → Rewrites text (read_sized size of p) old new n
  unfolding read_sized
  sized_writes old new n h = by (nat_lt (length p) size) where
    by : (t : Bool) → Rewrites text (if t then Err (TooShort (length p) size) else Ok (of p)) old new n
    by true = tt
    by false = h

-- ** truth values

pub truth_length : (n : ℕ) → length (to_le_bytes w8 n) ≡ length (to_le_bytes w8 (truth_number (is_true n)))
truth_length n = refl
