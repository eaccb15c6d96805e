-- One step over bytes: what stands at their front, against the relations on frames.
use Rattle.std.proofs.Common.{◌≡◌, ℕ, zero, suc, ◌+◌, ◌-◌, ◌<◌, ◌≤◌, ◌⊎◌, inl, inr, List, [], ◌∷◌, ◌++◌, length, take}
use Rattle.std.proofs.Common.{drop, refl, ap, sym, ◌∙◌, subst, arith, append_assoc, length-append, length-take}
use Rattle.std.proofs.Common.{length-drop, length-take-le, take-append-drop, drop-drop, take_at, drop_at, get_or, w16}
use Rattle.std.proofs.Common.{lt-ltb, le-ltb}
use Rattle.std.proofs.lemmas.Bool.{cases_lt}
use Rattle.std.proofs.lemmas.List.{drop_all}
use Rattle.std.proofs.lemmas.Nat.{from_le_bytes-to_le_bytes_2, le_bytes_2}
use Rattle.std.specs.Int.{to_le_bytes, from_le_bytes}
use Rattle.nla_wire.specs.Frames.{Frame, IsBytes, IsFrame, missing, unpadded, Begins, BadStart}
use Rattle.nla_wire.specs.Reading.{frame_at, step}
use Rattle.nla_wire.specs.Reading.Step.{End, Bad, Next}
use Rattle.nla_wire.specs.declared.error.Cause.{Cause}
use Rattle.nla_wire.specs.declared.error.Cause.TheVariants.{TooShort, FrameShort, FrameOver, FrameUnder, EmptyList}
use Rattle.nla_wire.specs.declared.error.Cause.TheVariants.{WrongLength, NotUtf8, InvalidState, OutOfMemory}

-- ** what the tests of `frame_at` return

pub frame_over : (len kind : ℕ) (p : List ℕ) → length p + 4 < len
    → frame_at len kind p ≡ Bad (FrameOver len (length p + 4))
frame_over len kind p over = rw (lt-ltb _ _ over)

pub frame_under : (len kind : ℕ) (p : List ℕ) → len ≤ length p + 4 → len < 4
    → frame_at len kind p ≡ Bad (FrameUnder len)
frame_under len kind p within under = rw (le-ltb _ _ within, lt-ltb _ _ under)

pub frame_fine : (len kind : ℕ) (p : List ℕ) → len ≤ length p + 4 → 4 ≤ len
    → frame_at len kind p
    ≡ Next (record { kind = kind; payload = take (len - 4) p }) (drop (len - 4 + missing (len - 4)) p)
frame_fine len kind p within whole = rw (le-ltb _ _ within, le-ltb _ _ whole)

-- ** a spelling gives a step

after : (n : ℕ) (payload padding rest : List ℕ) → n ≡ length payload → length padding ≤ missing n
    → (length padding ≡ missing n) ⊎ (rest ≡ [])
    → drop (n + missing n) (payload ++ padding ++ rest) ≡ rest
after n payload padding rest is padded (inl full) =
    drop_at (payload ++ padding) rest (n + missing n) (omega (arith, length-append payload padding))
after n payload padding rest is padded (inr ended) =
    ap (λ (r : List ℕ). drop (n + missing n) (payload ++ padding ++ r)) ended
    ∙ drop_all (n + missing n) (payload ++ padding ++ [])
    (omega (arith, length-append payload padding, length-append (payload ++ padding) []))
    ∙ sym ended

same_next : (f g : Frame) (r s : List ℕ) → f ≡ g → r ≡ s → Next f r ≡ Next g s
same_next f g r s e h = cc

frame_whole : (len kind : ℕ) (f : Frame) (padding rest : List ℕ) → len ≡ 4 + length f.payload → kind ≡ f.kind
    → length padding ≤ missing (length f.payload) → (length padding ≡ missing (length f.payload)) ⊎ (rest ≡ [])
    → frame_at len kind (f.payload ++ padding ++ rest) ≡ Next f rest
frame_whole len kind f padding rest len_is kind_is padded full =
    let n_is : len - 4 ≡ length f.payload = omega arith in
    let payload_is : take (len - 4) (f.payload ++ padding ++ rest) ≡ f.payload = ap (take (len - 4))
    (append_assoc f.payload padding rest) ∙ take_at f.payload (padding ++ rest) (len - 4) (sym n_is) in
    frame_fine len kind (f.payload ++ padding ++ rest)
    (omega (arith, length-append f.payload padding, length-append (f.payload ++ padding) rest)) (omega arith)
    ∙ same_next _ f _ rest
    (λ i. record { kind = kind_is i; payload = payload_is i })
    (after (len - 4) f.payload padding rest n_is (rw n_is padded) (rw n_is full))

pub step_whole : (b : List ℕ) (f : Frame) (rest : List ℕ) → Begins b f rest → step b ≡ Next f rest
step_whole b f rest h =
    ap step h.parts
    ∙ frame_whole _ _ f h.padding rest
    (from_le_bytes-to_le_bytes_2 (4 + length f.payload) (omega (arith, h.size)))
    (from_le_bytes-to_le_bytes_2 f.kind h.kind)
    h.padded h.full

-- ** a step gives a spelling

next_is : (P : List ℕ → Frame → List ℕ → Type 0) (b : List ℕ) (f g : Frame) (r s : List ℕ) → Next f r ≡ Next g s
    → P b f r → P b g s
next_is P b f g r s e h =
    let frame_is : f ≡ g = cc in
    let rest_is : r ≡ s = cc in
    subst (λ x. P b g x) rest_is (subst (λ x. P b x r) frame_is h)

-- what holds of each frame that `frame_at` finds after four bytes holds of each step
next_case : (P : List ℕ → Frame → List ℕ → Type 0)
    → ((a b c d : ℕ) (p : List ℕ) → from_le_bytes w16 (a ∷ b ∷ []) ≤ length p + 4 → 4 ≤ from_le_bytes w16 (a ∷ b ∷ [])
    → P (a ∷ b ∷ c ∷ d ∷ p)
    (record { kind = from_le_bytes w16 (c ∷ d ∷ []); payload = take (from_le_bytes w16 (a ∷ b ∷ []) - 4) p })
    (drop (from_le_bytes w16 (a ∷ b ∷ []) - 4 + missing (from_le_bytes w16 (a ∷ b ∷ []) - 4)) p))
    → (b : List ℕ) (f : Frame) (rest : List ℕ) → step b ≡ Next f rest → P b f rest
next_case P base [] f rest e = absurd cc
next_case P base (a ∷ []) f rest e = absurd cc
next_case P base (a ∷ b ∷ []) f rest e = absurd cc
next_case P base (a ∷ b ∷ c ∷ []) f rest e = absurd cc
next_case P base (a ∷ b ∷ c ∷ d ∷ p) f rest e =
    elim (cases_lt (length p + 4) (from_le_bytes w16 (a ∷ b ∷ []))) [
      | inl over ↦ let no = frame_over _ (from_le_bytes w16 (c ∷ d ∷ [])) p over in absurd cc
      | inr within ↦ elim (cases_lt (from_le_bytes w16 (a ∷ b ∷ [])) 4) [
        | inl under ↦ let no = frame_under _ (from_le_bytes w16 (c ∷ d ∷ [])) p within under in absurd cc
        | inr whole ↦ next_is P (a ∷ b ∷ c ∷ d ∷ p) _ f _ rest
            (sym (frame_fine _ (from_le_bytes w16 (c ∷ d ∷ [])) p within whole) ∙ e) (base a b c d p within whole)
      ]
    ]

two_small : (a b : ℕ) → a < 256 → b < 256 → (i : ℕ) → get_or (a ∷ b ∷ []) i 0 < 256
two_small a b h k zero = h
two_small a b h k (suc zero) = k
two_small a b h k (suc (suc i)) = omega arith

header_parts : (a b c d : ℕ) (x y payload padding rest p : List ℕ) → x ≡ a ∷ b ∷ [] → y ≡ c ∷ d ∷ []
    → payload ++ padding ++ rest ≡ p
    → a ∷ b ∷ c ∷ d ∷ p ≡ x ++ y ++ payload ++ padding ++ rest
header_parts a b c d x y payload padding rest p x_is y_is p_is =
    let whole : x ++ y ++ payload ++ padding ++ rest ≡ a ∷ b ∷ c ∷ d ∷ (payload ++ padding ++ rest) = λ i.
    x_is i ++ y_is i ++ payload ++ padding ++ rest in
    sym (whole ∙ ap (λ (q : List ℕ). a ∷ b ∷ c ∷ d ∷ q) p_is)

three_parts : (n m : ℕ) (p : List ℕ) → take n p ++ take m (drop n p) ++ drop (n + m) p ≡ p
three_parts n m p =
    append_assoc (take n p) (take m (drop n p)) (drop (n + m) p)
    ∙ ap (λ (r : List ℕ). take n p ++ (take m (drop n p) ++ r)) (sym (drop-drop m n p))
    ∙ ap (λ (r : List ℕ). take n p ++ r) (take-append-drop m (drop n p))
    ∙ take-append-drop n p

padding_full : (n : ℕ) (p : List ℕ) → (length p < n + missing n) ⊎ (n + missing n ≤ length p)
    → (length (take (missing n) (drop n p)) ≡ missing n) ⊎ (drop (n + missing n) p ≡ [])
padding_full n p (inl short) = inr (drop_all (n + missing n) p (omega arith))
padding_full n p (inr long) = inl (length-take-le (missing n) (drop n p) (omega (arith, length-drop n p)))

begins_at : (a b c d : ℕ) (p : List ℕ) → from_le_bytes w16 (a ∷ b ∷ []) ≤ length p + 4
    → 4 ≤ from_le_bytes w16 (a ∷ b ∷ [])
    → a < 256 → b < 256 → c < 256 → d < 256
    → Begins (a ∷ b ∷ c ∷ d ∷ p)
    (record { kind = from_le_bytes w16 (c ∷ d ∷ []); payload = take (from_le_bytes w16 (a ∷ b ∷ []) - 4) p })
    (drop (from_le_bytes w16 (a ∷ b ∷ []) - 4 + missing (from_le_bytes w16 (a ∷ b ∷ []) - 4)) p)
begins_at a b c d p within whole a_small b_small c_small d_small =
    let len : ℕ = from_le_bytes w16 (a ∷ b ∷ []) in
    let payload_length : length (take (len - 4) p) ≡ len - 4 = length-take-le (len - 4) p (omega arith) in
    let length_bytes : to_le_bytes w16 (4 + length (take (len - 4) p)) ≡ a ∷ b ∷ [] =
    le_bytes_2 (a ∷ b ∷ []) (4 + length (take (len - 4) p)) refl (two_small a b a_small b_small) (omega arith) in
    let kind_bytes : to_le_bytes w16 (from_le_bytes w16 (c ∷ d ∷ [])) ≡ c ∷ d ∷ [] =
    le_bytes_2 (c ∷ d ∷ []) (from_le_bytes w16 (c ∷ d ∷ [])) refl (two_small c d c_small d_small) refl in
    record {
      kind = omega arith;
      size = omega arith;
      padding = take (missing (len - 4)) (drop (len - 4) p);
      parts = header_parts a b c d _ _ (take (len - 4) p) (take (missing (len - 4)) (drop (len - 4) p))
          (drop (len - 4 + missing (len - 4)) p) p
          length_bytes kind_bytes (three_parts (len - 4) (missing (len - 4)) p);
      padded = rw payload_length (omega (arith, length-take (missing (len - 4)) (drop (len - 4) p)));
      full = rw payload_length (padding_full (len - 4) p (cases_lt (length p) (len - 4 + missing (len - 4))));
    }

pub step_begins : (b : List ℕ) (f : Frame) (rest : List ℕ) → IsBytes b → step b ≡ Next f rest → Begins b f rest
step_begins b f rest small e = next_case (λ b f rest. IsBytes b → Begins b f rest)
    (λ a b c d p within whole h. begins_at a b c d p within whole h.0 h.1.0 h.1.1.0 h.1.1.1.0) b f rest e small

pub step_shorter : (b : List ℕ) (f : Frame) (rest : List ℕ) → step b ≡ Next f rest → length rest < length b
step_shorter b f rest e = next_case (λ b f rest. length rest < length b) (λ a b c d p within whole. omega (
  arith,
  length-drop (from_le_bytes w16 (a ∷ b ∷ []) - 4 + missing (from_le_bytes w16 (a ∷ b ∷ []) - 4)) p,
)) b f rest e

-- the bytes of a frame, without its padding, and those after it are among those that it was read from
pub step_size : (b : List ℕ) (f : Frame) (rest : List ℕ) → step b ≡ Next f rest
    → 4 + length f.payload + length rest ≤ length b
step_size b f rest e = next_case (λ b f rest. 4 + length f.payload + length rest ≤ length b)
    (λ a b c d p within whole. omega (
      arith,
      length-take (from_le_bytes w16 (a ∷ b ∷ []) - 4) p,
      length-drop (from_le_bytes w16 (a ∷ b ∷ []) - 4 + missing (from_le_bytes w16 (a ∷ b ∷ []) - 4)) p,
    )) b f rest e

no_end : (len kind : ℕ) (p : List ℕ) → frame_at len kind p ≡ End → ⊥
no_end len kind p e =
    elim (cases_lt (length p + 4) len) [
      | inl over ↦ let no = frame_over len kind p over in absurd cc
      | inr within ↦ elim (cases_lt len 4) [
        | inl under ↦ let no = frame_under len kind p within under in absurd cc
        | inr whole ↦ let no = frame_fine len kind p within whole in absurd cc
      ]
    ]

pub step_end : (b : List ℕ) → step b ≡ End → b ≡ []
step_end [] e = refl
step_end (a ∷ []) e = absurd cc
step_end (a ∷ b ∷ []) e = absurd cc
step_end (a ∷ b ∷ c ∷ []) e = absurd cc
step_end (a ∷ b ∷ c ∷ d ∷ p) e = absurd (no_end (from_le_bytes w16 (a ∷ b ∷ [])) (from_le_bytes w16 (c ∷ d ∷ [])) p e)

-- ** faults

bad_is : (b : List ℕ) (c d : Cause) → Bad c ≡ Bad d → BadStart b c → BadStart b d
bad_is b c d e h = let k : c ≡ d = cc in subst (λ x. BadStart b x) k h

pub step_bad : (b : List ℕ) (c : Cause) → step b ≡ Bad c → BadStart b c
step_bad [] c e = absurd cc
step_bad (x ∷ []) c e = bad_is (x ∷ []) (FrameShort 1) c e (omega arith, omega arith, refl)
step_bad (x ∷ y ∷ []) c e = bad_is (x ∷ y ∷ []) (FrameShort 2) c e (omega arith, omega arith, refl)
step_bad (x ∷ y ∷ z ∷ []) c e = bad_is (x ∷ y ∷ z ∷ []) (FrameShort 3) c e (omega arith, omega arith, refl)
step_bad (x ∷ y ∷ z ∷ w ∷ p) c e =
    elim (cases_lt (length p + 4) (from_le_bytes w16 (x ∷ y ∷ []))) [
      | inl over ↦ bad_is (x ∷ y ∷ z ∷ w ∷ p) _ c (sym (frame_over _ (from_le_bytes w16 (z ∷ w ∷ [])) p over) ∙ e)
          (omega arith, refl, omega arith, omega arith)
      | inr within ↦ elim (cases_lt (from_le_bytes w16 (x ∷ y ∷ [])) 4) [
        | inl under ↦ bad_is (x ∷ y ∷ z ∷ w ∷ p) _ c
            (sym (frame_under _ (from_le_bytes w16 (z ∷ w ∷ [])) p within under) ∙ e) (omega arith, refl, under)
        | inr whole ↦ let no = frame_fine _ (from_le_bytes w16 (z ∷ w ∷ [])) p within whole in absurd cc
      ]
    ]

short_step : (b : List ℕ) → 0 < length b → length b < 4 → step b ≡ Bad (FrameShort (length b))
short_step [] some short = absurd (omega arith)
short_step (x ∷ []) some short = refl
short_step (x ∷ y ∷ []) some short = refl
short_step (x ∷ y ∷ z ∷ []) some short = refl
short_step (x ∷ y ∷ z ∷ w ∷ p) some short = absurd (omega arith)

over_step : (b : List ℕ) → 4 ≤ length b → length b < from_le_bytes w16 (take 2 b)
    → step b ≡ Bad (FrameOver (from_le_bytes w16 (take 2 b)) (length b))
over_step [] some over = absurd (omega arith)
over_step (x ∷ []) some over = absurd (omega arith)
over_step (x ∷ y ∷ []) some over = absurd (omega arith)
over_step (x ∷ y ∷ z ∷ []) some over = absurd (omega arith)
over_step (x ∷ y ∷ z ∷ w ∷ p) some over =
    frame_over _ (from_le_bytes w16 (z ∷ w ∷ [])) p (omega arith)
    ∙ ap (λ n. Bad (FrameOver (from_le_bytes w16 (x ∷ y ∷ [])) n)) (omega arith)

under_step : (b : List ℕ) → 4 ≤ length b → from_le_bytes w16 (take 2 b) < 4
    → step b ≡ Bad (FrameUnder (from_le_bytes w16 (take 2 b)))
under_step [] some under = absurd (omega arith)
under_step (x ∷ []) some under = absurd (omega arith)
under_step (x ∷ y ∷ []) some under = absurd (omega arith)
under_step (x ∷ y ∷ z ∷ []) some under = absurd (omega arith)
under_step (x ∷ y ∷ z ∷ w ∷ p) some under = frame_under _ (from_le_bytes w16 (z ∷ w ∷ [])) p (omega arith) under

pub bad_step : (b : List ℕ) (c : Cause) → BadStart b c → step b ≡ Bad c
bad_step b (FrameShort left) h = short_step b h.0 h.1 ∙ ap (λ n. Bad (FrameShort n)) (sym h.2)
bad_step b (FrameOver len left) h = over_step b h.0 (rw (← h.1) h.2) ∙ (λ i. Bad (FrameOver (sym h.1 i) (sym h.3 i)))
bad_step b (FrameUnder len) h = under_step b h.0 (rw (← h.1) h.2) ∙ ap (λ n. Bad (FrameUnder n)) (sym h.1)
bad_step b (TooShort got need) h = absurd h
bad_step b EmptyList h = absurd h
bad_step b (WrongLength got want) h = absurd h
bad_step b NotUtf8 h = absurd h
bad_step b InvalidState h = absurd h
bad_step b OutOfMemory h = absurd h

-- ** lengths and bytes of a spelling

pub length-begins : (b : List ℕ) (f : Frame) (rest : List ℕ) (h : Begins b f rest)
    → length b ≡ 4 + length f.payload + length h.padding + length rest
length-begins b f rest h =
    let parts_length : length b ≡ length (unpadded f ++ h.padding ++ rest) = ap length h.parts in
    omega (arith, length-append (f.payload ++ h.padding) rest, length-append f.payload h.padding)

pub bytes_left : (xs ys : List ℕ) → IsBytes (xs ++ ys) → IsBytes xs
bytes_left [] ys h = tt
bytes_left (x ∷ xs) ys h = (h.0, bytes_left xs ys h.1)

pub bytes_right : (xs ys : List ℕ) → IsBytes (xs ++ ys) → IsBytes ys
bytes_right [] ys h = h
bytes_right (x ∷ xs) ys h = bytes_right xs ys h.1

pub IsBytes-begins : (b : List ℕ) (f : Frame) (rest : List ℕ) → Begins b f rest → IsBytes b
    → IsBytes f.payload × IsBytes rest
IsBytes-begins b f rest h small =
    let all : IsBytes (unpadded f ++ h.padding ++ rest) = subst IsBytes h.parts small in (
      bytes_left f.payload h.padding (bytes_left (f.payload ++ h.padding) rest all.1.1.1.1),
      bytes_right (f.payload ++ h.padding) rest all.1.1.1.1,
    )

-- a frame that bytes begin with is one that bytes can spell
pub begins_framed : (b : List ℕ) (f : Frame) (rest : List ℕ) → Begins b f rest → IsBytes b → IsFrame f
begins_framed b f rest h small = record { kind = h.kind; size = h.size; bytes = (IsBytes-begins b f rest h small).0 }

pub step_framed : (b : List ℕ) (f : Frame) (rest : List ℕ) → IsBytes b → step b ≡ Next f rest → IsFrame f
step_framed b f rest small e = begins_framed b f rest (step_begins b f rest small e) small

pub step_rest_bytes : (b : List ℕ) (f : Frame) (rest : List ℕ) → IsBytes b → step b ≡ Next f rest → IsBytes rest
step_rest_bytes b f rest small e = (IsBytes-begins b f rest (step_begins b f rest small e) small).1
