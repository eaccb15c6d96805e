-- The frame at the front of bytes, as code reads it: from the bytes of the header, and the rest after four of them.
use Rattle.std.proofs.Common.{◌≡◌, ℕ, suc, ◌+◌, ◌-◌, ◌<◌, ◌≤◌, ◌⊎◌, inl, inr, List, [], ◌∷◌, length, get_or, take}
use Rattle.std.proofs.Common.{drop, refl, ap, sym, ◌∙◌, arith, Result, Ok, Err}
use Rattle.std.specs.Prelude.{MatchResult}
use Rattle.std.specs.Int.{w16, from_le_bytes}
use Rattle.nla_wire.specs.Frames.{Frame, IsBytes, missing, Begins, BadFront, BeginsWithNone}
use Rattle.nla_wire.specs.Reading.{Step, step, front, frame_at}
use Rattle.nla_wire.specs.Reading.Step.{End, Bad, Next}
use Rattle.nla_wire.specs.Items.{Item, items}
use Rattle.nla_wire.specs.Gives.{without_place}
use Rattle.std.proofs.lemmas.List.{length-take, length-drop}
use Rattle.std.proofs.Math.Seq.{drop-drop}
use Rattle.std.proofs.lemmas.Bool.Decides.{leb_tells}
use Rattle.nla_wire.specs.declared.error.Cause.{Cause}
use Rattle.nla_wire.specs.declared.error.Cause.TheVariants.{FrameShort, FrameOver, FrameUnder}
use Rattle.nla_wire.specs.declared.error.DecodeError.{DecodeError}
use Rattle.nla_wire.proofs.Steps.{frame_over, frame_under, frame_fine, step_whole, step_begins, step_bad, step_end}
use Rattle.nla_wire.proofs.Items.{items_nil, items_next, items_bad}

-- the elements of a byte slice are bytes
pub all_bytes : (b : List ℕ) → ((i : ℕ) → get_or b i 0 < 256) → IsBytes b
all_bytes [] h = tt
all_bytes (x ∷ xs) h = (h 0, all_bytes xs (λ i. h (suc i)))

-- the length field, from the first two bytes
abbrev pub length_field : List ℕ → ℕ
length_field b = from_le_bytes w16 (get_or b 0 0 ∷ get_or b 1 0 ∷ [])

-- the kind, from the next two
abbrev pub kind_field : List ℕ → ℕ
kind_field b = from_le_bytes w16 (get_or b 2 0 ∷ get_or b 3 0 ∷ [])

pub front_short : (b : List ℕ) → length b < 4 → front (step b) ≡ Err (FrameShort (length b))
front_short [] h = refl
front_short (a ∷ []) h = refl
front_short (a ∷ b ∷ []) h = refl
front_short (a ∷ b ∷ c ∷ []) h = refl
front_short (a ∷ b ∷ c ∷ d ∷ p) h = absurd (omega arith)

pub step_long : (b : List ℕ) → 4 ≤ length b → step b ≡ frame_at (length_field b) (kind_field b) (drop 4 b)
step_long [] h = absurd (omega arith)
step_long (a ∷ []) h = absurd (omega arith)
step_long (a ∷ b ∷ []) h = absurd (omega arith)
step_long (a ∷ b ∷ c ∷ []) h = absurd (omega arith)
step_long (a ∷ b ∷ c ∷ d ∷ p) h = refl

after_header : (b : List ℕ) → 4 ≤ length b → length (drop 4 b) + 4 ≡ length b
after_header b h = simp length-drop (omega arith)

pub front_over : (b : List ℕ) → 4 ≤ length b → length b < length_field b
    → front (step b) ≡ Err (FrameOver (length_field b) (length b))
front_over b long over =
    let size = after_header b long in
    ap front (step_long b long ∙ frame_over (length_field b) (kind_field b) (drop 4 b) (omega arith))
    ∙ ap (λ n. Err (FrameOver (length_field b) n)) size

pub front_under : (b : List ℕ) → 4 ≤ length b → length_field b ≤ length b → length_field b < 4
    → front (step b) ≡ Err (FrameUnder (length_field b))
front_under b long fits under =
    let size = after_header b long in
    ap front (step_long b long ∙ frame_under (length_field b) (kind_field b) (drop 4 b) (omega arith) under)

pub step_fine : (b : List ℕ) → 4 ≤ length b → length_field b ≤ length b → 4 ≤ length_field b
    → step b ≡ Next (record { kind = kind_field b; payload = take (length_field b - 4) (drop 4 b) })
    (drop (length_field b - 4 + missing (length_field b - 4)) (drop 4 b))
step_fine b long fits whole =
    let size = after_header b long in
    step_long b long ∙ frame_fine (length_field b) (kind_field b) (drop 4 b) (omega arith) whole

-- ** what stands after the frame

next_rest : (f g : Frame) (r s : List ℕ) → Next f r ≡ Next g s → (f ≡ g) × (r ≡ s)
next_rest f g r s e = (cc, cc)

-- the frame that is made of the header's fields has as long a payload as the length field says
made_size : (b : List ℕ) (len kind : ℕ) (f : Frame) → 4 ≤ length b → len ≤ length b
    → f ≡ record { kind = kind; payload = take (len - 4) (drop 4 b) } → length f.payload ≡ len - 4
made_size b len kind f long fits e =
    ap (λ (g : Frame). length g.payload) e ∙ simp (length-take, length-drop) (omega arith)

-- one of the two holds
lt_or_le : (a b : ℕ) → (a < b) ⊎ (b ≤ a)
lt_or_le a b = elim (leb_tells b a) [ inl h ↦ inr h.1 | inr h ↦ inl h.1 ]

step_short_cases : (b : List ℕ) (f : Frame) (rest : List ℕ) → length b < 4 → step b ≡ Next f rest → ⊥
step_short_cases b f rest h e =
    let fault = sym (front_short b h) ∙ ap front e in cc

pub step_rest : (b : List ℕ) (f : Frame) (rest : List ℕ) → step b ≡ Next f rest
    → rest ≡ drop (4 + length f.payload + missing (length f.payload)) b
step_rest b f rest e = elim (lt_or_le (length b) 4) [
  | inl short ↦ absurd (step_short_cases b f rest short e)
  | inr long ↦ elim (lt_or_le (length b) (length_field b)) [
    | inl over ↦ (let fault = sym (front_over b long over) ∙ ap front e in absurd cc)
    | inr fits ↦ elim (lt_or_le (length_field b) 4) [
      | inl under ↦ (let fault = sym (front_under b long fits under) ∙ ap front e in absurd cc)
      | inr whole ↦
          (let parts = next_rest _ _ _ _ (sym e ∙ step_fine b long fits whole) in
          let size = made_size b (length_field b) (kind_field b) f long fits parts.0 in
          parts.1 ∙ drop-drop (length_field b - 4 + missing (length_field b - 4)) 4 b
          ∙ ap (λ n. drop n b) (ap (λ n. 4 + (n + missing n)) (sym size) ∙ omega arith))
    ]
  ]
]

-- ** the first item, from the result of a reader of the front

bad_front : (b : List ℕ) (s : Step) (c : Cause) → step b ≡ s → 0 < length b → front s ≡ Err c → step b ≡ Bad c
bad_front b End c e some h = absurd (omega (arith, ap length (step_end b e)))
bad_front b (Bad d) c e some h = let same : d ≡ c = cc in e ∙ ap Bad same
bad_front b (Next f rest) c e some h = absurd cc

good_front : (b : List ℕ) (s : Step) (f : Frame) → step b ≡ s → front s ≡ Ok f
    → (rest : List ℕ) × (step b ≡ Next f rest)
good_front b End f e h = absurd cc
good_front b (Bad d) f e h = absurd cc
good_front b (Next g rest) f e h = let same : g ≡ f = cc in (rest, e ∙ ap (λ k. Next k rest) same)

pub first_fails : (b : List ℕ) (c : Cause) → 0 < length b → front (step b) ≡ Err c → items b ≡ Err c ∷ items []
first_fails b c some h =
    items_bad b c (bad_front b (step b) c refl some h) ∙ ap (λ (xs : List Item). Err c ∷ xs) (sym items_nil)

pub first_comes : (b : List ℕ) (f : Frame) → front (step b) ≡ Ok f
    → items b ≡ Ok f ∷ items (drop (4 + length f.payload + missing (length f.payload)) b)
first_comes b f h =
    let next = good_front b (step b) f refl h in
    items_next b f next.0 next.1 ∙ ap (λ r. Ok f ∷ items r) (step_rest b f next.0 next.1)

-- ** and in the words of the relations

not_both : (b : List ℕ) (s : Step) (c : Cause) → step b ≡ s → front s ≡ Err c → BeginsWithNone b
not_both b s c e h f rest k = let both = sym e ∙ step_whole b f rest k in let clash = ap front both in absurd cc

bad_meaning : (b : List ℕ) (s : Step) (c : Cause) → step b ≡ s → front s ≡ Err c → BadFront b c
bad_meaning b End c e h = let same : FrameShort 0 ≡ c = cc in inr (step_end b e, sym same)
bad_meaning b (Bad d) c e h = let same : d ≡ c = cc in inl (step_bad b c (e ∙ ap Bad same))
bad_meaning b (Next f rest) c e h = absurd cc

pub checked_front : (b : List ℕ) (r : Result Frame DecodeError) → IsBytes b → without_place r ≡ front (step b)
    → MatchResult r (λ f. (rest : List ℕ) × Begins b f rest) (λ e. BadFront b e.cause × BeginsWithNone b)
checked_front b (Ok f) bytes h =
    let next = good_front b (step b) f refl (sym h) in
    (next.0, step_begins b f next.0 bytes next.1)
checked_front b (Err e) bytes h =
    (bad_meaning b (step b) e.cause refl (sym h), not_both b (step b) e.cause refl (sym h))

-- what stands after the padding, from the length field
pub padded_after : (b : List ℕ) (len n : ℕ) → len ≡ 4 + n → drop (4 + n + missing n) b ≡ drop (len + missing len) b
padded_after b len n e = let same : 4 + n + missing n ≡ len + missing len = omega (arith, e) in ap (λ k. drop k b) same

-- nothing is left of no bytes
pub items_ended : (b : List ℕ) → length b ≡ 0 → items b ≡ []
items_ended [] e = items_nil
items_ended (x ∷ b) e = absurd (omega arith)
