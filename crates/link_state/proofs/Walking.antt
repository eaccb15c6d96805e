-- Filling by one step, and in place.
use Rattle.std.proofs.Common.{◌≡◌, ℕ, zero, suc, ◌+◌, ◌<◌, ◌≤◌, List, [], ◌∷◌, ◌++◌, length, take, drop, replicate}
use Rattle.std.proofs.Common.{◌-◌, ◌%◌, inl, inr, refl, sym, ap, subst, ◌∙◌, arith, append_assoc}
use Rattle.std.proofs.lemmas.List.{length-append, length-take, length-drop, length-replicate, drop-drop}
use Rattle.std.proofs.lemmas.List.{take-append-drop}
use Rattle.std.proofs.lemmas.List.{take_min, drop_min, take_at}
use Rattle.std.specs.Prelude.{min}
use Rattle.std.proofs.lemmas.Slice.{drop-put_mid}
use borrow.Rule.Slice.PartMut.{put_mid, post_of}
use Rattle.std.proofs.Math.Seq.{take-append-add, take-add}
use Rattle.nla_wire.specs.Frames.{Frame, number, missing, Begins, BadFront}
use Rattle.nla_wire.specs.declared.error.Cause.{Cause}
use Rattle.nla_wire.specs.Reading.{Step, step}
use Rattle.nla_wire.specs.Reading.Step.{End, Bad, Next}
use Rattle.nla_wire.proofs.Steps.{step_whole, step_shorter, step_size, bad_step}
use Rattle.nla_wire.proofs.Front.{step_rest}
use Rattle.nla_wire.proofs.Joined.{begins_join}
use Rattle.link_state.specs.Table.{action_of}
use Rattle.link_state.specs.Cleared.{info_level, part, payload_by, filled_on, filled_within, filled}
use Rattle.link_state.specs.declared.level.Level.{Level}
use Rattle.link_state.specs.Table.{Action}
use Rattle.link_state.specs.Table.Action.{Keep, Clear, ClearPart, Enter, EnterInfo}

abbrev Lists : Type 0
Lists = Level → List ℕ → List ℕ

payload_same : (by : ℕ) (F G : Lists) (action : Action) (p : List ℕ) → ((level : Level) → F level p ≡ G level p)
    → payload_by by F action p ≡ payload_by by G action p
payload_same by F G Keep p same = refl
payload_same by F G Clear p same = refl
payload_same by F G (ClearPart from to) p same = refl
payload_same by F G (Enter level) p same = same level
payload_same by F G EnterInfo p same = same (info_level p)

on_same : (by : ℕ) (F G : Lists) (level : Level) (b : List ℕ) (s : Step) → step b ≡ s
    → ((l : Level) (c : List ℕ) → length c < length b → F l c ≡ G l c)
    → filled_on by F level b s ≡ filled_on by G level b s
on_same by F G level b End e same = refl
on_same by F G level b (Bad c) e same = refl
on_same by F G level b (Next f rest) e same =
    ap (λ p. take 4 b ++ p ++ take (missing (length f.payload)) (drop (4 + length f.payload) b) ++ F level rest)
    (payload_same by F G (action_of level (number f)) f.payload
    (λ l. same l f.payload (omega (arith, step_size b f rest e))))
    ∙ ap (λ r. take 4 b ++ payload_by by G (action_of level (number f)) f.payload
    ++ take (missing (length f.payload)) (drop (4 + length f.payload) b) ++ r)
    (same level rest (step_shorter b f rest e))

nothing : (by : ℕ) (level : Level) (n : ℕ) (b : List ℕ) → length b ≡ 0 → filled_within by n level b ≡ b
unfolding filled_within
nothing by level zero b e = refl
nothing by level (suc n) [] e = refl
nothing by level (suc n) (x ∷ b) e = absurd (omega arith)

-- how many steps are allowed doesn't count, where they are enough
within_enough : (by n m : ℕ) (level : Level) (b : List ℕ) → length b ≤ n → length b ≤ m
    → filled_within by n level b ≡ filled_within by m level b
unfolding filled_within
within_enough by zero m level b h k = sym (nothing by level m b (omega arith))
within_enough by (suc n) zero level b h k = nothing by level (suc n) b (omega arith)
within_enough by (suc n) (suc m) level b h k =
    on_same by (filled_within by n) (filled_within by m) level b (step b) refl
    (λ l c shorter. within_enough by n m l c (omega arith) (omega arith))

pub filled_step : (by : ℕ) (level : Level) (b : List ℕ) → filled by level b ≡ filled_on by (filled by) level b (step b)
unfolding filled filled_within
filled_step by level [] = refl
filled_step by level (x ∷ b) = on_same by (filled_within by (length b)) (filled by) level (x ∷ b) (step (x ∷ b)) refl
    (λ l c shorter. within_enough by (length b) (length c) l c (omega arith) (omega arith))

pub filled_next : (by : ℕ) (level : Level) (b : List ℕ) (f : Frame) (rest : List ℕ) → step b ≡ Next f rest
    → filled by level b ≡ filled_on by (filled by) level b (Next f rest)
filled_next by level b f rest e = filled_step by level b ∙ ap (filled_on by (filled by) level b) e

-- ** lengths

pub length_part : (by from to : ℕ) (p : List ℕ) → length (part by from to p) ≡ length p
length_part by from to p = omega (
  arith,
  length-append (take from (take to p) ++ replicate (length (drop from (take to p))) by) (drop to p),
  length-append (take from (take to p)) (replicate (length (drop from (take to p))) by),
  length-replicate {A = ℕ} (length (drop from (take to p))) by,
  length-take from (take to p),
  length-drop from (take to p),
  length-take to p,
  length-drop to p,
)

length_payload : (by : ℕ) (F : Lists) (action : Action) (p : List ℕ) → ((level : Level) → length (F level p) ≡ length p)
    → length (payload_by by F action p) ≡ length p
length_payload by F Keep p same = refl
length_payload by F Clear p same = length-replicate (length p) by
length_payload by F (ClearPart from to) p same = length_part by from to p
length_payload by F (Enter level) p same = same level
length_payload by F EnterInfo p same = same (info_level p)

length_four : (a p k r : List ℕ) → length (a ++ p ++ k ++ r) ≡ length a + length p + length k + length r
length_four a p k r = omega (arith, length-append (a ++ p ++ k) r, length-append (a ++ p) k, length-append a p)

length_on : (by : ℕ) (F : Lists) (level : Level) (b : List ℕ) (s : Step) → step b ≡ s
    → ((l : Level) (c : List ℕ) → length (F l c) ≡ length c) → length (filled_on by F level b s) ≡ length b
length_on by F level b End e same = refl
length_on by F level b (Bad c) e same = refl
length_on by F level b (Next f rest) e same =
    length_four (take 4 b) (payload_by by F (action_of level (number f)) f.payload)
    (take (missing (length f.payload)) (drop (4 + length f.payload) b)) (F level rest)
    ∙ omega (
      arith,
      length-take 4 b,
      length-take (missing (length f.payload)) (drop (4 + length f.payload) b),
      length-drop (4 + length f.payload) b,
      length_payload by F (action_of level (number f)) f.payload (λ l. same l f.payload),
      same level rest,
      step_size b f rest e,
      ap (λ (r : List ℕ). length r) (step_rest b f rest e),
      length-drop (4 + length f.payload + missing (length f.payload)) b,
    )

length_within : (by n : ℕ) (level : Level) (b : List ℕ) → length (filled_within by n level b) ≡ length b
unfolding filled_within
length_within by zero level b = refl
length_within by (suc n) level b =
    length_on by (filled_within by n) level b (step b) refl (λ l c. length_within by n l c)

pub length-filled : (by : ℕ) (level : Level) (b : List ℕ) → length (filled by level b) ≡ length b
unfolding filled
length-filled by level b = length_within by (length b) level b

pub length-payload_by : (by : ℕ) (action : Action) (p : List ℕ)
    → length (payload_by by (filled by) action p) ≡ length p
length-payload_by by action p = length_payload by (filled by) action p (λ l. length-filled by l p)

pub filled_nil : (by : ℕ) (level : Level) (b : List ℕ) → length b ≡ 0 → filled by level b ≡ b
unfolding filled
filled_nil by level b e = nothing by level (length b) b e

-- where no frame begins, nothing is filled
on_none : (by : ℕ) (level : Level) (b : List ℕ) (s : Step) → ((f : Frame) (rest : List ℕ) → s ≡ Next f rest → ⊥)
    → filled_on by (filled by) level b s ≡ b
on_none by level b End none = refl
on_none by level b (Bad c) none = refl
on_none by level b (Next f rest) none = absurd (none f rest refl)

-- ** in place

post_is : (list : List ℕ) (at n : ℕ) → post_of (at + 4) n list ≡ drop (4 + n) (drop at list)
post_is list at n = drop-drop n (at + 4) list ∙ ap (λ i. drop i list) (omega arith) ∙ sym (drop-drop (4 + n) at list)

-- the bytes after a part of a list, as far as the next frame
after_part : (list q : List ℕ) (at n k : ℕ) → at + 4 + n ≤ length list → length q ≡ n
    → take (at + (4 + n + k)) (put_mid (at + 4) n list q)
    ≡ take at list ++ take 4 (drop at list) ++ q ++ take k (drop (4 + n) (drop at list))
after_part list q at n k within size =
    let front = take (at + 4) list in
    let front_size : length front ≡ at + 4 = omega (arith, length-take (at + 4) list) in
    let whole : length (front ++ q) ≡ at + 4 + n = omega (arith, length-append front q, front_size, size) in
    let count : at + (4 + n + k) ≡ length (front ++ q) + k = omega (arith, whole) in
    ap (λ i. take i (put_mid (at + 4) n list q)) count
    ∙ ap (λ xs. take (length (front ++ q) + k) xs) (sym (append_assoc front q (post_of (at + 4) n list)))
    ∙ take-append-add (front ++ q) (post_of (at + 4) n list) k
    ∙ ap (λ xs. xs ++ q ++ take k (post_of (at + 4) n list)) (take-add at 4 list)
    ∙ ap (λ xs. take at list ++ take 4 (drop at list) ++ q ++ take k xs) (post_is list at n)

four : (a b c d e : List ℕ) → a ++ b ++ c ++ d ++ e ≡ a ++ (b ++ c ++ d ++ e)
four a b c d e =
    ap (λ xs. xs ++ d ++ e) (append_assoc a b c)
    ∙ ap (λ xs. xs ++ e) (append_assoc a (b ++ c) d)
    ∙ append_assoc a (b ++ c ++ d) e

-- one frame's payload was replaced by what it becomes
stepped : (by : ℕ) (level : Level) (list : List ℕ) (at next : ℕ) (f : Frame) (rest q : List ℕ)
    → step (drop at list) ≡ Next f rest → at ≤ length list
    → q ≡ payload_by by (filled by) (action_of level (number f)) f.payload
    → next ≡ 4 + length f.payload + missing (length f.payload)
    → take (at + next) (put_mid (at + 4) (length f.payload) list q)
    ++ filled by level (drop (at + next) (put_mid (at + 4) (length f.payload) list q))
    ≡ take at list ++ filled by level (drop at list)
stepped by level list at next f rest q e within q_is next_is =
    let n = length f.payload in
    let k = missing n in
    let size : length q ≡ n = ap length q_is ∙ length-payload_by by (action_of level (number f)) f.payload in
    let room : at + 4 + n ≤ length list = omega (arith, step_size (drop at list) f rest e, length-drop at list) in
    let rest_is : drop (at + (4 + n + k)) (put_mid (at + 4) n list q) ≡ rest =
    drop-put_mid (at + 4) n list q (at + (4 + n + k)) (omega arith) (omega arith) size
    ∙ sym (drop-drop (4 + n + k) at list) ∙ sym (step_rest (drop at list) f rest e) in
    let made : List ℕ = put_mid (at + 4) n list q in
    ap (λ i. take (at + i) made ++ filled by level (drop (at + i) made)) next_is
    ∙ ap (λ xs. xs ++ filled by level (drop (at + (4 + n + k)) made)) (after_part list q at n k room size)
    ∙ ap (λ xs. take at list ++ take 4 (drop at list) ++ q ++ take k (drop (4 + n) (drop at list))
    ++ filled by level xs) rest_is
    ∙ four (take at list) (take 4 (drop at list)) q (take k (drop (4 + n) (drop at list))) (filled by level rest)
    ∙ ap (λ p. take at list ++ (take 4 (drop at list) ++ p ++ take k (drop (4 + n) (drop at list))
    ++ filled by level rest)) q_is
    ∙ ap (λ xs. take at list ++ xs) (sym (filled_next by level (drop at list) f rest e))

-- the payload, as a part of the list
pub payload_part : (list : List ℕ) (at : ℕ) (f : Frame) (rest : List ℕ) → Begins (drop at list) f rest
    → take (length f.payload) (drop (at + 4) list) ≡ f.payload
payload_part list at f rest begins =
    ap (take (length f.payload)) (sym (drop-drop 4 at list) ∙ ap (drop 4) begins.parts
    ∙ append_assoc f.payload begins.padding rest)
    ∙ take_at f.payload (begins.padding ++ rest) (length f.payload) refl

-- as the loop has it: the place of the next frame is cut at the end
pub looped : (by : ℕ) (level : Level) (list new : List ℕ) (at next : ℕ) (f : Frame) (rest q : List ℕ) (m : ℕ)
    → Begins (drop at list) f rest → at ≤ length list → length new ≡ length list
    → new ≡ put_mid (at + 4) m list q → m ≡ length f.payload
    → q ≡ payload_by by (filled by) (action_of level (number f)) (take m (drop (at + 4) list))
    → next ≡ min (at + (4 + length f.payload + missing (length f.payload))) (length new)
    → (next ≤ length new) × (length new ≡ length list)
    × (take next new ++ filled by level (drop next new) ≡ take at list ++ filled by level (drop at list))
looped by level list new at next f rest q m begins within new_size new_is m_is q_is next_is =
    let n = length f.payload in
    let e = step_whole (drop at list) f rest begins in
    let part : take m (drop (at + 4) list) ≡ f.payload =
    ap (λ i. take i (drop (at + 4) list)) m_is ∙ payload_part list at f rest begins in
    let q_now : q ≡ payload_by by (filled by) (action_of level (number f)) f.payload =
    q_is ∙ ap (payload_by by (filled by) (action_of level (number f))) part in
    let made : new ≡ put_mid (at + 4) n list q = new_is ∙ ap (λ i. put_mid (at + 4) i list q) m_is in (
      omega (arith, next_is),
      new_size,
      ap (λ i. take i new ++ filled by level (drop i new)) next_is
          ∙ ap (λ xs. xs ++ filled by level (drop (min (at + (4 + n + missing n)) (length new)) new))
          (take_min (at + (4 + n + missing n)) new)
          ∙ ap (λ xs. take (at + (4 + n + missing n)) new ++ filled by level xs)
          (drop_min (at + (4 + n + missing n)) new)
          ∙ ap (λ xs. take (at + (4 + n + missing n)) xs ++ filled by level (drop (at + (4 + n + missing n)) xs)) made
          ∙ stepped by level list at (4 + n + missing n) f rest q e within q_now refl,
    )

-- where nothing is written
kept_part : (list : List ℕ) (a m : ℕ) → list ≡ put_mid a m list (take m (drop a list))
kept_part list a m =
    sym (take-append-drop a list) ∙ ap (λ xs. take a list ++ xs) (sym (take-append-drop m (drop a list)))

-- bytes that begin with no frame stay
pub bad_kept : (by : ℕ) (level : Level) (b : List ℕ) (c : Cause) → BadFront b c → filled by level b ≡ b
bad_kept by level b c (inl bad) = filled_step by level b ∙ ap (filled_on by (filled by) level b) (bad_step b c bad)
bad_kept by level b c (inr none) = filled_nil by level b (ap length none.0)

pub ended : (by : ℕ) (level : Level) (list : List ℕ) (at : ℕ) → length list ≤ at
    → list ≡ take at list ++ filled by level (drop at list)
ended by level list at over =
    sym (take-append-drop at list)
    ∙ ap (λ xs. take at list ++ xs) (sym (filled_nil by level (drop at list) (omega (arith, length-drop at list))))

-- the step of the walk
pub walked : (by : ℕ) (level : Level) (list new : List ℕ) (at next : ℕ) (f : Frame) (rest q : List ℕ) (m : ℕ)
    → Begins (drop at list) f rest → at ≤ length list → length new ≡ length list
    → m ≡ length f.payload
    → next ≡ min (at + (4 + m + missing m)) (length new)
    → new ≡ put_mid (at + 4) (at + 4 + m - (at + 4)) list q
    → q ≡ payload_by by (filled by) (action_of level (number f)) (take (at + 4 + m - (at + 4)) (drop (at + 4) list))
    → take next new ++ filled by level (drop next new) ≡ take at list ++ filled by level (drop at list)
walked by level list new at next f rest q m begins within new_size m_is next_is new_is q_is =
    let m_now : at + 4 + m - (at + 4) ≡ length f.payload = omega (arith, m_is) in
    (looped by level list new at next f rest q (at + 4 + m - (at + 4)) begins within new_size new_is m_now q_is
    (next_is ∙ ap (λ i. min (at + (4 + i + missing i)) (length new)) m_is)).2

-- the same, where the attribute is kept
pub kept_walked : (by : ℕ) (level : Level) (list : List ℕ) (at : ℕ) (f : Frame) (rest : List ℕ)
    → Begins (drop at list) f rest → action_of level (number f) ≡ Keep
    → 4 + length f.payload + missing (length f.payload) ≡ 8 → at + 8 ≤ length list
    → take (at + 8) list ++ filled by level (drop (at + 8) list) ≡ take at list ++ filled by level (drop at list)
kept_walked by level list at f rest begins keep eight within =
    let m = length f.payload in
    let part = take m (drop (at + 4) list) in
    (looped by level list list at (at + 8) f rest part m begins (omega (arith, within)) refl (kept_part list (at + 4) m)
    refl (ap (λ action. payload_by by (filled by) action part) (sym keep)) (omega (arith, eight, within))).2

eight : (n : ℕ) → 0 < n → 4 + n ≤ 8 → 4 + n + missing n ≡ 8
eight n some most = Prim.grind (arith, some, most)

-- a frame with a payload, of the first eight bytes
pub begins_eight : (list : List ℕ) (at : ℕ) (f : Frame) (rest : List ℕ) → at + 8 ≤ length list
    → Begins (take (at + 8 - at) (drop at list)) f rest → 0 < length f.payload
    → Begins (drop at list) f (rest ++ drop 8 (drop at list)) × (4 + length f.payload + missing (length f.payload) ≡ 8)
begins_eight list at f rest within begins some =
    let front = take 8 (drop at list) in
    let front_is : at + 8 - at ≡ 8 = omega arith in
    let begins_front = subst (λ n. Begins (take n (drop at list)) f rest) front_is begins in
    let size : length front ≡ 8 = omega (arith, length-take 8 (drop at list), length-drop at list, within) in
    let most : 4 + length f.payload ≤ 8 =
    omega (arith, step_size front f rest (step_whole front f rest begins_front), size) in (
      subst (λ b. Begins b f (rest ++ drop 8 (drop at list))) (take-append-drop 8 (drop at list))
          (begins_join front (drop 8 (drop at list)) f rest (ap (λ n. n % 4) size) begins_front),
      eight (length f.payload) some most,
    )
