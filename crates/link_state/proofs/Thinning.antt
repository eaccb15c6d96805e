-- Lists without the frames that are kept: by one step, and in place.
use Rattle.std.proofs.Common.{◌≡◌, ℕ, zero, suc, ◌+◌, ◌-◌, ◌<◌, ◌≤◌, List, [], ◌∷◌, ◌++◌, length, take, drop}
use Rattle.std.proofs.Common.{inl, inr, refl, sym, ap, ◌∙◌, arith, append_assoc, append-nil, take_at, take_all}
use Rattle.std.proofs.Common.{drop_at}
use Rattle.std.proofs.lemmas.List.{length-append, length-take, length-drop, drop-drop, take_min, drop_min}
use Rattle.std.proofs.lemmas.List.{take-append-drop, take-append-le, length-take-le, drop-take}
use Rattle.std.proofs.lemmas.Slice.{take-put_mid_below, drop-put_mid, drop-append-drop}
use Rattle.std.proofs.Math.Seq.{take-add, drop-append_seam}
use Rattle.std.specs.Prelude.{min}
use Rattle.std.specs.Int.{w16, to_le_bytes}
use lib.Seq.{paste}
use borrow.Rule.Slice.PartMut.{put_mid, post_of}
use Rattle.nla_wire.specs.Frames.{Frame, number, missing, Begins, BadFront}
use Rattle.nla_wire.specs.declared.error.Cause.{Cause}
use Rattle.nla_wire.specs.Reading.{Step, step}
use Rattle.nla_wire.specs.Reading.Step.{End, Bad, Next}
use Rattle.nla_wire.proofs.Steps.{step_whole, step_shorter, step_size, bad_step}
use Rattle.nla_wire.proofs.Front.{step_rest}
use Rattle.link_state.specs.Table.{Action, action_of}
use Rattle.link_state.specs.Table.Action.{Keep, Clear, ClearPart, Enter, EnterInfo}
use Rattle.link_state.specs.Thinned.{wrapped, left_of, thinned_on, thinned_within, thinned}
use Rattle.link_state.specs.declared.level.Level.{Level}
use Rattle.link_state.proofs.Walking.{payload_part}

abbrev Lists : Type 0
Lists = Level → List ℕ → List ℕ

left_same : (F G : Lists) (action : Action) (p b : List ℕ) → ((level : Level) → F level p ≡ G level p)
    → left_of F action p b ≡ left_of G action p b
left_same F G Keep p b same = refl
left_same F G Clear p b same = refl
left_same F G (ClearPart from to) p b same = refl
left_same F G (Enter level) p b same = ap (wrapped (take 2 (drop 2 b))) (same level)
left_same F G EnterInfo p b same = refl

abbrev whole : Frame → List ℕ → List ℕ
whole f b = take (4 + length f.payload + missing (length f.payload)) b

on_same : (F G : Lists) (level : Level) (b : List ℕ) (s : Step) → step b ≡ s
    → ((l : Level) (c : List ℕ) → length c < length b → F l c ≡ G l c)
    → thinned_on F level b s ≡ thinned_on G level b s
on_same F G level b End e same = refl
on_same F G level b (Bad c) e same = refl
on_same F G level b (Next f rest) e same =
    ap (λ p. p ++ F level rest)
    (left_same F G (action_of level (number f)) f.payload (whole f b)
    (λ l. same l f.payload (omega (arith, step_size b f rest e))))
    ∙ ap (λ r. left_of G (action_of level (number f)) f.payload (whole f b) ++ r)
    (same level rest (step_shorter b f rest e))

nothing : (level : Level) (n : ℕ) (b : List ℕ) → length b ≡ 0 → thinned_within n level b ≡ b
unfolding thinned_within
nothing level zero b e = refl
nothing level (suc n) [] e = refl
nothing level (suc n) (x ∷ b) e = absurd (omega arith)

within_enough : (n m : ℕ) (level : Level) (b : List ℕ) → length b ≤ n → length b ≤ m
    → thinned_within n level b ≡ thinned_within m level b
unfolding thinned_within
within_enough zero m level b h k = sym (nothing level m b (omega arith))
within_enough (suc n) zero level b h k = nothing level (suc n) b (omega arith)
within_enough (suc n) (suc m) level b h k = on_same (thinned_within n) (thinned_within m) level b (step b) refl
    (λ l c shorter. within_enough n m l c (omega arith) (omega arith))

pub thinned_step : (level : Level) (b : List ℕ) → thinned level b ≡ thinned_on thinned level b (step b)
unfolding thinned thinned_within
thinned_step level [] = refl
thinned_step level (x ∷ b) = on_same (thinned_within (length b)) thinned level (x ∷ b) (step (x ∷ b)) refl
    (λ l c shorter. within_enough (length b) (length c) l c (omega arith) (omega arith))

pub thinned_next : (level : Level) (b : List ℕ) (f : Frame) (rest : List ℕ) → step b ≡ Next f rest
    → thinned level b ≡ thinned_on thinned level b (Next f rest)
thinned_next level b f rest e = thinned_step level b ∙ ap (thinned_on thinned level b) e

pub thinned_nil : (level : Level) (b : List ℕ) → length b ≡ 0 → thinned level b ≡ b
unfolding thinned
thinned_nil level b e = nothing level (length b) b e

-- bytes that begin with no frame stay
pub bad_left : (level : Level) (b : List ℕ) (c : Cause) → BadFront b c → thinned level b ≡ b
bad_left level b c (inl bad) = thinned_step level b ∙ ap (thinned_on thinned level b) (bad_step b c bad)
bad_left level b c (inr none) = thinned_nil level b (ap length none.0)

-- ** in place

-- bytes from one place to before another, moved to a place in front of them
abbrev pub moved : List ℕ → ℕ → ℕ → ℕ → List ℕ
moved xs at to n = paste xs to (drop at xs) n

pub take_moved : (xs : List ℕ) (at to n : ℕ) → to ≤ at → at + n ≤ length xs
    → take (to + n) (moved xs at to n) ≡ take to xs ++ take n (drop at xs)
take_moved xs at to n behind within =
    take_at (take to xs ++ take n (drop at xs)) (drop (to + n) xs) (to + n)
    (omega (
      arith,
      behind,
      within,
      length-append (take to xs) (take n (drop at xs)),
      length-take to xs,
      length-take n (drop at xs),
      length-drop at xs,
    ))

pub drop_moved : (xs : List ℕ) (at to n next : ℕ) → to ≤ at → at + n ≤ length xs → to + n ≤ next
    → drop next (moved xs at to n) ≡ drop next xs
drop_moved xs at to n next behind within further =
    drop-append-drop (to + n) xs (take to xs ++ take n (drop at xs)) next further
    (omega (
      arith,
      behind,
      within,
      length-append (take to xs) (take n (drop at xs)),
      length-take to xs,
      length-take n (drop at xs),
      length-drop at xs,
    ))

-- the frame at a place, where its last padding may lack
frame_bytes : (list : List ℕ) (at k : ℕ) → at ≤ length list
    → take (min (at + k) (length list) - at) (drop at list) ≡ take k (drop at list)
frame_bytes list at k within =
    let size : min (at + k) (length list) - at ≡ min k (length (drop at list)) =
    omega (arith, within, length-drop at list) in
    ap (λ i. take i (drop at list)) size ∙ take_min k (drop at list)

-- its payload
payload_bytes : (list : List ℕ) (at k : ℕ) (f : Frame) (rest : List ℕ) → Begins (drop at list) f rest
    → take (length f.payload) (drop 4 (take (4 + length f.payload + k) (drop at list))) ≡ f.payload
payload_bytes list at k f rest begins =
    let b = drop at list in
    let n = length f.payload in
    let same : drop 4 (take (4 + n + k) b) ≡ take (n + k) (drop 4 b) =
    ap (λ i. drop 4 (take i b)) (omega arith) ∙ drop-take 4 (n + k) b in
    let there : take n (drop 4 b) ≡ f.payload =
    ap (take n) (drop-drop 4 at list) ∙ payload_part list at f rest begins in
    let long : n ≤ length (take (n + k) (drop 4 b)) = omega (
      arith,
      length-take (n + k) (drop 4 b),
      ap (λ (p : List ℕ). length p) there,
      length-take n (drop 4 b),
    ) in
    ap (take n) same
    ∙ sym (take-append-le n (take (n + k) (drop 4 b)) (drop (n + k) (drop 4 b)) long)
    ∙ ap (take n) (take-append-drop (n + k) (drop 4 b))
    ∙ there

-- one frame was thinned, and what is left of it moved
pub thinned_at : (level : Level) (list made new : List ℕ) (at next to n : ℕ) (f : Frame) (rest q : List ℕ)
    → Begins (drop at list) f rest → at ≤ length list → to ≤ at
    → next ≡ min (at + (4 + length f.payload + missing (length f.payload))) (length list)
    → made ≡ put_mid at (next - at) list q → length q ≡ next - at → n ≤ length q
    → take n q ≡ left_of thinned (action_of level (number f))
    (take (length f.payload) (drop 4 (take (next - at) (drop at list)))) (take (next - at) (drop at list))
    → new ≡ moved made at to n
    → take (to + n) new ++ thinned level (drop next new) ≡ take to list ++ thinned level (drop at list)
thinned_at level list made new at next to n f rest q begins within behind next_is made_is q_size fits left new_is =
    let b = drop at list in
    let k = 4 + length f.payload + missing (length f.payload) in
    let e = step_whole b f rest begins in
    let size = step_size b f rest e in
    let next_within : next ≤ length list = omega (arith, next_is) in
    let further : at ≤ next = omega (arith, next_is, within) in
    let made_size : length made ≡ length list = omega (
      arith,
      ap (λ (xs : List ℕ). length xs) made_is,
      length-append (take at list) (q ++ post_of at (next - at) list),
      length-append q (post_of at (next - at) list),
      length-take at list,
      length-drop at list,
      length-drop (next - at) (drop at list),
      q_size,
      next_within,
      further,
      within,
    ) in
    let room : at + n ≤ length made = omega (arith, made_size, fits, q_size, next_within, further) in
    let front : take to made ≡ take to list =
    ap (take to) made_is ∙ take-put_mid_below at (next - at) list q to behind within in
    let there : drop at made ≡ q ++ post_of at (next - at) list =
    ap (drop at) made_is
    ∙ ap (λ i. drop i (put_mid at (next - at) list q)) (sym (length-take-le at list within))
    ∙ drop-append_seam (take at list) (q ++ post_of at (next - at) list) in
    let part : take n (drop at made) ≡ take n q =
    ap (take n) there ∙ take-append-le n q (post_of at (next - at) list) fits in
    let frame_is : take (next - at) b ≡ take k b =
    ap (λ i. take (i - at) b) next_is ∙ frame_bytes list at k within in
    let payload_is : take (length f.payload) (drop 4 (take (next - at) b)) ≡ f.payload =
    ap (λ c. take (length f.payload) (drop 4 c)) frame_is
    ∙ payload_bytes list at (missing (length f.payload)) f rest begins in
    let left_is : take n q ≡ left_of thinned (action_of level (number f)) f.payload (take k b) =
    left
    ∙ ap (λ p. left_of thinned (action_of level (number f)) p (take (next - at) b)) payload_is
    ∙ ap (λ c. left_of thinned (action_of level (number f)) f.payload c) frame_is in
    let later : drop next new ≡ rest =
    ap (drop next) new_is
    ∙ drop_moved made at to n next behind room (omega (arith, behind, fits, q_size, further))
    ∙ ap (drop next) made_is
    ∙ drop-put_mid at (next - at) list q next (omega (arith, further)) within q_size
    ∙ ap (λ i. drop i list) next_is
    ∙ drop_min (at + k) list
    ∙ sym (drop-drop k at list)
    ∙ sym (step_rest b f rest e) in
    let first : take (to + n) new ≡ take to list ++ left_of thinned (action_of level (number f)) f.payload (take k b) =
    ap (take (to + n)) new_is
    ∙ take_moved made at to n behind room
    ∙ ap (λ xs. xs ++ take n (drop at made)) front
    ∙ ap (λ xs. take to list ++ xs) (part ∙ left_is) in
    ap (λ xs. xs ++ thinned level (drop next new)) first
    ∙ ap (λ xs. (take to list ++ left_of thinned (action_of level (number f)) f.payload (take k b)) ++ thinned level xs)
    later
    ∙ append_assoc (take to list) (left_of thinned (action_of level (number f)) f.payload (take k b))
    (thinned level rest)
    ∙ ap (λ xs. take to list ++ xs) (sym (thinned_next level b f rest e))

empty : (xs : List ℕ) → length xs ≡ 0 → xs ≡ []
empty [] e = refl
empty (x ∷ xs) e = absurd (omega arith)

pub thinned_over : (level : Level) (list : List ℕ) (at : ℕ) → length list ≤ at → thinned level (drop at list) ≡ []
thinned_over level list at over =
    let none : length (drop at list) ≡ 0 = omega (arith, over, length-drop at list) in
    thinned_nil level (drop at list) none ∙ empty (drop at list) none

-- where no frame begins, all is moved
pub thinned_end : (level : Level) (list new : List ℕ) (at to n : ℕ) (c : Cause) → at ≤ length list → to ≤ at
    → BadFront (drop at list) c → n ≡ length list - at → new ≡ moved list at to n
    → take (to + n) new ++ thinned level (drop (length list) new) ≡ take to list ++ thinned level (drop at list)
thinned_end level list new at to n c within behind bad n_is new_is =
    let b = drop at list in
    let all : length b ≡ n = omega (arith, length-drop at list, n_is) in
    let room : at + n ≤ length list = omega (arith, n_is, within) in
    let later : drop (length list) new ≡ drop (length list) list =
    ap (drop (length list)) new_is
    ∙ drop_moved list at to n (length list) behind room (omega (arith, n_is, within, behind)) in
    let gone : thinned level (drop (length list) new) ≡ [] =
    ap (thinned level) later ∙ thinned_over level list (length list) (omega arith) in
    ap (λ xs. take (to + n) new ++ xs) gone
    ∙ append-nil (take (to + n) new)
    ∙ ap (take (to + n)) new_is
    ∙ take_moved list at to n behind room
    ∙ ap (λ xs. take to list ++ xs) (take_all n b (omega (arith, all)))
    ∙ ap (λ xs. take to list ++ xs) (sym (bad_left level b c bad))

-- ** a list in a frame

pub nothing_wrapped : (kind p : List ℕ) → length p ≡ 0 → [] ≡ wrapped kind p
nothing_wrapped kind [] e = refl
nothing_wrapped kind (x ∷ p) e = absurd (omega arith)

pub some_wrapped : (kind p : List ℕ) → 0 < length p
    → wrapped kind p ≡ to_le_bytes w16 (4 + length p) ++ (kind ++ p)
some_wrapped kind [] some = absurd (omega arith)
some_wrapped kind (x ∷ p) some = refl

-- the list is thinned, and the length written again
pub wrapped_at : (frame made new q p : List ℕ) (len left m : ℕ) → 4 + len ≤ length frame → m ≡ len
    → made ≡ put_mid 4 m frame q → length q ≡ len → left ≤ length q → take left q ≡ p → 0 < left
    → new ≡ take 0 made ++ to_le_bytes w16 (4 + left) ++ drop 2 made
    → take (4 + left) new ≡ wrapped (take 2 (drop 2 frame)) p
wrapped_at frame made new q p len left m room m_is made_is q_size fits p_is some new_is =
    let kind = take 2 (drop 2 frame) in
    let post = post_of 4 m frame in
    let head = to_le_bytes w16 (4 + left) in
    let p_size : length p ≡ left = ap (λ (xs : List ℕ). length xs) (sym p_is) ∙ length-take-le left q fits in
    let kind_size : length kind ≡ 2 = omega (arith, room, length-take 2 (drop 2 frame), length-drop 2 frame) in
    let two : length (take 2 frame) ≡ 2 = length-take-le 2 frame (omega (arith, room)) in
    let front : take 4 frame ≡ take 2 frame ++ kind = take-add 2 2 frame in
    let behind : drop 2 made ≡ kind ++ (q ++ post) =
    ap (drop 2) (made_is ∙ ap (λ xs. xs ++ (q ++ post)) front ∙ append_assoc (take 2 frame) kind (q ++ post))
    ∙ drop_at (take 2 frame) (kind ++ (q ++ post)) 2 two in
    let cut : q ++ post ≡ p ++ (drop left q ++ post) =
    ap (λ xs. xs ++ post) (sym (take-append-drop left q) ∙ ap (λ xs. xs ++ drop left q) p_is)
    ∙ append_assoc p (drop left q) post in
    let tail = drop left q ++ post in
    let made_so : new ≡ head ++ (kind ++ p) ++ tail =
    new_is ∙ ap (λ xs. head ++ xs) (behind ∙ ap (λ xs. kind ++ xs) cut ∙ sym (append_assoc kind p tail))
    ∙ sym (append_assoc head (kind ++ p) tail) in
    ap (take (4 + left)) made_so
    ∙ take_at (head ++ (kind ++ p)) tail (4 + left)
    (omega (arith, length-append head (kind ++ p), length-append kind p, kind_size, p_size))
    ∙ ap (λ n. to_le_bytes w16 (4 + n) ++ (kind ++ p)) (sym p_size)
    ∙ sym (some_wrapped kind p (omega (arith, p_size, some)))
