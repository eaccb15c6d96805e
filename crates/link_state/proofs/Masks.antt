-- What is filled twice, and which bytes are kept.
use Rattle.std.specs.Prelude.{◌↔◌}
use Rattle.std.proofs.Common.{◌≡◌, ℕ, zero, suc, ◌+◌, ◌<◌, ◌≤◌, List, [], ◌∷◌, ◌++◌, length, take, drop, replicate}
use Rattle.std.proofs.Common.{refl, sym, ap, ap₂, subst, ◌∙◌, arith, append_assoc, inl, inr, Bool, true, false, take_at}
use Rattle.std.proofs.Common.{drop_at}
use Rattle.std.proofs.lemmas.List.{length-append, length-replicate, length-take, length-drop, take_all}
use Rattle.std.proofs.Common.{append-nil, if◌then◌else◌, ◌==◌, eqb-true, ◌-◌}
use Rattle.std.specs.Prelude.{min}
use Rattle.std.proofs.lemmas.List.{take-append-drop}
use Rattle.nla_wire.specs.Items.{items}
use Rattle.nla_wire.proofs.Items.{items_next}
use Rattle.link_state.specs.declared.level.Level.TheVariants.{Info}
use Rattle.std.specs.Int.{w16, to_le_bytes}
use Rattle.nla_wire.specs.Frames.{Frame, number, missing, IsBytes, Begins, unpadded}
use Rattle.nla_wire.specs.Reading.{Step, step}
use Rattle.nla_wire.specs.Reading.Step.{End, Bad, Next}
use Rattle.nla_wire.specs.declared.error.Cause.{Cause}
use Rattle.nla_wire.proofs.Steps.{step_whole, step_begins, step_shorter, step_size, step_end, step_framed}
use Rattle.nla_wire.proofs.Steps.{step_rest_bytes}
use Rattle.nla_wire.proofs.Steps.{length-begins}
use Rattle.link_nest.specs.declared.numbers.TheConstants.{IFLA_INFO_KIND}
use Rattle.link_state.specs.declared.numbers.TheConstants.{IFLA_INFO_SLAVE_KIND}
use Rattle.link_state.specs.Laws.{ListTwice, OneList, ListZeroAtItsMask, ListFilledTwice, ListFilledAtItsMask}
use Rattle.link_state.specs.Laws.{ListMaskStays}
use Rattle.link_state.specs.Kinds.{kind_of, first_kind, kind_at}
use Rattle.link_state.specs.declared.kind.Kind.{Kind}
use Rattle.link_state.specs.Table.{action_of}
use Rattle.link_state.specs.Cleared.{info_level, part, payload_by, filled_on, filled, cleared}
use Rattle.link_state.specs.Masks.{part_mask, payload_mask, mask_on, mask_within, mask, stamp}
use Rattle.link_state.specs.declared.level.Level.{Level}
use Rattle.link_state.specs.Table.{Action}
use Rattle.link_state.specs.Table.Action.{Keep, Clear, ClearPart, Enter, EnterInfo}
use Rattle.link_state.proofs.Walking.{filled_step, filled_next, filled_nil, length-payload_by}
use Rattle.link_state.proofs.Walking.{length_part}
use Rattle.link_state.proofs.Closing.{head_of, acted, filled_frame}

-- ** by the frames of bytes, at all levels

module _ (P : Level → List ℕ → Type 0)
    (at_end : (level : Level) (b : List ℕ) → step b ≡ End → P level b)
    (at_fault : (level : Level) (b : List ℕ) (c : Cause) → step b ≡ Bad c → P level b)
    (at_frame : (level : Level) (b : List ℕ) (f : Frame) (rest : List ℕ) → IsBytes b → step b ≡ Next f rest
    → ((inner : Level) → P inner f.payload) → P level rest → P level b) where
  on_step : (level : Level) (b : List ℕ) (s : Step) → step b ≡ s → IsBytes b
      → ((inner : Level) (c : List ℕ) → length c < length b → IsBytes c → P inner c) → P level b
  on_step level b End e small more = at_end level b e
  on_step level b (Bad c) e small more = at_fault level b c e
  on_step level b (Next f rest) e small more = at_frame level b f rest small e
      (λ inner. more inner f.payload (omega (arith, step_size b f rest e)) (step_framed b f rest small e).bytes)
      (more level rest (step_shorter b f rest e) (step_rest_bytes b f rest small e))

  within : (n : ℕ) (level : Level) (b : List ℕ) → length b < n → IsBytes b → P level b
  within zero level b h small = absurd (omega arith)
  within (suc n) level b h small =
      on_step level b (step b) refl small (λ inner c shorter small_c. within n inner c (omega arith) small_c)

  pub by_frames : (level : Level) (b : List ℕ) → IsBytes b → P level b
  by_frames level b small = within (suc (length b)) level b (omega arith) small

-- ** the frames of what was filled

-- what is kept of the padding is all of it
padding_is : (b : List ℕ) (f : Frame) (rest : List ℕ) (h : Begins b f rest)
    → take (missing (length f.payload)) (drop (4 + length f.payload) b) ≡ h.padding
padding_is b f rest h =
    let k = missing (length f.payload) in
    let whole : length (head_of f ++ f.payload) ≡ 4 + length f.payload = length-append (head_of f) f.payload in
    ap (λ xs. take k (drop (4 + length f.payload) xs)) (h.parts ∙ append_assoc (head_of f ++ f.payload) h.padding rest)
    ∙ ap (take k) (drop_at (head_of f ++ f.payload) (h.padding ++ rest) (4 + length f.payload) whole)
    ∙ elim h.full [
      | inl all ↦ take_at h.padding rest k all
      | inr none ↦ ap (λ r. take k (h.padding ++ r)) none ∙ ap (take k) (append-nil h.padding)
          ∙ take_all k h.padding h.padded
    ]

front_is : (b : List ℕ) (f : Frame) (rest : List ℕ) → Begins b f rest → take 4 b ≡ head_of f
front_is b f rest h =
    ap (take 4) (h.parts ∙ append_assoc (head_of f ++ f.payload) h.padding rest
    ∙ append_assoc (head_of f) f.payload (h.padding ++ rest))
    ∙ take_at (head_of f) (f.payload ++ (h.padding ++ rest)) 4 refl

-- the bytes of one frame, filled
pub spelled : (by : ℕ) (level : Level) (b : List ℕ) (f : Frame) (rest : List ℕ) (h : Begins b f rest)
    → filled by level b ≡ unpadded (filled_frame by level f) ++ h.padding ++ filled by level rest
spelled by level b f rest h =
    let p = payload_by by (filled by) (action_of level (number f)) f.payload in
    filled_next by level b f rest (step_whole b f rest h)
    ∙ ap₂ (λ (front padding : List ℕ). front ++ p ++ padding ++ filled by level rest)
    (front_is b f rest h) (padding_is b f rest h)
    ∙ ap (λ n. to_le_bytes w16 (4 + n) ++ to_le_bytes w16 f.kind ++ p ++ h.padding ++ filled by level rest)
    (sym (length-payload_by by (action_of level (number f)) f.payload))

pub filled_begins : (by : ℕ) (level : Level) (b : List ℕ) (f : Frame) (rest : List ℕ) → Begins b f rest
    → Begins (filled by level b) (filled_frame by level f) (filled by level rest)
filled_begins by level b f rest h =
    let same : length (payload_by by (filled by) (action_of level (number f)) f.payload) ≡ length f.payload =
    length-payload_by by (action_of level (number f)) f.payload in
    record {
      kind = h.kind;
      size = omega (arith, same, h.size);
      padding = h.padding;
      parts = spelled by level b f rest h;
      padded = subst (λ n. length h.padding ≤ missing n) (sym same) h.padded;
      full = elim h.full [
        | inl all ↦ inl (all ∙ ap missing (sym same))
        | inr none ↦ inr (ap (filled by level) none ∙ filled_nil by level [] refl)
      ];
    }

pub filled_goes_on : (by : ℕ) (level : Level) (b : List ℕ) (f : Frame) (rest : List ℕ) → IsBytes b
    → step b ≡ Next f rest
    → step (filled by level b) ≡ Next (filled_frame by level f) (filled by level rest)
filled_goes_on by level b f rest small e =
    step_whole (filled by level b) (filled_frame by level f) (filled by level rest)
    (filled_begins by level b f rest (step_begins b f rest small e))

-- ** kinds

-- a frame of a number that is kept, or else what comes behind it
same_first : (by n : ℕ) (level : Level) (f : Frame) (k l : Kind) → action_of level n ≡ Keep → k ≡ l
    → (t : Bool) → (number f == n) ≡ t
    → (if number f == n then kind_of n (filled_frame by level f).payload else k)
    ≡ (if number f == n then kind_of n f.payload else l)
same_first by n level f k l keeps same true e =
    ap (λ t. if t then kind_of n (filled_frame by level f).payload else k) e
    ∙ ap (λ a. kind_of n (acted by a f).payload) (ap (action_of level) (eqb-true (number f) n e) ∙ keeps)
    ∙ sym (ap (λ t. if t then kind_of n f.payload else l) e)
same_first by n level f k l keeps same false e =
    ap (λ t. if t then kind_of n (filled_frame by level f).payload else k) e ∙ same
    ∙ sym (ap (λ t. if t then kind_of n f.payload else l) e)

-- the frames of a number that is kept name the same kind
kind_kept : (by n : ℕ) (level : Level) (b : List ℕ) → IsBytes b → action_of level n ≡ Keep
    → kind_at n (filled by level b) ≡ kind_at n b
unfolding kind_at
kind_kept by n = by_frames (λ level b. action_of level n ≡ Keep → kind_at n (filled by level b) ≡ kind_at n b)
    (λ level b e keeps. ap (kind_at n) (filled_nil by level b (ap length (step_end b e))))
    (λ level b c e keeps. ap (kind_at n) (filled_step by level b ∙ ap (filled_on by (filled by) level b) e))
    (λ level b f rest small e inside later keeps.
    ap (first_kind n) (items_next (filled by level b) (filled_frame by level f) (filled by level rest)
    (filled_goes_on by level b f rest small e))
    ∙ same_first by n level f (first_kind n (items (filled by level rest))) (first_kind n (items rest)) keeps
    (later keeps) (number f == n) refl
    ∙ sym (ap (first_kind n) (items_next b f rest e)))

level_kept : (by : ℕ) (p : List ℕ) → IsBytes p → info_level (filled by (info_level p) p) ≡ info_level p
level_kept by p small =
    ap₂ Info (kind_kept by IFLA_INFO_KIND (info_level p) p small refl)
    (kind_kept by IFLA_INFO_SLAVE_KIND (info_level p) p small refl)

-- ** a byte by a mask

pub stamp_append : (by : ℕ) (ms ns : List Bool) (a b : List ℕ) → length ms ≡ length a
    → stamp by (ms ++ ns) (a ++ b) ≡ stamp by ms a ++ stamp by ns b
stamp_append by [] ns [] b e = refl
stamp_append by [] ns (x ∷ a) b e = absurd (omega arith)
stamp_append by (m ∷ ms) ns [] b e = absurd (omega arith)
stamp_append by (m ∷ ms) ns (x ∷ a) b e =
    ap (λ ys. (if m then by else x) ∷ ys) (stamp_append by ms ns a b (omega arith))

stamp_none : (by : ℕ) (b : List ℕ) → stamp by (replicate (length b) false) b ≡ b
stamp_none by [] = refl
stamp_none by (x ∷ b) = ap (λ ys. x ∷ ys) (stamp_none by b)

stamp_all : (by : ℕ) (b : List ℕ) → stamp by (replicate (length b) true) b ≡ replicate (length b) by
stamp_all by [] = refl
stamp_all by (x ∷ b) = ap (λ ys. by ∷ ys) (stamp_all by b)

stamp_twice : (by other : ℕ) (ms : List Bool) (b : List ℕ)
    → stamp by ms (stamp other ms b) ≡ stamp by ms b
stamp_twice by other [] b = refl
stamp_twice by other (m ∷ ms) [] = refl
stamp_twice by other (true ∷ ms) (x ∷ b) = ap (λ ys. by ∷ ys) (stamp_twice by other ms b)
stamp_twice by other (false ∷ ms) (x ∷ b) = ap (λ ys. x ∷ ys) (stamp_twice by other ms b)

pub stamp_kept : (by n : ℕ) (b : List ℕ) → length b ≡ n → stamp by (replicate n false) b ≡ b
stamp_kept by n b e = ap (λ i. stamp by (replicate i false) b) (sym e) ∙ stamp_none by b

pub stamp_whole : (by n : ℕ) (b : List ℕ) → length b ≡ n → stamp by (replicate n true) b ≡ replicate (length b) by
stamp_whole by n b e = ap (λ i. stamp by (replicate i true) b) (sym e) ∙ stamp_all by b

-- a part is what its mask says
part_masked : (by from to : ℕ) (p : List ℕ) → (length (part_mask from to (length p)) ≡ length p)
    × (stamp by (part_mask from to (length p)) p ≡ part by from to p)
part_masked by from to p =
    let front = take from (take to p) in
    let middle = drop from (take to p) in
    let a : List Bool = replicate (min from (min to (length p))) false in
    let b : List Bool = replicate (min to (length p) - from) true in
    let c : List Bool = replicate (length p - to) false in
    let cut : length (take to p) ≡ min to (length p) = length-take to p in
    let first : length front ≡ min from (min to (length p)) = length-take from (take to p) ∙ ap (min from) cut in
    let second : length middle ≡ min to (length p) - from = length-drop from (take to p) ∙ ap (λ i. i - from) cut in
    let third : length (drop to p) ≡ length p - to = length-drop to p in
    let a_size = length-replicate (min from (min to (length p))) false in
    let b_size = length-replicate (min to (length p) - from) true in
    let whole : p ≡ front ++ middle ++ drop to p =
    sym (take-append-drop to p) ∙ ap (λ xs. xs ++ drop to p) (sym (take-append-drop from (take to p))) in
    let two : length (a ++ b) ≡ length (front ++ middle) =
    omega (arith, length-append a b, length-append front middle, a_size, b_size, first, second) in (
      omega (
        arith,
        length-append (a ++ b) c,
        length-append a b,
        a_size,
        b_size,
        length-replicate (length p - to) false,
      ),
      ap (stamp by (a ++ b ++ c)) whole
          ∙ stamp_append by (a ++ b) c (front ++ middle) (drop to p) two
          ∙ ap (λ xs. xs ++ stamp by c (drop to p)) (stamp_append by a b front middle (omega (arith, a_size, first)))
          ∙ ap₂ (λ (xs ys : List ℕ). xs ++ ys ++ stamp by c (drop to p)) (stamp_kept by _ front first)
          (stamp_whole by _ middle second)
          ∙ ap (λ ys. front ++ replicate (length middle) by ++ ys) (stamp_kept by _ (drop to p) third),
    )

part_twice : (by other from to : ℕ) (p : List ℕ)
    → part by from to (part other from to p) ≡ part by from to p
part_twice by other from to p =
    let ms = part_mask from to (length p) in
    sym (part_masked by from to (part other from to p)).1
    ∙ ap₂ (stamp by) (ap (part_mask from to) (length_part other from to p)) (sym (part_masked other from to p).1)
    ∙ stamp_twice by other ms p
    ∙ (part_masked by from to p).1

-- ** filled twice

payload_twice : (by other : ℕ) (action : Action) (p : List ℕ) → IsBytes p
    → ((inner : Level) → filled by inner (filled other inner p) ≡ filled by inner p)
    → payload_by by (filled by) action (payload_by other (filled other) action p)
    ≡ payload_by by (filled by) action p
payload_twice by other Keep p small h = refl
payload_twice by other Clear p small h = ap (λ n. replicate n by) (length-replicate (length p) other)
payload_twice by other (ClearPart from to) p small h = part_twice by other from to p
payload_twice by other (Enter inner) p small h = h inner
payload_twice by other EnterInfo p small h =
    ap (λ level. filled by level (filled other (info_level p) p)) (level_kept other p small) ∙ h (info_level p)

twice_frame : (by other : ℕ) (level : Level) (b : List ℕ) (f : Frame) (rest : List ℕ) → IsBytes b
    → step b ≡ Next f rest
    → ((inner : Level) → filled by inner (filled other inner f.payload) ≡ filled by inner f.payload)
    → filled by level (filled other level rest) ≡ filled by level rest
    → filled by level (filled other level b) ≡ filled by level b
unfolding filled_begins
twice_frame by other level b f rest small e inside later =
    let h = step_begins b f rest small e in
    spelled by level (filled other level b) (filled_frame other level f) (filled other level rest)
    (filled_begins other level b f rest h)
    ∙ ap₂ (λ (p r : List ℕ). unpadded (record { kind = f.kind; payload = p }) ++ h.padding ++ r)
    (payload_twice by other (action_of level (number f)) f.payload (step_framed b f rest small e).bytes inside) later
    ∙ sym (spelled by level b f rest h)

pub filled_twice : ListFilledTwice
filled_twice by other = by_frames (λ level b. filled by level (filled other level b) ≡ filled by level b)
    (λ level b e. let none = filled_nil other level b (ap length (step_end b e)) in ap (filled by level) none)
    (λ level b c e. ap (filled by level) (filled_step other level b ∙ ap (filled_on other (filled other) level b) e))
    (twice_frame by other)

pub cleared_twice : ListTwice
cleared_twice = filled_twice 0 0

-- ** the mask

mask_nothing : (level : Level) (n : ℕ) (b : List ℕ) → length b ≡ 0 → mask_within n level b ≡ replicate (length b) false
unfolding mask_within
mask_nothing level zero b e = refl
mask_nothing level (suc n) [] e = refl
mask_nothing level (suc n) (x ∷ b) e = absurd (omega arith)

abbrev Marks : Type 0
Marks = Level → List ℕ → List Bool

payload_marked : (F G : Marks) (action : Action) (p : List ℕ) → ((level : Level) → F level p ≡ G level p)
    → payload_mask F action p ≡ payload_mask G action p
payload_marked F G Keep p same = refl
payload_marked F G Clear p same = refl
payload_marked F G (ClearPart from to) p same = refl
payload_marked F G (Enter level) p same = same level
payload_marked F G EnterInfo p same = same (info_level p)

mask_same : (F G : Marks) (level : Level) (b : List ℕ) (s : Step) → step b ≡ s
    → ((l : Level) (c : List ℕ) → length c < length b → F l c ≡ G l c)
    → mask_on F level b s ≡ mask_on G level b s
mask_same F G level b End e same = refl
mask_same F G level b (Bad c) e same = refl
mask_same F G level b (Next f rest) e same =
    ap₂ (λ (p r : List Bool). replicate 4 false ++ p
    ++ replicate (length (take (missing (length f.payload)) (drop (4 + length f.payload) b))) false ++ r)
    (payload_marked F G (action_of level (number f)) f.payload
    (λ l. same l f.payload (omega (arith, step_size b f rest e))))
    (same level rest (step_shorter b f rest e))

mask_enough : (n m : ℕ) (level : Level) (b : List ℕ) → length b ≤ n → length b ≤ m
    → mask_within n level b ≡ mask_within m level b
unfolding mask_within
mask_enough zero m level b h k = sym (mask_nothing level m b (omega arith))
mask_enough (suc n) zero level b h k = mask_nothing level (suc n) b (omega arith)
mask_enough (suc n) (suc m) level b h k = mask_same (mask_within n) (mask_within m) level b (step b) refl
    (λ l c shorter. mask_enough n m l c (omega arith) (omega arith))

pub mask_step : (level : Level) (b : List ℕ) → mask level b ≡ mask_on mask level b (step b)
unfolding mask mask_within
mask_step level [] = refl
mask_step level (x ∷ b) = mask_same (mask_within (length b)) mask level (x ∷ b) (step (x ∷ b)) refl
    (λ l c shorter. mask_enough (length b) (length c) l c (omega arith) (omega arith))

-- b's mask has a truth value for each byte, and is what is filled
abbrev Masked : ℕ → Level → List ℕ → Type 0
Masked by level b = (length (mask level b) ≡ length b) × (stamp by (mask level b) b ≡ filled by level b)

payload_masked : (by : ℕ) (action : Action) (p : List ℕ) → ((inner : Level) → Masked by inner p)
    → (length (payload_mask mask action p) ≡ length p)
    × (stamp by (payload_mask mask action p) p ≡ payload_by by (filled by) action p)
payload_masked by Keep p h = (length-replicate (length p) false, stamp_none by p)
payload_masked by Clear p h = (length-replicate (length p) true, stamp_all by p)
payload_masked by (ClearPart from to) p h = part_masked by from to p
payload_masked by (Enter inner) p h = h inner
payload_masked by EnterInfo p h = h (info_level p)

stamp_four : (by : ℕ) (m1 m2 m3 m4 : List Bool) (a b c d : List ℕ) → length m1 ≡ length a → length m2 ≡ length b
    → length m3 ≡ length c
    → stamp by (m1 ++ m2 ++ m3 ++ m4) (a ++ b ++ c ++ d)
    ≡ stamp by m1 a ++ stamp by m2 b ++ stamp by m3 c ++ stamp by m4 d
stamp_four by m1 m2 m3 m4 a b c d e1 e2 e3 =
    let two : length (m1 ++ m2) ≡ length (a ++ b) = omega (arith, length-append m1 m2, length-append a b, e1, e2) in
    let three : length (m1 ++ m2 ++ m3) ≡ length (a ++ b ++ c) =
    omega (arith, length-append (m1 ++ m2) m3, length-append (a ++ b) c, two, e3) in
    stamp_append by (m1 ++ m2 ++ m3) m4 (a ++ b ++ c) d three
    ∙ ap (λ xs. xs ++ stamp by m4 d) (stamp_append by (m1 ++ m2) m3 (a ++ b) c two)
    ∙ ap (λ xs. xs ++ stamp by m3 c ++ stamp by m4 d) (stamp_append by m1 m2 a b e1)

mask_at : (level : Level) (b : List ℕ) (f : Frame) (rest : List ℕ) (h : Begins b f rest)
    → mask level b ≡ replicate 4 false ++ payload_mask mask (action_of level (number f)) f.payload
    ++ replicate (length h.padding) false ++ mask level rest
mask_at level b f rest h =
    mask_step level b ∙ ap (mask_on mask level b) (step_whole b f rest h)
    ∙ ap (λ (q : List ℕ). replicate 4 false ++ payload_mask mask (action_of level (number f)) f.payload
    ++ replicate (length q) false ++ mask level rest) (padding_is b f rest h)

masked_frame : (by : ℕ) (level : Level) (b : List ℕ) (f : Frame) (rest : List ℕ) → IsBytes b → step b ≡ Next f rest
    → ((inner : Level) → Masked by inner f.payload) → Masked by level rest → Masked by level b
masked_frame by level b f rest small e inside later =
    let h = step_begins b f rest small e in
    let p = payload_masked by (action_of level (number f)) f.payload inside in
    let pm = payload_mask mask (action_of level (number f)) f.payload in
    let k = replicate (length h.padding) false in
    let ms = replicate 4 false ++ pm ++ k ++ mask level rest in
    let k_size : length k ≡ length h.padding = length-replicate (length h.padding) false in (
      ap (λ (xs : List Bool). length xs) (mask_at level b f rest h)
          ∙ omega (
            arith,
            length-append (replicate 4 false ++ pm ++ k) (mask level rest),
            length-append (replicate 4 false ++ pm) k,
            length-append (replicate 4 false) pm,
            length-replicate 4 false,
            k_size,
            p.0,
            later.0,
            length-begins b f rest h,
          ),
      ap₂ (stamp by) (mask_at level b f rest h) h.parts
          ∙ stamp_four by (replicate 4 false) pm k (mask level rest) (head_of f) f.payload h.padding rest refl p.0
          k_size
          ∙ ap₂ (λ (x y : List ℕ). head_of f ++ x ++ y ++ stamp by (mask level rest) rest) p.1 (stamp_none by h.padding)
          ∙ ap (λ (r : List ℕ). head_of f ++ payload_by by (filled by) (action_of level (number f)) f.payload
          ++ h.padding ++ r) later.1
          ∙ ap (λ n. to_le_bytes w16 (4 + n) ++ to_le_bytes w16 f.kind
          ++ payload_by by (filled by) (action_of level (number f)) f.payload ++ h.padding ++ filled by level rest)
          (sym (length-payload_by by (action_of level (number f)) f.payload))
          ∙ sym (spelled by level b f rest h),
    )

no_frame : (by : ℕ) (level : Level) (b : List ℕ) → mask level b ≡ replicate (length b) false → filled by level b ≡ b
    → Masked by level b
no_frame by level b marks same = (
  ap (λ (xs : List Bool). length xs) marks ∙ length-replicate (length b) false,
  ap (λ ms. stamp by ms b) marks ∙ stamp_none by b ∙ sym same,
)

pub masked : (by : ℕ) (level : Level) (b : List ℕ) → IsBytes b → Masked by level b
masked by = by_frames (Masked by)
    (λ level b e. no_frame by level b (mask_step level b ∙ ap (mask_on mask level b) e)
    (filled_nil by level b (ap length (step_end b e))))
    (λ level b c e. no_frame by level b (mask_step level b ∙ ap (mask_on mask level b) e)
    (filled_step by level b ∙ ap (filled_on by (filled by) level b) e))
    (masked_frame by)

-- ** what is filled is at the same places

payload_kept : (by : ℕ) (action : Action) (p : List ℕ) → IsBytes p
    → ((inner : Level) → mask inner (filled by inner p) ≡ mask inner p)
    → payload_mask mask action (payload_by by (filled by) action p) ≡ payload_mask mask action p
payload_kept by Keep p small h = refl
payload_kept by Clear p small h = ap (λ n. replicate n true) (length-replicate (length p) by)
payload_kept by (ClearPart from to) p small h = ap (part_mask from to) (length_part by from to p)
payload_kept by (Enter inner) p small h = h inner
payload_kept by EnterInfo p small h =
    ap (λ level. mask level (filled by (info_level p) p)) (level_kept by p small) ∙ h (info_level p)

kept_frame : (by : ℕ) (level : Level) (b : List ℕ) (f : Frame) (rest : List ℕ) → IsBytes b → step b ≡ Next f rest
    → ((inner : Level) → mask inner (filled by inner f.payload) ≡ mask inner f.payload)
    → mask level (filled by level rest) ≡ mask level rest
    → mask level (filled by level b) ≡ mask level b
unfolding filled_begins
kept_frame by level b f rest small e inside later =
    let h = step_begins b f rest small e in
    mask_at level (filled by level b) (filled_frame by level f) (filled by level rest)
    (filled_begins by level b f rest h)
    ∙ ap₂ (λ (p r : List Bool). replicate 4 false ++ p ++ replicate (length h.padding) false ++ r)
    (payload_kept by (action_of level (number f)) f.payload (step_framed b f rest small e).bytes inside) later
    ∙ sym (mask_at level b f rest h)

pub mask_kept : ListMaskStays
mask_kept by = by_frames (λ level b. mask level (filled by level b) ≡ mask level b)
    (λ level b e. ap (mask level) (filled_nil by level b (ap length (step_end b e))))
    (λ level b c e. ap (mask level) (filled_step by level b ∙ ap (filled_on by (filled by) level b) e))
    (kept_frame by)

-- two texts become the same one exactly where they have one mask, and are equal outside of it
pub one_mask : (by : ℕ) (clear : List ℕ → List ℕ) (marks : List ℕ → List Bool) (a b : List ℕ)
    → stamp by (marks a) a ≡ clear a → stamp by (marks b) b ≡ clear b
    → marks (clear a) ≡ marks a → marks (clear b) ≡ marks b
    → (clear a ≡ clear b) ↔ ((marks a ≡ marks b) × (stamp by (marks a) a ≡ stamp by (marks a) b))
one_mask by clear marks a b clear_a clear_b kept_a kept_b = (
  λ e.
      let same : marks a ≡ marks b = sym kept_a ∙ ap marks e ∙ kept_b in
      (same, clear_a ∙ e ∙ sym clear_b ∙ ap (λ ms. stamp by ms b) (sym same)),
  λ h. sym clear_a ∙ h.1 ∙ ap (λ ms. stamp by ms b) h.0 ∙ clear_b,
)

pub one_list : OneList
one_list level a b small_a small_b =
    one_mask 0 (cleared level) (mask level) a b (masked 0 level a small_a).1 (masked 0 level b small_b).1
    (mask_kept 0 level a small_a) (mask_kept 0 level b small_b)

pub zero_at_its_mask : ListZeroAtItsMask
zero_at_its_mask = masked 0

pub filled_at_its_mask : ListFilledAtItsMask
filled_at_its_mask by level b small = (masked by level b small).1
