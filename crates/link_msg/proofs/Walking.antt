-- The walk to the first fault of a list: what it has gone past, and what is left.
use Rattle.std.proofs.Common.{◌≡◌, ℕ, ◌+◌, ◌%◌, ◌≤◌, ◌⊎◌, inl, inr, List, [], ◌∷◌, ◌++◌, length, refl, ap, sym, ◌∙◌}
use Rattle.std.proofs.Common.{subst, append_assoc, append-nil, length-append, arith, Some, None, Result, Ok}
use Rattle.std.proofs.Common.{Err}
use Rattle.nla_wire.specs.Frames.{Frame, number, IsBytes, IsFrame, unpadded, missing, Begins, Frames, BadStart}
use Rattle.nla_wire.specs.Reading.{Step, step}
use Rattle.nla_wire.specs.Reading.Step.{End, Bad, Next}
use Rattle.nla_wire.specs.Grammar.{Grammar, Agrees, drops}
use Rattle.nla_wire.specs.Items.{Item, items}
use Rattle.std.specs.List.{AllByRecursion}
use Rattle.link_msg.specs.Nested.{Accepts, Refuses}
use Rattle.link_msg.specs.FaultAt.{IsFirstFault, AllAccepted}
use Rattle.nla_wire.specs.declared.error.Cause.{Cause}
use Rattle.std.proofs.Common.{Bool, true, false}
use Rattle.std.specs.Result.{is_err}
use Rattle.nla_wire.specs.Gives.{Checks}
use Rattle.nla_wire.specs.declared.error.DecodeError.{DecodeError}
use Rattle.nla_wire.proofs.Loop.{given}
use Rattle.nla_wire.proofs.Steps.{step_begins, step_bad, step_end, begins_framed, length-begins, IsBytes-begins}
use Rattle.nla_wire.proofs.Items.{items_nil, items_next, items_bad}
use Rattle.nla_wire.proofs.Joined.{frames_join}
use Rattle.link_msg.proofs.FirstFaults.{bad_some}

-- ** the item at the front

front_frame : (b : List ℕ) (s : Step) (f : Frame) (xs : List Item) → step b ≡ s → IsBytes b → items b ≡ Ok f ∷ xs
    → (rest : List ℕ) × Begins b f rest × (xs ≡ items rest)
front_frame b End f xs e bytes is = let clash = sym items_nil ∙ ap items (sym (step_end b e)) ∙ is in absurd cc
front_frame b (Bad c) f xs e bytes is = let clash = sym (items_bad b c e) ∙ is in absurd cc
front_frame b (Next g rest) f xs e bytes is =
    let same = sym (items_next b g rest e) ∙ is in
    let frame : g ≡ f = cc in
    let after : items rest ≡ xs = cc in
    (rest, step_begins b f rest bytes (e ∙ ap (λ k. Next k rest) frame), sym after)

front_fault : (b : List ℕ) (s : Step) (c : Cause) (xs : List Item) → step b ≡ s → items b ≡ Err c ∷ xs → BadStart b c
front_fault b End c xs e is = let clash = sym items_nil ∙ ap items (sym (step_end b e)) ∙ is in absurd cc
front_fault b (Bad d) c xs e is =
    let same = sym (items_bad b d e) ∙ is in
    let cause : d ≡ c = cc in
    step_bad b c (e ∙ ap Bad cause)
front_fault b (Next g rest) c xs e is = let clash = sym (items_next b g rest e) ∙ is in absurd cc

front_end : (b : List ℕ) (s : Step) → step b ≡ s → items b ≡ [] → b ≡ []
front_end b End e is = step_end b e
front_end b (Bad d) e is = let clash = sym (items_bad b d e) ∙ is in absurd cc
front_end b (Next g rest) e is = let clash = sym (items_next b g rest e) ∙ is in absurd cc

all_join : {X : Type 0} (P : X → Type 0) (xs ys : List X) → AllByRecursion P xs → AllByRecursion P ys
    → AllByRecursion P (xs ++ ys)
all_join P [] ys h k = k
all_join P (x ∷ xs) ys h k = (h.0, all_join P xs ys h.1 k)

-- ** the walk

-- b is bytes that were gone past, `at` of them, and others with these items
pub record Reached (b : List ℕ) (left : List Item) (at : ℕ) : Type 0 where
  pub before : List ℕ
  pub later : List ℕ
  pub parts : b ≡ before ++ later
  pub bytes : IsBytes later
  pub items_left : left ≡ items later
  pub spot : ((at ≡ length before) × (at % 4 ≡ 0)) ⊎ (later ≡ [])
  pub bound : at ≤ length b + 3

abbrev pub reached_start : (b : List ℕ) (left : List Item) → IsBytes b → left ≡ items b → Reached b left 0
reached_start b left bytes is = record {
  before = [];
  later = b;
  parts = refl;
  bytes = bytes;
  items_left = is;
  spot = inl (refl, refl);
  bound = omega arith;
}

at_spot : (b : List ℕ) (left : List Item) (at : ℕ) (w : Reached b left at) → 1 ≤ length w.later
    → (at ≡ length w.before) × (at % 4 ≡ 0)
at_spot b left at w some =
    elim w.spot [ inl spot ↦ spot | inr ended ↦ absurd (omega (arith, ap (λ (x : List ℕ). length x) ended, some)) ]

-- what a frame spells, with the padding that is there
pub spelling : (b : List ℕ) (f : Frame) (rest : List ℕ) → Begins b f rest → List ℕ
spelling b f rest h = unpadded f ++ h.padding

spelt : (b : List ℕ) (f : Frame) (rest : List ℕ) (h : Begins b f rest) → b ≡ spelling b f rest h ++ rest
unfolding spelling
spelt b f rest h = h.parts

spelling_size : (b : List ℕ) (f : Frame) (rest : List ℕ) (h : Begins b f rest)
    → length (spelling b f rest h) ≡ 4 + length f.payload + length h.padding
spelling_size b f rest h =
    omega (
      arith,
      length-begins b f rest h,
      ap (λ (x : List ℕ). length x) (spelt b f rest h),
      length-append (spelling b f rest h) rest,
    )

-- a frame alone, with the padding that is there
spelling_begins : (b : List ℕ) (f : Frame) (rest : List ℕ) (h : Begins b f rest) → Begins (spelling b f rest h) f []
unfolding spelling
spelling_begins b f rest h = record {
  kind = h.kind;
  size = h.size;
  padding = h.padding;
  parts = sym (append-nil (unpadded f ++ h.padding));
  padded = h.padded;
  full = inr refl;
}

module _ (b : List ℕ) (left : List Item) (at : ℕ) (w : Reached b left at) where
  whole_size : length b ≡ length w.before + length w.later
  whole_size = ap (λ (x : List ℕ). length x) w.parts ∙ length-append w.before w.later

  module _ (f : Frame) (xs : List Item) (is : left ≡ Ok f ∷ xs) where
    pub next_frame : (rest : List ℕ) × Begins w.later f rest × (xs ≡ items rest)
    next_frame = front_frame w.later (step w.later) f xs refl w.bytes (sym w.items_left ∙ is)

    next_size : length w.later ≡ 4 + length f.payload + length next_frame.1.padding + length next_frame.0
    next_size = length-begins w.later f next_frame.0 next_frame.1

    pub frame_spot : (at ≡ length w.before) × (at % 4 ≡ 0)
    frame_spot = at_spot b left at w (omega (arith, next_size))

    -- the frame stands inside of the bytes
    pub frame_fits : at + 4 + length f.payload ≤ length b
    frame_fits = omega (arith, next_size, whole_size, frame_spot.0)

    abbrev past : List ℕ
    past = w.before ++ spelling w.later f next_frame.0 next_frame.1

    pub past_parts : b ≡ past ++ next_frame.0
    past_parts =
        w.parts ∙ ap (λ (x : List ℕ). w.before ++ x) (spelt w.later f next_frame.0 next_frame.1)
        ∙ sym (append_assoc w.before (spelling w.later f next_frame.0 next_frame.1) next_frame.0)

    pub past_spot : (p : ℕ) → p ≡ 4 + length f.payload + missing (length f.payload)
        → (length next_frame.1.padding ≡ missing (length f.payload)) ⊎ (next_frame.0 ≡ [])
        → ((at + p ≡ length past) × ((at + p) % 4 ≡ 0)) ⊎ (next_frame.0 ≡ [])
    past_spot p is_p (inl full) =
        inl (
          omega (
            arith,
            is_p,
            full,
            frame_spot.0,
            spelling_size w.later f next_frame.0 next_frame.1,
            length-append w.before (spelling w.later f next_frame.0 next_frame.1),
          ),
          omega (arith, is_p, frame_spot.1),
        )
    past_spot p is_p (inr ended) = inr ended

    abbrev pub reached_on : (p : ℕ) → p ≡ 4 + length f.payload + missing (length f.payload) → Reached b xs (at + p)
    reached_on p is_p = record {
      before = past;
      later = next_frame.0;
      parts = past_parts;
      bytes = (IsBytes-begins w.later f next_frame.0 next_frame.1 w.bytes).1;
      items_left = next_frame.2;
      spot = past_spot p is_p next_frame.1.full;
      bound = omega (arith, is_p, frame_fits);
    }

-- ** what a check tells

module _ {V : Type 0} (read : Result V Cause) where
  pub told_err : (r : Result Unit DecodeError) → is_err r ≡ true → Checks r read → (c : Cause) × (read ≡ Err c)
  told_err (Ok x) e checks = absurd cc
  told_err (Err x) e checks = (x.cause, checks)

  pub told_ok : (r : Result Unit DecodeError) → is_err r ≡ false → Checks r read → (v : V) × (read ≡ Ok v)
  told_ok (Ok x) e checks = given read checks
  told_ok (Err x) e checks = absurd cc

-- ** the walk over frames that are accepted

pub record Walking (accepts : Frame → Type 0) (b : List ℕ) (left : List Item) (at : ℕ) : Type 0 where
  pub reached : Reached b left at
  pub accepted : AllAccepted accepts reached.before

module _ (accepts : Frame → Type 0) (refuses : Frame → Cause → Type 0) (b : List ℕ) where
  pub walk_starts : (left : List Item) → IsBytes b → left ≡ items b → Walking accepts b left 0
  walk_starts left bytes is = record { reached = reached_start b left bytes is; accepted = ([], refl, tt) }

  module _ (left : List Item) (at : ℕ) (w : Walking accepts b left at) where
    -- at the end all is accepted
    pub walk_ends : left ≡ [] → AllAccepted accepts b
    walk_ends is =
        let none = front_end w.reached.later (step w.reached.later) refl (sym w.reached.items_left ∙ is) in
        let whole : b ≡ w.reached.before = w.reached.parts ∙ ap (λ (x : List ℕ). w.reached.before ++ x) none
        ∙ append-nil w.reached.before in
        subst (λ x. AllAccepted accepts x) (sym whole) w.accepted

    -- bytes that are no frame
    pub walk_faults : (c : Cause) (xs : List Item) → left ≡ Err c ∷ xs → IsFirstFault accepts refuses b c at None
    walk_faults c xs is =
        let bad = front_fault w.reached.later (step w.reached.later) c xs refl (sym w.reached.items_left ∙ is) in
        let spot = at_spot b left at w.reached (bad_some w.reached.later c bad) in
        record {
          before = w.reached.before;
          later = w.reached.later;
          parts = w.reached.parts;
          at_end = spot.0;
          aligned = spot.1;
          frames = w.accepted.0;
          spelt = w.accepted.1;
          accepted = w.accepted.2;
          alone = bad;
        }

    module _ (f : Frame) (xs : List Item) (is : left ≡ Ok f ∷ xs) where
      pub walk_frame : IsFrame f
      walk_frame =
          let next = next_frame b left at w.reached f xs is in
          begins_framed w.reached.later f next.0 next.1 w.reached.bytes

      -- a frame that is refused
      pub walk_refuses : (c : Cause) → refuses f c → IsFirstFault accepts refuses b c at (Some f)
      walk_refuses c refused =
          let next = next_frame b left at w.reached f xs is in
          let spot = frame_spot b left at w.reached f xs is in
          record {
            before = w.reached.before;
            later = w.reached.later;
            parts = w.reached.parts;
            at_end = spot.0;
            aligned = spot.1;
            frames = w.accepted.0;
            spelt = w.accepted.1;
            accepted = w.accepted.2;
            alone = (next.0, next.1, refused);
          }

      -- a frame that is accepted
      pub walk_on : accepts f → (p : ℕ) → p ≡ 4 + length f.payload + missing (length f.payload)
          → Walking accepts b xs (at + p)
      walk_on fine p is_p =
          let next = next_frame b left at w.reached f xs is in
          let spot = frame_spot b left at w.reached f xs is in
          let alone : Frames (spelling w.reached.later f next.0 next.1) (f ∷ []) =
          ([], spelling_begins w.reached.later f next.0 next.1, refl) in
          record {
            reached = reached_on b left at w.reached f xs is p is_p;
            accepted = (
              w.accepted.0 ++ f ∷ [],
              frames_join w.reached.before (spelling w.reached.later f next.0 next.1) w.accepted.0 (f ∷ [])
                  (omega (arith, spot.0, spot.1)) w.accepted.1 alone,
              all_join accepts w.accepted.0 (f ∷ []) w.accepted.2 (fine, tt),
            );
          }

-- ** frames at a place

pub drop_accepted : {V : Type 0} (place : Grammar Frame V) (picks : Bool) (f : Frame)
    → drops picks (number f) ≡ true → Accepts picks place f
drop_accepted place picks f dropped kept = let clash = sym dropped ∙ kept in absurd cc

module _ {V : Type 0} (place : Grammar Frame V) (agrees : Agrees IsFrame place) (f : Frame) (one : IsFrame f)
    (picks : Bool) where
  pub read_accepted : (v : V) → place.reads f ≡ Ok v → Accepts picks place f
  read_accepted v read kept = (v, agrees.found f v one read)

  pub read_refused : (c : Cause) → drops picks (number f) ≡ false → place.reads f ≡ Err c → Refuses picks place f c
  read_refused c kept read = (kept, agrees.fault f c one read)
