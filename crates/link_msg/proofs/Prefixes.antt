-- The copied prefix of a list: a walk over the list's items tells it, and it is copied.
use Rattle.std.proofs.Common.{◌≡◌, ℕ, ◌+◌, ◌-◌, ◌≤◌, inl, inr, List, [], ◌∷◌, ◌++◌, append_assoc}
use Rattle.std.proofs.Common.{length, take, drop, replicate, flat_map, refl, ap, sym, ◌∙◌, subst, arith}
use Rattle.std.proofs.Common.{Result, Ok, Err, length-append}
use Rattle.std.proofs.lemmas.List.{take-append-drop, length-take-le, take_at, drop_at}
use Rattle.std.specs.List.{AllByRecursion}
use borrow.Rule.Slice.PartMut.{put_mid}
use Rattle.nla_wire.specs.Frames.{Frame, IsBytes, missing, unpadded, Begins}
use Rattle.nla_wire.specs.Reading.{Step, step, list_of, with_front}
use Rattle.nla_wire.specs.Reading.Step.{End, Bad, Next}
use Rattle.nla_wire.specs.Items.{Item, items, read_items}
use Rattle.nla_wire.specs.Canon.{canon, HasRoom, Rewrites, Writes}
use Rattle.nla_wire.specs.declared.error.Cause.{Cause}
use Rattle.nla_wire.proofs.Items.{list_items, items_nil, items_next, items_bad}
use Rattle.nla_wire.proofs.Loop.{items_start, items_more}
use Rattle.nla_wire.proofs.Steps.{step_end, step_begins, length-begins, bytes_right}
use Rattle.nla_wire.proofs.Written.{flat_more, flat_joined, all_more, Counted}
use Rattle.nla_wire.proofs.Canonical.{write_on}
use Rattle.link_msg.specs.Prefixes.{IsPadded, TextPrefix}

-- ** the frame in front

head_on : (b : List ℕ) (f : Frame) (rest : List Item) (s : Step) → step b ≡ s → items b ≡ Ok f ∷ rest
    → (r : List ℕ) × (step b ≡ Next f r) × (rest ≡ items r)
head_on b f rest End e is = let none = sym items_nil ∙ ap items (sym (step_end b e)) ∙ is in absurd cc
head_on b f rest (Bad c) e is = let none = sym (items_bad b c e) ∙ is in absurd cc
head_on b f rest (Next g r) e is =
    let both = sym (items_next b g r e) ∙ is in
    let same : g ≡ f = cc in
    let remaining : items r ≡ rest = cc in
    (r, e ∙ ap (λ k. Next k r) same, sym remaining)

-- what the first item is read from
items_head : (b : List ℕ) (f : Frame) (rest : List Item) → IsBytes b → items b ≡ Ok f ∷ rest
    → (r : List ℕ) × Begins b f r × (rest ≡ items r)
items_head b f rest small is =
    let k = head_on b f rest (step b) refl is in
    (k.0, step_begins b f k.0 small k.1, k.2)

-- with all of its padding, and that zeros, the frame is its text
canon_first : (b : List ℕ) (f : Frame) (rest : List ℕ) → Begins b f rest → IsPadded b (4 + length f.payload)
    → b ≡ canon f ++ rest
canon_first b f rest h padded =
    let gap : missing (4 + length f.payload) ≡ missing (length f.payload) = omega arith in
    let header : length (unpadded f) ≡ 4 + length f.payload = omega arith in
    let short : length rest ≡ 0 → length h.padding ≡ missing (length f.payload) =
    λ none. omega (arith, none, padded.0, h.padded, length-begins b f rest h) in
    let size : length h.padding ≡ missing (length f.payload) =
    elim h.full [ inl all ↦ all | inr none ↦ short (ap (λ (t : List ℕ). length t) none) ] in
    let remaining : drop (4 + length f.payload) b ≡ h.padding ++ rest =
    ap (drop (4 + length f.payload)) (h.parts ∙ append_assoc (unpadded f) h.padding rest)
    ∙ drop_at (unpadded f) (h.padding ++ rest) (4 + length f.payload) header in
    let zeros : h.padding ≡ replicate (missing (length f.payload)) 0 =
    sym (ap (take (missing (length f.payload))) remaining ∙ take_at h.padding rest (missing (length f.payload)) size)
    ∙ ap (λ n. take n (drop (4 + length f.payload) b)) (sym gap) ∙ padded.1 ∙ ap (λ n. replicate n 0) gap in
    h.parts ∙ ap (λ (t : List ℕ). unpadded f ++ t ++ rest) zeros

-- ** the walk

-- the values in front are good and have the prefix as their text, and the items that are left are those of the bytes
-- after
pub record Running {V : Type 0} (read : Frame → Result V Cause) (text : V → List ℕ) (Good : V → Type 0) (b : List ℕ)
    (left : List Item) (prefix : ℕ) : Type 0 where
  pub front : List V
  pub so_far : with_front front (read_items read left) ≡ list_of read b
  pub left_is : left ≡ items (drop prefix b)
  pub text_is : flat_map text front ≡ take prefix b
  pub within : prefix ≤ length b
  pub good : AllByRecursion Good front

pub prefix_starts : {V : Type 0} (read : Frame → Result V Cause) (text : V → List ℕ) (Good : V → Type 0) (b : List ℕ)
    (left : List Item) → left ≡ items b → Running read text Good b left 0
prefix_starts read text Good b left left_is = record {
  front = [];
  so_far = ap (λ (xs : List Item). with_front [] (read_items read xs)) left_is ∙ items_start read b;
  left_is = left_is;
  text_is = refl;
  within = omega arith;
  good = tt;
}

-- the next frame is a good value's own text, with all of its padding
pub prefix_on : {V : Type 0} (read : Frame → Result V Cause) (text : V → List ℕ) (Good : V → Type 0) (b : List ℕ)
    (left : List Item) (prefix : ℕ) → Running read text Good b left prefix → IsBytes b
    → (f : Frame) (rest : List Item) → left ≡ Ok f ∷ rest → (v : V) → read f ≡ Ok v → Good v → text v ≡ canon f
    → IsPadded (drop prefix b) (4 + length f.payload) → (new : ℕ) → new ≡ prefix + length (canon f)
    → Running read text Good b rest new
prefix_on {V} read text Good b left prefix h small f rest left_is v reads good spelled padded new new_is =
    let remaining : IsBytes (drop prefix b) =
    bytes_right (take prefix b) (drop prefix b) (subst IsBytes (sym (take-append-drop prefix b)) small) in
    let k = items_head (drop prefix b) f rest remaining (sym h.left_is ∙ left_is) in
    let whole : drop prefix b ≡ text v ++ k.0 =
    canon_first (drop prefix b) f k.0 k.1 padded ∙ ap (λ (t : List ℕ). t ++ k.0) (sym spelled) in
    let taken : length (take prefix b) ≡ prefix = length-take-le prefix b h.within in
    let all : b ≡ (take prefix b ++ text v) ++ k.0 =
    sym (take-append-drop prefix b) ∙ ap (λ (t : List ℕ). take prefix b ++ t) whole
    ∙ sym (append_assoc (take prefix b) (text v) k.0) in
    let size : length (take prefix b ++ text v) ≡ new =
    omega (
      arith,
      length-append (take prefix b) (text v),
      taken,
      new_is,
      ap (λ (t : List ℕ). length t) spelled,
    ) in
    let ahead : take new b ≡ take prefix b ++ text v = ap (take new) all ∙ take_at
    (take prefix b ++ text v) k.0 new size in
    let left_over : drop new b ≡ k.0 = ap (drop new) all ∙ drop_at (take prefix b ++ text v) k.0 new size in
    record {
      front = h.front ++ v ∷ [];
      so_far = items_more read h.front left (list_of read b) h.so_far f rest v left_is reads;
      left_is = k.2 ∙ ap items (sym left_over);
      text_is = flat_more text h.front v ∙ ap (λ (t : List ℕ). t ++ text v) h.text_is ∙ sym ahead;
      within = omega (arith, size, length-append (take prefix b ++ text v) k.0, ap (λ (t : List ℕ). length t) all);
      good = all_more Good h.front v h.good good;
    }

-- wherever the walk stops
pub prefix_told : {V : Type 0} (read : Frame → Result V Cause) (text : V → List ℕ) (Good : V → Type 0) (b : List ℕ)
    (left : List Item) (prefix : ℕ) → Running read text Good b left prefix
    → (r : TextPrefix read text b prefix) × AllByRecursion Good r.front
prefix_told read text Good b left prefix h = (
  record {
    front = h.front;
    parts =
        ap (with_front h.front) (list_items read (drop prefix b))
        ∙ ap (λ (xs : List Item). with_front h.front (read_items read xs)) (sym h.left_is) ∙ h.so_far;
    text_is = h.text_is;
    within = h.within;
  },
  h.good,
)

-- ** what stands after the prefix

pub all_after : {V : Type 0} (P : V → Type 0) (front others : List V) → AllByRecursion P (front ++ others)
    → AllByRecursion P others
all_after P [] others all = all
all_after P (v ∷ front) others all = all_after P front others all.1

pub all_both : {V : Type 0} (P : V → Type 0) (front others : List V) → AllByRecursion P front
    → AllByRecursion P others → AllByRecursion P (front ++ others)
all_both P [] others all more = more
all_both P (v ∷ front) others all more = (all.0, all_both P front others all.1 more)

module _ {V : Type 0} (read : Frame → Result V Cause) (text : V → List ℕ) (b : List ℕ) (prefix : ℕ)
    (h : TextPrefix read text b prefix) where
  -- the whole list is read as what the rest is read as, after the values in front
  pub whole_from : (r : Result (List V) Cause) → list_of read (drop prefix b) ≡ r
      → list_of read b ≡ with_front h.front r
  whole_from r e = sym h.parts ∙ ap (with_front h.front) e

  taken : prefix ≡ length (flat_map text h.front)
  taken = sym (length-take-le prefix b h.within) ∙ ap (λ (t : List ℕ). length t) (sym h.text_is)

  pub prefix_sizes : (others : List V)
      → length (flat_map text (h.front ++ others)) ≡ prefix + length (flat_map text others)
  prefix_sizes others =
      omega (
        arith,
        taken,
        ap (λ (t : List ℕ). length t) (flat_joined text h.front others),
        length-append (flat_map text h.front) (flat_map text others),
      )

-- ** writing

-- a list that has room is read, and so is the rest of it after the prefix
pub record Begun {V : Type 0} (read : Frame → Result V Cause) (b : List ℕ) (prefix : ℕ) (front : List V) : Type 0 where
  pub others : List V
  pub others_are : list_of read (drop prefix b) ≡ Ok others
  pub whole_is : list_of read b ≡ Ok (front ++ others)

module _ {V : Type 0} (read : Frame → Result V Cause) (text : V → List ℕ) (fits : V → Type 0) (b : List ℕ)
    (prefix : ℕ) (h : TextPrefix read text b prefix) (room : ℕ)
    (there : HasRoom (flat_map text) (Counted text fits) (list_of read b) room) where
  begun_by : (r : Result (List V) Cause) → list_of read (drop prefix b) ≡ r → Begun read b prefix h.front
  begun_by (Ok others) e =
      record { others = others; others_are = e; whole_is = whole_from read text b prefix h (Ok others) e }
  begun_by (Err c) e = absurd (subst (λ r. HasRoom (flat_map text) (Counted text fits) r room)
      (whole_from read text b prefix h (Err c) e) there)

  begun : Begun read b prefix h.front
  begun = begun_by (list_of read (drop prefix b)) refl

  room_there : Counted text fits (h.front ++ begun.others) × (length (flat_map text (h.front ++ begun.others)) ≤ room)
  room_there = subst (λ r. HasRoom (flat_map text) (Counted text fits) r room) begun.whole_is there

  pub prefix_within : prefix ≤ room
  prefix_within = omega (arith, room_there.1, prefix_sizes read text b prefix h begun.others)

  module _ (rest : List ℕ) (rest_is : rest ≡ drop prefix b) where
    -- what is left of the room is enough for the others
    pub prefix_room : (left : ℕ) → room ≤ prefix + left
        → HasRoom (flat_map text) (Counted text fits) (list_of read rest) left
    prefix_room left enough =
        let k = room_there in
        let sizes = prefix_sizes read text b prefix h begun.others in
        subst (λ r. HasRoom (flat_map text) (Counted text fits) r left)
        (sym (ap (list_of read) rest_is ∙ begun.others_are)) (
          (all_after fits h.front begun.others k.0.0, omega (arith, k.0.1, sizes)),
          omega (arith, k.1, sizes, enough),
        )

    -- the text of the others is written after the prefix, before which something else stands
    pub prefix_writes : (head old now part : List ℕ) (at n : ℕ) → Writes (head ++ take prefix b) old now at
        → Rewrites (flat_map text) (list_of read rest) (take (length now - at) (drop at now)) part n
        → Rewrites (λ vs. head ++ flat_map text vs) (list_of read b) old
        (put_mid at (length now - at) now part) (at + n)
    prefix_writes head old now part at n before w =
        let remaining : Writes (flat_map text begun.others) (take (length now - at) (drop at now)) part n =
        subst (λ r. Rewrites (flat_map text) r (take (length now - at) (drop at now)) part n)
        (ap (list_of read) rest_is ∙ begun.others_are) w in
        let joined : (head ++ take prefix b) ++ flat_map text begun.others
        ≡ head ++ flat_map text (h.front ++ begun.others) =
        append_assoc head (take prefix b) (flat_map text begun.others)
        ∙ ap (λ (t : List ℕ). head ++ (t ++ flat_map text begun.others)) (sym h.text_is)
        ∙ ap (λ (t : List ℕ). head ++ t) (sym (flat_joined text h.front begun.others)) in
        subst (λ r. Rewrites (λ vs. head ++ flat_map text vs) r old
        (put_mid at (length now - at) now part) (at + n)) (sym begun.whole_is)
        (subst (λ t. Writes t old (put_mid at (length now - at) now part) (at + n)) joined
        (write_on (head ++ take prefix b) (flat_map text begun.others) old now part at n before remaining))
