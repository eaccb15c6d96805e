-- The loops that measure the encodings of a list's members, and that write them to the front of a buffer.
use Rattle.std.proofs.Common.{◌≡◌, ℕ, ◌+◌, ◌-◌, ◌*◌, ◌/◌, ◌^◌, ◌<◌, ◌≤◌, ◌==◌, false, List, [], ◌∷◌, ◌++◌}
use Rattle.std.proofs.Common.{append_assoc, append-nil, length, take, drop, flat_map, refl, ap, sym, ◌∙◌, subst, arith}
use Rattle.std.proofs.Common.{Option, lt-ltb, le-ltb, Some, None, Result, Ok, Err, length-append, length-take}
use Rattle.std.proofs.Common.{length-drop}
use Rattle.std.specs.List.{AllByRecursion}
use borrow.Rule.Slice.PartMut.{put_mid}
use Rattle.nla_wire.specs.Sizes.{most_payload, growth, growth_per_byte}
use Rattle.nla_wire.specs.Frames.{Frame, missing, IsFrame}
use Rattle.nla_wire.specs.Payloads.{read_sized}
use Rattle.nla_wire.specs.Reading.{with_front, ◌>>=◌}
use Rattle.nla_wire.specs.Items.{Item, read_items}
use Rattle.nla_wire.specs.Grammar.{Grammar, Agrees, unless_empty}
use Rattle.nla_wire.specs.Canon.{canon, Writes, Weighs, HasRoom, Rewrites, RoomWhereFit, Canonical}
use Rattle.nla_wire.specs.declared.error.Cause.{Cause}
use Rattle.nla_wire.proofs.Loop.{front_none, items_more}
use Rattle.nla_wire.proofs.Bounds.{length-canon}
use Rattle.nla_wire.proofs.Canonical.{write_on, lent_back, finished_value}

-- ** lists one longer

pub flat_more : {V : Type 0} (encoding : V → List ℕ) (front : List V) (v : V)
    → flat_map encoding (front ++ v ∷ []) ≡ flat_map encoding front ++ encoding v
flat_more encoding [] v = append-nil (encoding v)
flat_more encoding (x ∷ front) v = ap (λ (t : List ℕ). encoding x ++ t) (flat_more encoding front v)
    ∙ sym (append_assoc (encoding x) (flat_map encoding front) (encoding v))

pub flat_joined : {V : Type 0} (encoding : V → List ℕ) (front : List V) (vs : List V)
    → flat_map encoding (front ++ vs) ≡ flat_map encoding front ++ flat_map encoding vs
flat_joined encoding [] vs = refl
flat_joined encoding (x ∷ front) vs = ap (λ (t : List ℕ). encoding x ++ t) (flat_joined encoding front vs)
    ∙ sym (append_assoc (encoding x) (flat_map encoding front) (flat_map encoding vs))

pub all_more : {V : Type 0} (fits : V → Type 0) (front : List V) (v : V) → AllByRecursion fits front → fits v
    → AllByRecursion fits (front ++ v ∷ [])
all_more fits [] v all one = (one, tt)
all_more fits (x ∷ front) v all one = (all.0, all_more fits front v all.1 one)

pub all_here : {V : Type 0} (fits : V → Type 0) (front : List V) (v : V) (vs : List V)
    → AllByRecursion fits (front ++ v ∷ vs) → fits v
all_here fits [] v vs all = all.0
all_here fits (x ∷ front) v vs all = all_here fits front v vs all.1

-- ** measuring

-- each of the values fits, and the length of their encodings is a machine's
abbrev pub Counted : {V : Type 0} → (V → List ℕ) → (V → Type 0) → List V → Type 0
Counted encoding fits vs = AllByRecursion fits vs × (length (flat_map encoding vs) < 2 ^ 64)

-- the values in front were measured, and those of the items left are still to come
pub record Weighing {V : Type 0} (read : Frame → Result V Cause) (encoding : V → List ℕ) (fits : V → Type 0)
    (whole : Result (List V) Cause) (left : List Item) (len : ℕ) : Type 0 where
  pub front : List V
  pub so_far : with_front front (read_items read left) ≡ whole
  pub fit : AllByRecursion fits front
  pub len_is : len ≡ length (flat_map encoding front)
  pub counted : len < 2 ^ 64

pub weighing_starts : {V : Type 0} (read : Frame → Result V Cause) (encoding : V → List ℕ) (fits : V → Type 0)
    (whole : Result (List V) Cause) (left : List Item)
    → read_items read left ≡ whole → Weighing read encoding fits whole left 0
weighing_starts read encoding fits whole left is = record {
  front = [];
  so_far = front_none (read_items read left) ∙ is;
  fit = tt;
  len_is = refl;
  counted = omega arith;
}

weighed : {V : Type 0} (encoding : V → List ℕ) (fits : V → Type 0) (r : Result V Cause) (n : ℕ)
    → Weighs encoding fits r (Some n)
    → (v : V) × (r ≡ Ok v) × fits v × (n ≡ length (encoding v))
weighed encoding fits (Ok v) n h = (v, refl, h.0, h.1)
weighed encoding fits (Err c) n h = absurd h

-- no value of the whole fits where none with this member does
stops : {V : Type 0} (encoding : V → List ℕ) (Fit : List V → Type 0) (front : List V) (r : Result V Cause)
    (more : Result (List V) Cause)
    → ((v : V) (vs : List V) → r ≡ Ok v → Fit (front ++ v ∷ vs) → ⊥)
    → Weighs (flat_map encoding) Fit (with_front front (r >>= λ v. more >>= λ vs. Ok (v ∷ vs))) None
stops encoding Fit front (Err c) more never = tt
stops encoding Fit front (Ok v) (Err c) never = tt
stops encoding Fit front (Ok v) (Ok vs) never = never v vs refl

ok_once : {V : Type 0} (r : Result V Cause) (a b : V) → r ≡ Ok a → r ≡ Ok b → a ≡ b
ok_once r a b e k = cc

module _ {V : Type 0} (read : Frame → Result V Cause) (encoding : V → List ℕ) (fits : V → Type 0)
    (whole : Result (List V) Cause) (left : List Item) (len : ℕ) (h : Weighing read encoding fits whole left len) where
  -- a member was measured, and the sum is one of the machine's
  pub weighing_on : (f : Frame) (rest : List Item) (n new : ℕ) → left ≡ Ok f ∷ rest
      → Weighs encoding fits (read f) (Some n) → new ≡ len + n → new < 2 ^ 64
      → Weighing read encoding fits whole rest new
  weighing_on f rest n new left_is w new_is small =
      let k = weighed encoding fits (read f) n w in
      record {
        front = h.front ++ k.0 ∷ [];
        so_far = items_more read h.front left whole h.so_far f rest k.0 left_is k.1;
        fit = all_more fits h.front k.0 h.fit k.2;
        len_is = omega (
          arith,
          new_is,
          h.len_is,
          k.3,
          length-append (flat_map encoding h.front) (encoding k.0),
          ap (λ (t : List ℕ). length t) (flat_more encoding h.front k.0),
        );
        counted = small;
      }

  member_stops : (f : Frame) (rest : List Item) → left ≡ Ok f ∷ rest
      → ((v : V) (vs : List V) → read f ≡ Ok v → Counted encoding fits (h.front ++ v ∷ vs) → ⊥)
      → Weighs (flat_map encoding) (Counted encoding fits) whole None
  member_stops f rest left_is never =
      subst (λ r. Weighs (flat_map encoding) (Counted encoding fits) r None)
      (ap (λ (xs : List Item). with_front h.front (read_items read xs)) (sym left_is) ∙ h.so_far)
      (stops encoding (Counted encoding fits) h.front (read f) (read_items read rest) never)

  never_weighed : (r : Result V Cause) (v : V) → r ≡ Ok v → Weighs encoding fits r None → fits v → ⊥
  never_weighed (Ok x) v e w good = let same : v ≡ x = cc in w (subst fits same good)
  never_weighed (Err c) v e w good = absurd cc

  -- a member that does not fit, or is refused
  pub weighing_stops : (f : Frame) (rest : List Item) → left ≡ Ok f ∷ rest → Weighs encoding fits (read f) None
      → Weighs (flat_map encoding) (Counted encoding fits) whole None
  weighing_stops f rest left_is w =
      member_stops f rest left_is
      (λ v vs reads all. never_weighed (read f) v reads w (all_here fits h.front v vs all.0))

  -- a sum that is none of the machine's
  pub weighing_passes : (f : Frame) (rest : List Item) (n : ℕ) → left ≡ Ok f ∷ rest
      → Weighs encoding fits (read f) (Some n) → (len + n < 2 ^ 64 → ⊥)
      → Weighs (flat_map encoding) (Counted encoding fits) whole None
  weighing_passes f rest n left_is w over =
      let k = weighed encoding fits (read f) n w in
      member_stops f rest left_is (λ v vs reads all.
      let same : v ≡ k.0 = ok_once (read f) v k.0 reads k.1 in
      let size : length (encoding v) ≡ n = ap (λ x. length (encoding x)) same ∙ sym k.3 in
      over (omega (
        arith,
        all.1,
        h.len_is,
        size,
        ap (λ (t : List ℕ). length t) (flat_joined encoding h.front (v ∷ vs)),
        length-append (flat_map encoding h.front) (flat_map encoding (v ∷ vs)),
        length-append (encoding v) (flat_map encoding vs),
      )))

  -- a damaged frame
  pub weighing_faults : (c : Cause) (rest : List Item) → left ≡ Err c ∷ rest
      → Weighs (flat_map encoding) (Counted encoding fits) whole None
  weighing_faults c rest left_is =
      subst (λ r. Weighs (flat_map encoding) (Counted encoding fits) r None)
      (ap (λ (xs : List Item). with_front h.front (read_items read xs)) (sym left_is) ∙ h.so_far) tt

-- the attribute's length from its value's
pub weighs_frame : {V : Type 0} (frame : V → Frame) (fits : V → Type 0) (r : Result V Cause) (n padded : ℕ)
    → Weighs (λ v. (frame v).payload) fits r (Some n)
    → padded ≡ 4 + n + missing n → Weighs (λ v. canon (frame v)) fits r (Some padded)
weighs_frame frame fits (Ok v) n padded w is =
    (w.0, is ∙ ap (λ k. 4 + k + missing k) w.1 ∙ sym (length-canon (frame v)))
weighs_frame frame fits (Err c) n padded w is = w

pub weighs_none : {V : Type 0} (encoding other : V → List ℕ) (fits : V → Type 0) (r : Result V Cause)
    → Weighs encoding fits r None → Weighs other fits r None
weighs_none encoding other fits (Ok v) w = w
weighs_none encoding other fits (Err c) w = tt

-- ** writing

-- the values in front are written, and those of the items left are still to come
pub record Rewriting {V : Type 0} (read : Frame → Result V Cause) (encoding : V → List ℕ) (fits : V → Type 0)
    (whole : Result (List V) Cause) (left : List Item) (at : ℕ) (old now : List ℕ) : Type 0 where
  pub front : List V
  pub todo : List V
  pub whole_is : whole ≡ Ok (front ++ todo)
  pub todo_is : read_items read left ≡ Ok todo
  pub fit : AllByRecursion fits todo
  pub written : Writes (flat_map encoding front) old now at
  pub room : at + length (flat_map encoding todo) ≤ length old
  pub same : length now ≡ length old

roomy : {A : Type 0} (encoding : A → List ℕ) (fits : A → Type 0) (r : Result A Cause) (room : ℕ)
    → HasRoom encoding fits r room
    → (v : A) × (r ≡ Ok v) × fits v × (length (encoding v) ≤ room)
roomy encoding fits (Ok v) room h = (v, refl, h.0, h.1)
roomy encoding fits (Err c) room h = absurd h

pub rewriting_starts : {V : Type 0} (read : Frame → Result V Cause) (encoding : V → List ℕ) (fits : V → Type 0)
    (whole : Result (List V) Cause) (left : List Item) (old : List ℕ)
    → read_items read left ≡ whole → HasRoom (flat_map encoding) (Counted encoding fits) whole (length old)
    → Rewriting read encoding fits whole left 0 old old
rewriting_starts read encoding fits whole left old is room =
    let k = roomy (flat_map encoding) (Counted encoding fits) whole (length old) room in record {
      front = [];
      todo = k.0;
      whole_is = k.1;
      todo_is = is ∙ k.1;
      fit = k.2.0;
      written = record { length_is = refl; new_is = refl };
      room = omega (arith, k.3);
      same = refl;
    }

member : {V : Type 0} (r : Result V Cause) (more : Result (List V) Cause) (todo : List V)
    → (r >>= λ v. more >>= λ vs. Ok (v ∷ vs)) ≡ Ok todo
    → (v : V) × (vs : List V) × (r ≡ Ok v) × (more ≡ Ok vs) × (todo ≡ v ∷ vs)
member (Err c) more todo e = absurd cc
member (Ok v) (Err c) todo e = absurd cc
member (Ok v) (Ok vs) todo e = (v, vs, refl, refl, cc)

module _ {V : Type 0} (read : Frame → Result V Cause) (encoding : V → List ℕ)
    (fits : V → Type 0) (whole : Result (List V) Cause) (left : List Item) (at : ℕ) (old now : List ℕ)
    (h : Rewriting read encoding fits whole left at old now) where
  -- the value of the member that is next
  next : (f : Frame) (rest : List Item) → left ≡ Ok f ∷ rest
      → (v : V) × (vs : List V) × (read f ≡ Ok v) × (read_items read rest ≡ Ok vs) × (h.todo ≡ v ∷ vs)
  next f rest left_is = member (read f) (read_items read rest) h.todo
      (ap (λ (xs : List Item). read_items read xs) (sym left_is) ∙ h.todo_is)

  ahead : (v : V) (vs : List V) → h.todo ≡ v ∷ vs
      → at + length (encoding v) + length (flat_map encoding vs) ≤ length old
  ahead v vs todo_is =
      omega (
        arith,
        h.room,
        ap (λ (xs : List V). length (flat_map encoding xs)) todo_is,
        length-append (encoding v) (flat_map encoding vs),
      )

  pub rewriting_on : (f : Frame) (rest : List Item) (part : List ℕ) (n : ℕ) → left ≡ Ok f ∷ rest
      → length part ≡ length (take (length now - at) (drop at now))
      → Rewrites encoding (read f) (take (length now - at) (drop at now)) part n
      → Rewriting read encoding fits whole rest (at + n) old (put_mid at (length now - at) now part)
  rewriting_on f rest part n left_is kept w =
      let k = next f rest left_is in
      let v = k.0 in
      let one : Writes (encoding v) (take (length now - at) (drop at now)) part n =
      subst (λ r. Rewrites encoding r (take (length now - at) (drop at now)) part n) k.2 w in
      let fit : AllByRecursion fits (v ∷ k.1) = subst (λ (xs : List V). AllByRecursion fits xs) k.4 h.fit in
      record {
        front = h.front ++ v ∷ [];
        todo = k.1;
        whole_is = h.whole_is ∙ ap (λ (vs : List V). Ok (h.front ++ vs)) k.4
            ∙ ap (λ (vs : List V). Ok vs) (sym (append_assoc h.front (v ∷ []) k.1));
        todo_is = k.3;
        fit = fit.1;
        written = subst (λ t. Writes t old (put_mid at (length now - at) now part) (at + n))
            (sym (flat_more encoding h.front v))
            (write_on (flat_map encoding h.front) (encoding v) old now part at n h.written one);
        room = omega (arith, ahead v k.1 k.4, one.length_is);
        same = ap (λ (t : List ℕ). length t) (lent_back at now part) ∙ length-append (take at now) part
            ∙ simp (length-take, length-drop) (omega (
              arith,
              kept,
              h.same,
              h.room,
              length-take at now,
              length-take (length now - at) (drop at now),
              length-drop at now,
            ));
      }

  -- the encoding that was written lies within the buffer
  pub rewriting_sum : (f : Frame) (rest : List Item) (part : List ℕ) (n : ℕ) → left ≡ Ok f ∷ rest
      → Rewrites encoding (read f) (take (length now - at) (drop at now)) part n → at + n ≤ length old
  rewriting_sum f rest part n left_is w =
      let k = next f rest left_is in
      let one : Writes (encoding k.0) (take (length now - at) (drop at now)) part n =
      subst (λ r. Rewrites encoding r (take (length now - at) (drop at now)) part n) k.2 w in
      omega (arith, ahead k.0 k.1 k.4, one.length_is)

-- ** measured, and then written

-- a member's encoding takes a part of the room of its frame
pub member_short : {V : Type 0} (place : Grammar Frame V) (frame : V → Frame) → Agrees IsFrame place
    → ((f : Frame) (v : V) → place.means f v → length (canon (frame v)) ≤ growth * (1 + length f.payload / 4))
    → (f : Frame) (v : V) → IsFrame f → place.reads f ≡ Ok v
    → length (canon (frame v)) ≤ growth_per_byte * (4 + length f.payload)
member_short place frame agrees bounded f v one e = omega (arith, bounded f v (agrees.found f v one e))

-- what was measured has room where there is room for what fits
pub measured_room : {A : Type 0} (encoding other : A → List ℕ) (fits : A → Type 0) (r : Result A Cause) (n room : ℕ)
    → Weighs encoding fits r (Some n)
    → RoomWhereFit other fits r room → HasRoom other fits r room
measured_room encoding other fits (Ok v) n room w enough = (w.0, enough w.0)
measured_room encoding other fits (Err c) n room w enough = w

-- there is room enough where there is for each value that is read
pub enough_room : {A : Type 0} (encoding : A → List ℕ) (fits : A → Type 0) (r : Result A Cause) (room : ℕ)
    → ((v : A) → r ≡ Ok v → length (encoding v) ≤ room)
    → RoomWhereFit encoding fits r room
enough_room encoding fits (Ok v) room short = λ good. short v refl
enough_room encoding fits (Err c) room short = tt

-- ** what is read as something else, a variant or an entry

module _ {A B : Type 0} (wrap : A → B) (encoding : B → List ℕ) (fits : B → Type 0) where
  pub weighs_as : (r : Result A Cause) (a : Option ℕ) → Weighs (λ x. encoding (wrap x)) (λ x. fits (wrap x)) r a
      → Weighs encoding fits (r >>= λ x. Ok (wrap x)) a
  weighs_as (Ok x) (Some n) w = w
  weighs_as (Ok x) None w = w
  weighs_as (Err c) (Some n) w = w
  weighs_as (Err c) None w = tt

  pub room_as : (r : Result A Cause) (room : ℕ) → HasRoom encoding fits (r >>= λ x. Ok (wrap x)) room
      → HasRoom (λ x. encoding (wrap x)) (λ x. fits (wrap x)) r room
  room_as (Ok x) room h = h
  room_as (Err c) room h = h

  pub rewrites_as : (r : Result A Cause) (old new : List ℕ) (n : ℕ) → Rewrites (λ x. encoding (wrap x)) r old new n
      → Rewrites encoding (r >>= λ x. Ok (wrap x)) old new n
  rewrites_as (Ok x) old new n w = w
  rewrites_as (Err c) old new n w = tt

  pub room_where_as : (r : Result A Cause) (room : ℕ) → RoomWhereFit encoding fits (r >>= λ x. Ok (wrap x)) room
      → RoomWhereFit (λ x. encoding (wrap x)) (λ x. fits (wrap x)) r room
  room_where_as (Ok x) room h = h
  room_where_as (Err c) room h = tt

  pub room_wrapped : (r : Result A Cause) (room : ℕ) → RoomWhereFit (λ x. encoding (wrap x)) (λ x. fits (wrap x)) r room
      → RoomWhereFit encoding fits (r >>= λ x. Ok (wrap x)) room
  room_wrapped (Ok x) room h = h
  room_wrapped (Err c) room h = tt

  pub canonical_as : (r : Result A Cause) (old new : List ℕ) (a : Option ℕ)
      → Canonical (λ x. encoding (wrap x)) (λ x. fits (wrap x)) r old new a
      → Canonical encoding fits (r >>= λ x. Ok (wrap x)) old new a
  canonical_as (Ok x) old new (Some n) w = w
  canonical_as (Ok x) old new None w = w
  canonical_as (Err c) old new (Some n) w = w
  canonical_as (Err c) old new None w = w

-- ** a record that is refused where the payload is short

pub short_weighs : {A : Type 0} (size : ℕ) (of : List ℕ → A) (encoding : A → List ℕ) (fits : A → Type 0) (p : List ℕ)
    → length p < size → Weighs encoding fits (read_sized size of p) None
unfolding read_sized
short_weighs size of encoding fits p short = rw (lt-ltb (length p) size short) tt

pub whole_weighs : {A : Type 0} (size : ℕ) (of : List ℕ → A) (encoding : A → List ℕ) (fits : A → Type 0) (p : List ℕ)
    → size ≤ length p → fits (of p) → length (encoding (of p)) ≡ size
    → Weighs encoding fits (read_sized size of p) (Some size)
unfolding read_sized
whole_weighs size of encoding fits p whole good exact = rw (le-ltb (length p) size whole) (good, sym exact)

-- ** a list as the value of one attribute

pub lent_length : (old part : List ℕ) → 4 ≤ length old → length (put_mid 4 (length old - 4) old part) ≡ 4 + length part
lent_length old part long =
    ap length (lent_back 4 old part) ∙ length-append (take 4 old) part ∙ let four : length (take 4 old) ≡ 4 =
    simp length-take (omega arith) in ap (λ n. n + length part) four

-- the values that fit as one attribute, of which the encoding has at most 65531 bytes
abbrev pub NestFits : {A : Type 0} → (A → List ℕ) → (A → Type 0) → A → Type 0
NestFits encoding fits v = (length (encoding v) ≤ most_payload) × fits v

abbrev pub nest : {A : Type 0} → (A → List ℕ) → ℕ → A → Frame
nest encoding kind v = record { kind = kind; payload = encoding v }

pub nested_room : {A : Type 0} (encoding : A → List ℕ) (fits : A → Type 0) (kind : ℕ) (r : Result A Cause) (room : ℕ)
    → HasRoom (λ v. canon (nest encoding kind v)) (NestFits encoding fits) r room
    → HasRoom encoding fits r (room - 4) × (4 ≤ room)
nested_room encoding fits kind (Ok v) room h =
    let size = length-canon (nest encoding kind v) in
    ((h.0.1, omega (arith, h.1, size)), omega (arith, h.1, size))
nested_room encoding fits kind (Err c) room h = absurd h

pub nested_written : {A : Type 0} (encoding : A → List ℕ) (kind : ℕ) (r : Result A Cause) (old part : List ℕ) (len : ℕ)
    (new : List ℕ) (n : ℕ) → 4 ≤ length old
    → Rewrites encoding r (take (length old - 4) (drop 4 old)) part len
    → Writes (canon (record { kind = kind; payload = take len (drop 4 (put_mid 4 (length old - 4) old part)) }))
    (put_mid 4 (length old - 4) old part) new n
    → Rewrites (λ v. canon (nest encoding kind v)) r old new n
nested_written encoding kind (Ok v) old part len new n long w finishing =
    finished_value kind (encoding v) old part len new n long w finishing
nested_written encoding kind (Err c) old part len new n long w finishing = tt

-- ** a list that must not be empty

pub not_none : (p : List ℕ) → false ≡ (length p == 0) → 0 < length p
not_none [] e = absurd cc
not_none (x ∷ p) e = omega arith

pub empty_weighs : {A : Type 0} (encoding : A → List ℕ) (fits : A → Type 0) (p : List ℕ) (r : Result A Cause)
    → length p ≡ 0 → Weighs encoding fits (unless_empty p r) None
unfolding unless_empty
empty_weighs encoding fits [] r none = tt
empty_weighs encoding fits (x ∷ p) r none = absurd (omega (arith, none))

pub some_weighs : {A : Type 0} (encoding : A → List ℕ) (fits : A → Type 0) (p : List ℕ) (r : Result A Cause)
    (a : Option ℕ) → 0 < length p → Weighs encoding fits r a
    → Weighs encoding fits (unless_empty p r) a
unfolding unless_empty
some_weighs encoding fits [] r a some w = absurd (omega (arith, some))
some_weighs encoding fits (x ∷ p) r a some w = w

pub some_room : {A : Type 0} (encoding : A → List ℕ) (fits : A → Type 0) (p : List ℕ) (r : Result A Cause) (room : ℕ)
    → HasRoom encoding fits (unless_empty p r) room
    → HasRoom encoding fits r room
unfolding unless_empty
some_room encoding fits [] r room h = absurd h
some_room encoding fits (x ∷ p) r room h = h

pub unless_empty_room : {A : Type 0} (encoding : A → List ℕ) (fits : A → Type 0) (p : List ℕ) (r : Result A Cause)
    (room : ℕ) → RoomWhereFit encoding fits r room
    → RoomWhereFit encoding fits (unless_empty p r) room
unfolding unless_empty
unless_empty_room encoding fits [] r room h = tt
unless_empty_room encoding fits (x ∷ p) r room h = h

pub some_rewrites : {A : Type 0} (encoding : A → List ℕ) (p : List ℕ) (r : Result A Cause) (old new : List ℕ) (n : ℕ)
    → Rewrites encoding r old new n
    → Rewrites encoding (unless_empty p r) old new n
unfolding unless_empty
some_rewrites encoding [] r old new n w = tt
some_rewrites encoding (x ∷ p) r old new n w = w

pub some_room_where : {A : Type 0} (encoding : A → List ℕ) (fits : A → Type 0) (p : List ℕ) (r : Result A Cause)
    (room : ℕ)
    → 0 < length p
    → RoomWhereFit encoding fits (unless_empty p r) room → RoomWhereFit encoding fits r room
unfolding unless_empty
some_room_where encoding fits [] r room some h = absurd (omega (arith, some))
some_room_where encoding fits (x ∷ p) r room some h = h

pub some_canonical : {A : Type 0} (encoding : A → List ℕ) (fits : A → Type 0) (p : List ℕ) (r : Result A Cause)
    (old new : List ℕ) (a : Option ℕ) → 0 < length p
    → Canonical encoding fits r old new a → Canonical encoding fits (unless_empty p r) old new a
unfolding unless_empty
some_canonical encoding fits [] r old new a some w = absurd (omega (arith, some))
some_canonical encoding fits (x ∷ p) r old new a some w = w

pub empty_canonical : {A : Type 0} (encoding : A → List ℕ) (fits : A → Type 0) (p : List ℕ) (r : Result A Cause)
    (old : List ℕ) → length p ≡ 0
    → Canonical encoding fits (unless_empty p r) old old None
unfolding unless_empty
empty_canonical encoding fits [] r old none = refl
empty_canonical encoding fits (x ∷ p) r old none = absurd (omega (arith, none))
