-- Everything that is proved of a payload, of a line of a table and of a place, each in one record, so that a place
-- costs one line a row. A value's encoding is `encoding a` or that of its `frame`; `Fits` says that it has one, `Good`
-- that the encoding is not refused, and `count` is how many values it is. An encoding has at most k bytes for each
-- whole four bytes that were read, the header among them, and e bytes fewer than that. What was read from at most n
-- bytes fits.
use Rattle.std.proofs.Common.{◌≡◌, ℕ, ◌+◌, ◌*◌, ◌/◌, ◌^◌, ◌<◌, ◌≤◌, inl, inr, List, [], ◌∷◌, ◌++◌, length, filter}
use Rattle.std.proofs.Common.{refl, sym, ap, subst, ◌∙◌, mul-le-mul_left, mul-le-mul_right, arith, lit≤}
use Rattle.std.proofs.Common.{length-append}
use Rattle.std.specs.Int.{Width, w8, w16, w32, w64, w128, byte_len, to_le_bytes, from_le_bytes, cast_signed}
use Rattle.std.specs.Int.{cast_unsigned}
use Rattle.std.specs.List.{AllByRecursion}
use Rattle.nla_wire.specs.Sizes.{most_payload, plain_growth, growth, growth_per_byte}
use Rattle.nla_wire.specs.Frames.{Frame, number, IsBytes, IsFrame, missing}
use Rattle.nla_wire.specs.Grammar.{Grammar, Agrees, as_a, Every, list, not_empty, by_payload, undecoded, is_one, picked}
use Rattle.nla_wire.specs.Payloads.{number_of, bytes, IsTextOf, text, filled, sized}
use Rattle.nla_wire.specs.Canon.{canon, canons, AllFit, IsWritable, total}
use Rattle.nla_wire.specs.declared.error.Cause.TheVariants.{OutOfMemory}
use Rattle.nla_wire.proofs.Agreement.{as_agrees, kept_agrees, payload_agrees, not_empty_agrees, number_agrees}
use Rattle.nla_wire.proofs.Agreement.{bytes_agrees, text_agrees, filled_agrees, sized_agrees}
use Rattle.nla_wire.proofs.Lists.{list_agrees, picked_agrees}
use Rattle.nla_wire.proofs.Memory.{memory_list, memory_picked, memory_not_empty, memory_number, memory_bytes}
use Rattle.nla_wire.proofs.Memory.{memory_text, memory_filled, memory_sized}
use Rattle.nla_wire.proofs.Back.{list_back, picked_back, list_some, canons_some, frames_framed, all_filtered}
use Rattle.nla_wire.proofs.Bounds.{length-canon, canons_whole, list_count, picked_count, list_length, picked_length}
use Rattle.nla_wire.proofs.Bounds.{frames_shorter}
use Rattle.nla_wire.proofs.FieldLemmas.{signed_number_again, length-to_le_bytes, from_le_bytes-to_le_bytes}
use Rattle.nla_wire.proofs.FieldLemmas.{from_le_bytes_below}
use mir.Val.{bits}

-- ** the records

pub record LawfulPayload {A : Type 0} (g : Grammar (List ℕ) A) (encoding : A → List ℕ) (Fits Good : A → Type 0)
    (count : A → ℕ) (k e n : ℕ) : Type 0 where
  pub agrees : Agrees IsBytes g
  pub no_memory : (p : List ℕ) → g.bad p OutOfMemory → ⊥
  pub back : (p : List ℕ) (a : A) → IsBytes p → g.means p a → Fits a → Good a → g.means (encoding a) a
  pub counted : (p : List ℕ) (a : A) → g.means p a → count a ≤ length p / 4
  pub bounded : (p : List ℕ) (a : A) → g.means p a
      → 4 + length (encoding a) + missing (length (encoding a)) + e ≤ k * (1 + length p / 4)
  pub small : (p : List ℕ) (a : A) → length p ≤ n → IsBytes p → g.means p a
      → (length (encoding a) ≤ most_payload) × Fits a

pub record LawfulPlace {V : Type 0} (g : Grammar Frame V) (frame : V → Frame) (Fits Good : V → Type 0) (count : V → ℕ)
    (k e n : ℕ) : Type 0 where
  pub agrees : Agrees IsFrame g
  pub no_memory : (f : Frame) → g.bad f OutOfMemory → ⊥
  pub writable : (f : Frame) (v : V) → IsFrame f → g.means f v → Fits v → IsWritable (frame v)
  pub back : (f : Frame) (v : V) → IsFrame f → g.means f v → Fits v → Good v → g.means (frame v) v
  pub counted : (f : Frame) (v : V) → g.means f v → count v ≤ 1 + length f.payload / 4
  pub bounded : (f : Frame) (v : V) → g.means f v → length (canon (frame v)) + e ≤ k * (1 + length f.payload / 4)
  pub small : (f : Frame) (v : V) → length f.payload ≤ n → IsFrame f → g.means f v → Fits v

-- the same of frames of the number m alone, whose values are written with that number again
pub record LawfulReading {V : Type 0} (frame : V → Frame) (Fits Good : V → Type 0) (count : V → ℕ) (k e n : ℕ) (m : ℕ)
    (g : Grammar Frame V) : Type 0 where
  pub agrees : Agrees IsFrame g
  pub no_memory : (f : Frame) → g.bad f OutOfMemory → ⊥
  pub same_number : (f : Frame) (v : V) → number f ≡ m → g.means f v → number (frame v) ≡ m
  pub writable : (f : Frame) (v : V) → IsFrame f → g.means f v → Fits v → IsWritable (frame v)
  pub back : (f : Frame) (v : V) → IsFrame f → number f ≡ m → g.means f v → Fits v → Good v → g.means (frame v) v
  pub counted : (f : Frame) (v : V) → g.means f v → count v ≤ 1 + length f.payload / 4
  pub bounded : (f : Frame) (v : V) → g.means f v → length (canon (frame v)) + e ≤ k * (1 + length f.payload / 4)
  pub small : (f : Frame) (v : V) → length f.payload ≤ n → IsFrame f → g.means f v → Fits v

-- nothing is counted inside
abbrev pub none : {A : Type 0} → A → ℕ
none a = 0

-- it always holds
abbrev pub always : {A : Type 0} → A → Type 0
always a = Unit {0}

-- ** a payload's value wrapped as a variant

module _ {A B : Type 0} (wrap : A → B) (g : Grammar (List ℕ) A) (encoding : A → List ℕ) (FitsA GoodA : A → Type 0)
    (countA : A → ℕ) (k e n : ℕ)
    (h : LawfulPayload g encoding FitsA GoodA countA k e n) where
  -- as a payload: a newtype around the value
  pub as_lawful : (encoding_of : B → List ℕ) (Fits Good : B → Type 0) (count : B → ℕ)
      → ((a : A) → encoding_of (wrap a) ≡ encoding a)
      → ((a : A) → count (wrap a) ≡ countA a)
      → ((a : A) → Fits (wrap a) → FitsA a)
      → ((a : A) → FitsA a → Fits (wrap a))
      → ((a : A) → Good (wrap a) → GoodA a)
      → LawfulPayload (as_a wrap g) encoding_of Fits Good count k e n
  as_lawful encoding_of Fits Good count encoding_is count_is fits_inside fits_outside good_inside =
      let written = λ (p : List ℕ) (b : B) (m : (as_a wrap g).means p b). ap encoding_of m.2 ∙ encoding_is m.0 in
      record {
        agrees = as_agrees IsBytes wrap g h.agrees;
        no_memory = h.no_memory;
        back = λ p b small m fits good. (
          m.0,
          subst (λ x. g.means x m.0) (sym (written p b m))
              (h.back p m.0 small m.1 (fits_inside m.0 (subst Fits m.2 fits)) (good_inside m.0 (subst Good m.2 good))),
          m.2,
        );
        counted = λ p b m. omega (arith, ap count m.2, count_is m.0, h.counted p m.0 m.1);
        bounded = λ p b m. subst (λ x. 4 + length x + missing (length x) + e ≤ k * (1 + length p / 4))
            (sym (written p b m)) (h.bounded p m.0 m.1);
        small = λ p b short small m.
            let s = h.small p m.0 short small m.1 in (
              subst (λ x. length x ≤ most_payload) (sym (written p b m)) s.0,
              subst Fits (sym m.2) (fits_outside m.0 s.1),
            );
      }

  -- as a place: each frame is read by its payload, and written with one kind
  pub wrapped_lawful : (kind : ℕ) (frame : B → Frame) (Fits Good : B → Type 0) (count : B → ℕ)
      → kind < 2 ^ 16
      → ((a : A) → frame (wrap a) ≡ record { kind = kind; payload = encoding a })
      → ((a : A) → count (wrap a) ≡ 1 + countA a)
      → ((a : A) → Fits (wrap a) → (length (encoding a) ≤ most_payload) × FitsA a)
      → ((a : A) → length (encoding a) ≤ most_payload → FitsA a → Fits (wrap a))
      → ((a : A) → Good (wrap a) → GoodA a)
      → LawfulPlace (by_payload (as_a wrap g)) frame Fits Good count k e n
  wrapped_lawful kind frame Fits Good count kind_small frame_is count_is fits_inside fits_outside good_inside =
      let written = λ (f : Frame) (b : B) (m : (by_payload (as_a wrap g)).means f b). ap frame m.2 ∙ frame_is m.0 in
      record {
        agrees = payload_agrees (as_a wrap g) (as_agrees IsBytes wrap g h.agrees);
        no_memory = λ f. h.no_memory f.payload;
        writable = λ f b one m fits.
            subst IsWritable (sym (written f b m))
            (record { kind = kind_small; size = (fits_inside m.0 (subst Fits m.2 fits)).0 });
        back = λ f b one m fits good. (
          m.0,
          subst (λ (x : Frame). g.means x.payload m.0) (sym (written f b m))
              (h.back f.payload m.0 one.bytes m.1 (fits_inside m.0 (subst Fits m.2 fits)).1
              (good_inside m.0 (subst Good m.2 good))),
          m.2,
        );
        counted = λ f b m. omega (arith, ap count m.2, count_is m.0, h.counted f.payload m.0 m.1);
        bounded = λ f b m.
            subst (λ (x : Frame). length (canon x) + e ≤ k * (1 + length f.payload / 4)) (sym (written f b m))
            (omega (arith, length-canon (record { kind = kind; payload = encoding m.0 }), h.bounded f.payload m.0 m.1));
        small = λ f b short one m.
            let s = h.small f.payload m.0 short one.bytes m.1 in
            subst Fits (sym m.2) (fits_outside m.0 s.0 s.1);
      }

-- an encoding has at most k bytes for each whole four bytes that were read
pub encoding_bounded : {V : Type 0} {g : Grammar Frame V} {frame : V → Frame} {Fits Good : V → Type 0}
    {count : V → ℕ} {k e n : ℕ}
    → LawfulPlace g frame Fits Good count k e n
    → (f : Frame) (v : V) → g.means f v → length (canon (frame v)) ≤ k * (1 + length f.payload / 4)
encoding_bounded {V} {g} {frame} {Fits} {Good} {count} {k} {e} {n} h f v means = omega (arith, h.bounded f v means)

-- ** wider bounds: a greater factor, less slack, and a smaller bound under which all fits

pub wider : {A : Type 0} (g : Grammar (List ℕ) A) (encoding : A → List ℕ) (Fits Good : A → Type 0) (count : A → ℕ)
    (k e n j u m : ℕ) → k ≤ j → u + k ≤ e + j → m ≤ n
    → LawfulPayload g encoding Fits Good count k e n → LawfulPayload g encoding Fits Good count j u m
wider g encoding Fits Good count k e n j u m greater slacker smaller h = record {
  agrees = h.agrees;
  no_memory = h.no_memory;
  back = h.back;
  counted = h.counted;
  bounded = λ p a means. omega (arith, h.bounded p a means, mul-le-mul_right (length p / 4) greater);
  small = λ p a short. h.small p a (omega arith);
}

-- ** lines of tables

module _ {V : Type 0} (frame : V → Frame) (Fits Good : V → Type 0) (count : V → ℕ) (k e n : ℕ) where
  pub numbered : (m : ℕ) (g : Grammar Frame V) → LawfulPlace g frame Fits Good count k e n
      → ((f : Frame) (v : V) → number f ≡ m → g.means f v → number (frame v) ≡ m)
      → LawfulReading frame Fits Good count k e n m g
  numbered m g h same = record {
    agrees = h.agrees;
    no_memory = h.no_memory;
    same_number = same;
    writable = h.writable;
    back = λ f v one is. h.back f v one;
    counted = h.counted;
    bounded = h.bounded;
    small = h.small;
  }

  module _ (wide : 8 + e ≤ k) (other : Frame → V) (frame_is : (f : Frame) → frame (other f) ≡ f)
      (count_is : (f : Frame) → count (other f) ≡ 1)
      (fits : (f : Frame) → length f.payload ≤ most_payload → Fits (other f)) where
    kept_bounded : (f : Frame) → length (canon f) + e ≤ k * (1 + length f.payload / 4)
    kept_bounded f =
        let four : 4 * (length f.payload / 4) ≤ k * (length f.payload / 4) =
        mul-le-mul_right (length f.payload / 4) (omega arith) in
        omega (arith, length-canon f)

    -- frames that are kept as they are
    pub kept_lawful : (m : ℕ) → LawfulReading frame Fits Good count k e n m (undecoded other)
    kept_lawful m = record {
      agrees = kept_agrees IsFrame other;
      no_memory = λ f bad. bad;
      same_number = λ f v is means. ap (λ w. number (frame w)) means ∙ ap number (frame_is f) ∙ is;
      writable = λ f v one means fine.
          subst IsWritable (sym (ap frame means ∙ frame_is f)) (record { kind = one.kind; size = one.size });
      back = λ f v one is means fine good. means ∙ ap other (sym (ap frame means ∙ frame_is f));
      counted = λ f v means. omega (arith, ap count means, count_is f);
      bounded = λ f v means. subst (λ (x : Frame). length (canon x) + e ≤ k * (1 + length f.payload / 4))
          (sym (ap frame means ∙ frame_is f)) (kept_bounded f);
      small = λ f v short one means. subst Fits (sym means) (fits f one.size);
    }

  -- what is lawful at each number is a lawful place
  pub place_lawful : (g : Grammar Frame V) → ((m : ℕ) → LawfulReading frame Fits Good count k e n m g)
      → LawfulPlace g frame Fits Good count k e n
  place_lawful g h = record {
    agrees = (h 0).agrees;
    no_memory = (h 0).no_memory;
    writable = (h 0).writable;
    back = λ f v one means. (h (number f)).back f v one refl means;
    counted = (h 0).counted;
    bounded = (h 0).bounded;
    small = (h 0).small;
  }

-- ** lists of a place

every_small : {V : Type 0} (g : Grammar Frame V) (Fits : V → Type 0) (n : ℕ)
    → ((f : Frame) (v : V) → length f.payload ≤ n → IsFrame f → g.means f v → Fits v)
    → (fs : List Frame) (vs : List V) → AllByRecursion IsFrame fs → AllByRecursion (λ f. length f.payload ≤ n) fs
    → Every g.means fs vs → AllByRecursion Fits vs
every_small g Fits n small [] [] one short h = tt
every_small g Fits n small [] (v ∷ vs) one short h = absurd h
every_small g Fits n small (f ∷ fs) [] one short h = absurd h
every_small g Fits n small (f ∷ fs) (v ∷ vs) one short h =
    (small f v short.0 one.0 h.0, every_small g Fits n small fs vs one.1 short.1 h.1)

-- where k bytes for each whole four of n pass the most that a value may have by e at most, each member's slack makes up
-- for it
encodings_small : {V : Type 0} (frame : V → Frame) (k e n : ℕ) (p : List ℕ) (vs : List V)
    → k * (n / 4) ≤ most_payload + e → length p ≤ n
    → length (canons frame vs) + e * length vs ≤ k * (length p / 4) → length (canons frame vs) ≤ most_payload
encodings_small frame k e n p [] enough short long = omega arith
encodings_small frame k e n p (v ∷ vs) enough short long =
    let fewer : k * (length p / 4) ≤ k * (n / 4) = mul-le-mul_left k (omega arith) in
    omega arith

module _ {V : Type 0} (g : Grammar Frame V) (frame : V → Frame) (Fits Good : V → Type 0) (count : V → ℕ) (k e n : ℕ)
    (h : LawfulPlace g frame Fits Good count k e n) where
  -- ** what a caller may rest on, of a list that was read

  pub place_count : (p : List ℕ) (vs : List V) → (list g).means p vs → 4 * total count vs ≤ length p
  place_count = list_count g count h.counted

  pub place_length : (p : List ℕ) (vs : List V) → (list g).means p vs
      → length (canons frame vs) + e * length vs ≤ k * (length p / 4)
  place_length = list_length g frame k e h.bounded

  pub place_encodings : (p : List ℕ) (vs : List V) → (list g).means p vs → length (canons frame vs) ≤ k * (length p / 4)
  place_encodings p vs m = omega (arith, place_length p vs m)

  pub place_small : (p : List ℕ) (vs : List V) → length p ≤ n + 4 → IsBytes p → (list g).means p vs
      → AllByRecursion Fits vs
  place_small p vs short small m =
      every_small g Fits n h.small m.0 vs (frames_framed p m.0 small m.1) (frames_shorter p m.0 n m.1 short) m.2

  pub place_back : (p : List ℕ) (vs : List V) → IsBytes p → (list g).means p vs → AllByRecursion Fits vs
      → AllByRecursion Good vs
      → (list g).means (canons frame vs) vs
  place_back = list_back g frame Fits Good h.writable h.back

  -- ** the payload of the place above

  module _ (u m : ℕ) (wide : 4 + u ≤ k) (deep : m ≤ n + 4) (enough : k * (m / 4) ≤ most_payload + e) where
    list_bounded : (p : List ℕ) (vs : List V) → length (canons frame vs) + e * length vs ≤ k * (length p / 4)
        → 4 + length (canons frame vs) + missing (length (canons frame vs)) + u ≤ k * (1 + length p / 4)
    list_bounded p vs long = omega (arith, canons_whole frame vs)

    all_fit : (p : List ℕ) (vs : List V) → length p ≤ m → length (canons frame vs) + e * length vs ≤ k * (length p / 4)
        → AllByRecursion Fits vs
        → (length (canons frame vs) ≤ most_payload) × AllFit Fits frame vs
    all_fit p vs short long fits =
        let few : length (canons frame vs) ≤ most_payload = encodings_small frame k e m p vs enough short long in
        (few, (fits, omega arith))

    pub list_lawful : LawfulPayload (list g) (canons frame) (AllFit Fits frame) (AllByRecursion Good)
        (total count) k u m
    list_lawful = record {
      agrees = list_agrees g h.agrees;
      no_memory = memory_list g h.no_memory;
      back = λ p vs small means fits good. list_back g frame Fits Good h.writable h.back p vs small means fits.0 good;
      counted = λ p vs means. omega (arith, list_count g count h.counted p vs means);
      bounded = λ p vs means. list_bounded p vs (list_length g frame k e h.bounded p vs means);
      small = λ p vs short small means. all_fit p vs short (list_length g frame k e h.bounded p vs means)
          (place_small p vs (omega arith) small means);
    }

    -- the empty payload refused
    pub some_lawful : LawfulPayload (not_empty (list g)) (canons frame) (AllFit Fits frame) (AllByRecursion Good)
        (total count) k u m
    some_lawful = record {
      agrees = not_empty_agrees (list g) list_lawful.agrees;
      no_memory = memory_not_empty (list g) list_lawful.no_memory;
      back = λ p vs small means fits good.
          (canons_some frame vs (list_some g p vs means.0 means.1), list_lawful.back p vs small means.1 fits good);
      counted = λ p vs means. list_lawful.counted p vs means.1;
      bounded = λ p vs means. list_lawful.bounded p vs means.1;
      small = λ p vs short small means. list_lawful.small p vs short small means.1;
    }

    -- members with another number than 1 dropped: each member is written with that number
    module _ (ones : (v : V) → number (frame v) ≡ 1) where
      pub picked_lawful : LawfulPayload (picked g) (canons frame) (AllFit Fits frame) (AllByRecursion Good)
          (total count) k u m
      picked_lawful = record {
        agrees = picked_agrees g h.agrees;
        no_memory = memory_picked g h.no_memory;
        back = λ p vs small means fits good.
            picked_back g frame Fits Good h.writable h.back ones p vs small means fits.0 good;
        counted = λ p vs means. omega (arith, picked_count g count h.counted p vs means);
        bounded = λ p vs means. list_bounded p vs (picked_length g frame k e h.bounded p vs means);
        small = λ p vs short small means. all_fit p vs short (picked_length g frame k e h.bounded p vs means)
            (every_small g Fits n h.small (filter is_one means.0) vs
            (all_filtered IsFrame is_one means.0 (frames_framed p means.0 small means.1)) (all_filtered
            (λ f. length f.payload ≤ n) is_one means.0 (frames_shorter p means.0 n means.1 (omega arith))) means.2);
      }

      -- the empty payload refused: an encoding of no members would be
      pub some_picked_lawful : LawfulPayload (not_empty (picked g)) (canons frame) (AllFit Fits frame)
          (λ vs. (0 < length vs) × AllByRecursion Good vs) (total count) k u m
      some_picked_lawful = record {
        agrees = not_empty_agrees (picked g) picked_lawful.agrees;
        no_memory = memory_not_empty (picked g) picked_lawful.no_memory;
        back = λ p vs small means fits good.
            (canons_some frame vs good.0, picked_lawful.back p vs small means.1 fits good.1);
        counted = λ p vs means. picked_lawful.counted p vs means.1;
        bounded = λ p vs means. picked_lawful.bounded p vs means.1;
        small = λ p vs short small means. picked_lawful.small p vs short small means.1;
      }

-- the encoding of what was read is at most so many times as long
pub place_growth : {V : Type 0} (g : Grammar Frame V) (frame : V → Frame) (Fits Good : V → Type 0)
    (count : V → ℕ) (e n : ℕ)
    → LawfulPlace g frame Fits Good count growth e n
    → (p : List ℕ) (vs : List V) → (list g).means p vs → length (canons frame vs) ≤ growth_per_byte * length p
place_growth g frame Fits Good count e n h p vs m =
    omega (arith, place_encodings g frame Fits Good count growth e n h p vs m)

-- a list that was read from few bytes fits whole
pub place_all_fit : {V : Type 0} (g : Grammar Frame V) (frame : V → Frame) (Fits Good : V → Type 0)
    (count : V → ℕ) (k e n : ℕ)
    → LawfulPlace g frame Fits Good count k e n
    → k * ((n + 4) / 4) < 2 ^ 64
    → (p : List ℕ) (vs : List V) → length p ≤ n + 4 → IsBytes p → (list g).means p vs → AllFit Fits frame vs
place_all_fit g frame Fits Good count k e n h enough p vs short small m =
    let fewer : k * (length p / 4) ≤ k * ((n + 4) / 4) = mul-le-mul_left k (omega arith) in (
      place_small g frame Fits Good count k e n h p vs short small m,
      omega (arith, place_encodings g frame Fits Good count k e n h p vs m),
    )

-- ** leaf payloads

whole_payload : (p : List ℕ) → 4 + length p + missing (length p) + 0 ≤ plain_growth * (1 + length p / 4)
whole_payload p = omega arith

-- bytes as they are
pub bytes_lawful : (n : ℕ) → n ≤ most_payload → LawfulPayload bytes (λ p. p) always always none plain_growth 0 n
bytes_lawful n enough = record {
  agrees = bytes_agrees;
  no_memory = memory_bytes;
  back = λ p a small means fits good. refl;
  counted = λ p a means. omega arith;
  bounded = λ p a means. subst (λ (x : List ℕ). 4 + length x + missing (length x) + 0
      ≤ plain_growth * (1 + length p / 4)) (sym means) (whole_payload p);
  small = λ p a short small means. (omega (arith, ap length means), tt);
}

text_length : (p s : List ℕ) → IsTextOf p s → length (s ++ 0 ∷ []) ≤ length p + 1
text_length p s (inl e) = omega (arith, ap length e)
text_length p s (inr h) = omega (arith, ap length h.1, length-append s (0 ∷ []))

-- a text, written with one NUL after it
pub text_lawful : (n : ℕ) → n < most_payload → LawfulPayload text (λ s. s ++ 0 ∷ []) always always none plain_growth 0 n
text_lawful n enough = record {
  agrees = text_agrees;
  no_memory = memory_text;
  back = λ p s small means fits good. (means.0, inl refl);
  counted = λ p s means. omega arith;
  bounded = λ p s means. omega (arith, text_length p s means.1);
  small = λ p s short small means. (omega (arith, text_length p s means.1), tt);
}

byte_len_small : (w : Width) → byte_len w ≤ 16
byte_len_small w8 = lit≤ tt
byte_len_small w16 = lit≤ tt
byte_len_small w32 = lit≤ tt
byte_len_small w64 = lit≤ tt
byte_len_small w128 = lit≤ tt

-- a number of some width, through the values that stand for numbers
pub through_lawful : {A : Type 0} (w : Width) (of : ℕ → A) (num : A → ℕ) (Fits : A → Type 0) (n : ℕ)
    → ((x : ℕ) → x < 2 ^ bits w → (num (of x) < 2 ^ bits w) × (of (num (of x)) ≡ of x) × Fits (of x))
    → LawfulPayload (as_a of (number_of w)) (λ a. to_le_bytes w (num a)) Fits always none plain_growth 0 n
through_lawful {A} w of num Fits n again =
    let encoding_size = λ (a : A). length-to_le_bytes w (num a) in
    record {
      agrees = as_agrees IsBytes of (number_of w) (number_agrees w);
      no_memory = memory_number w;
      back = λ p a small means fits good.
          let x : ℕ = means.0 in
          let below : x < 2 ^ bits w = subst (λ y. y < 2 ^ bits w) (sym means.1.1) (from_le_bytes_below w p small) in
          let same : num a ≡ num (of x) = ap num means.2 in
          let read : from_le_bytes w (to_le_bytes w (num (of x))) ≡ num (of x) =
          from_le_bytes-to_le_bytes w (num (of x)) (again x below).0 in (
            num (of x),
            (encoding_size a, sym (ap (λ y. from_le_bytes w (to_le_bytes w y)) same ∙ read)),
            means.2 ∙ sym (again x below).1,
          );
      counted = λ p a means. omega arith;
      bounded = λ p a means. omega (arith, encoding_size a, means.1.0);
      small = λ p a short small means.
          let x : ℕ = means.0 in
          let below : x < 2 ^ bits w = subst (λ y. y < 2 ^ bits w) (sym means.1.1) (from_le_bytes_below w p small) in
          (omega (arith, encoding_size a, byte_len_small w), subst Fits (sym means.2) (again x below).2);
    }

pub number_lawful : (w : Width) (n : ℕ)
    → LawfulPayload (number_of w) (to_le_bytes w) always always none plain_growth 0 n
number_lawful w n = record {
  agrees = number_agrees w;
  no_memory = memory_number w;
  back = λ p a small means fits good.
      let below : a < 2 ^ bits w = subst (λ y. y < 2 ^ bits w) (sym means.1) (from_le_bytes_below w p small) in
      (length-to_le_bytes w a, sym (from_le_bytes-to_le_bytes w a below));
  counted = λ p a means. omega arith;
  bounded = λ p a means. omega (arith, length-to_le_bytes w a, means.0);
  small = λ p a short small means. (omega (arith, length-to_le_bytes w a, byte_len_small w), tt);
}

-- a signed number
pub signed_lawful : (w : Width) (n : ℕ) → LawfulPayload (as_a (cast_signed w) (number_of w))
    (λ z. to_le_bytes w (cast_unsigned w z)) always always none plain_growth 0 n
signed_lawful w n = through_lawful w (cast_signed w) (cast_unsigned w) always n (λ x below.
    let again : cast_unsigned w (cast_signed w x) ≡ x = signed_number_again w x below in
    (subst (λ y. y < 2 ^ bits w) (sym again) below, ap (cast_signed w) again, tt))

-- an enum, of which each number is again the number of its value
pub enum_lawful : {A : Type 0} (w : Width) (of : ℕ → A) (num : A → ℕ) (n : ℕ) → ((x : ℕ) → num (of x) ≡ x)
    → LawfulPayload (as_a of (number_of w)) (λ a. to_le_bytes w (num a)) always always none plain_growth 0 n
enum_lawful w of num n again = through_lawful w of num always n (λ x below.
    (subst (λ y. y < 2 ^ bits w) (sym (again x)) below, ap of (again x), tt))

-- a record that is refused where the payload is shorter, whose encoding has at most `most` bytes
pub sized_lawful : {A : Type 0} (size : ℕ) (fields : List ℕ → A) (encoding_of : A → List ℕ) (Fits : A → Type 0)
    (most k e n : ℕ)
    → most ≤ most_payload
    → 4 + most + missing most + e ≤ k * (1 + size / 4)
    → ((p : List ℕ) → length (encoding_of (fields p)) ≤ most)
    → ((p : List ℕ) → size ≤ length p → size ≤ length (encoding_of (fields p)))
    → ((p : List ℕ) → IsBytes p → size ≤ length p → fields (encoding_of (fields p)) ≡ fields p)
    → ((p : List ℕ) → IsBytes p → size ≤ length p → Fits (fields p))
    → LawfulPayload (sized size fields) encoding_of Fits always none k e n
sized_lawful {A} size fields encoding_of Fits most k e n enough wide length_most length_least again fits =
    record {
      agrees = sized_agrees size fields;
      no_memory = memory_sized size fields;
      back = λ p a small means fine good.
          let same : encoding_of a ≡ encoding_of (fields p) = ap encoding_of means.1 in (
            subst (λ (x : List ℕ). size ≤ length x) (sym same) (length_least p means.0),
            means.1 ∙ sym (again p small means.0) ∙ ap fields (sym same),
          );
      counted = λ p a means. omega arith;
      bounded = λ p a means.
          let more : k * (1 + size / 4) ≤ k * (1 + length p / 4) = mul-le-mul_left k (omega (arith, means.0)) in
          omega (arith, ap (λ x. length (encoding_of x)) means.1, length_most p);
      small = λ p a short small means. (
        omega (arith, ap (λ x. length (encoding_of x)) means.1, length_most p),
        subst Fits (sym means.1) (fits p small means.0),
      );
    }

-- a record that is filled up with zeros
pub filled_lawful : {A : Type 0} (fields : List ℕ → A) (encoding_of : A → List ℕ) (Fits : A → Type 0) (most k e n : ℕ)
    → most ≤ most_payload
    → 4 + most + missing most + e ≤ k
    → ((p : List ℕ) → length (encoding_of (fields p)) ≤ most)
    → ((p : List ℕ) → IsBytes p → fields (encoding_of (fields p)) ≡ fields p)
    → ((p : List ℕ) → IsBytes p → Fits (fields p))
    → LawfulPayload (filled fields) encoding_of Fits always none k e n
filled_lawful {A} fields encoding_of Fits most k e n enough wide length_most again fits =
    record {
      agrees = filled_agrees fields;
      no_memory = memory_filled fields;
      back = λ p a small means fine good. means ∙ sym (again p small) ∙ ap (λ x. fields (encoding_of x)) (sym means);
      counted = λ p a means. omega arith;
      bounded = λ p a means. omega (arith, ap (λ x. length (encoding_of x)) means, length_most p);
      small = λ p a short small means.
          (omega (arith, ap (λ x. length (encoding_of x)) means, length_most p), subst Fits (sym means) (fits p small));
    }

-- ** records, whose encoding always has `size` bytes

-- one that is refused where the payload is shorter
pub sized_record_lawful : {A : Type 0} (size n : ℕ) (of : List ℕ → A) (encoding_of : A → List ℕ)
    → ((p : List ℕ) → length (encoding_of (of p)) ≡ size)
    → ((p : List ℕ) → IsBytes p → of (encoding_of (of p)) ≡ of p)
    → size ≤ most_payload
    → LawfulPayload (sized size of) encoding_of always always none plain_growth 0 n
sized_record_lawful size n of encoding_of sized_as again enough =
    sized_lawful size of encoding_of always size plain_growth 0 n enough (omega arith)
    (λ p. omega (arith, sized_as p)) (λ p long. omega (arith, sized_as p)) (λ p small long. again p small)
    (λ p small long. tt)

-- one that is filled up with zeros
pub filled_record_lawful : {A : Type 0} (size n : ℕ) (of : List ℕ → A) (encoding_of : A → List ℕ)
    → ((p : List ℕ) → length (encoding_of (of p)) ≡ size)
    → ((p : List ℕ) → IsBytes p → of (encoding_of (of p)) ≡ of p)
    → size ≤ most_payload
    → LawfulPayload (filled of) encoding_of always always none (4 + size + missing size) 0 n
filled_record_lawful size n of encoding_of sized_as again enough =
    filled_lawful of encoding_of always size (4 + size + missing size) 0 n enough (omega arith)
    (λ p. omega (arith, sized_as p)) again (λ p small. tt)
