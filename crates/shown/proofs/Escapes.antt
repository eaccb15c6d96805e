-- Texts with their escapes that were stored part after part.
use Rattle.std.proofs.Common.{◌≡◌, ℕ, zero, suc, ◌+◌, ◌-◌, ◌<◌, ◌≤◌, true, false, not, ◌==◌}
use Rattle.std.proofs.Common.{List, [], ◌∷◌, ◌++◌}
use Rattle.std.proofs.Common.{length, take, drop, get_or, nat_lt, refl, ap, sym, ◌∙◌, subst, arith, length-drop}
use Rattle.std.proofs.Common.{append_assoc, append-nil, get_or-drop, length-take-le, Bool, ◌||◌, ◌⊎◌, inl, inr}
use Rattle.std.specs.Prelude.{◌&&◌, cond, Option, Some, None}
use Rattle.std.specs.List.{slice_get}
use Rattle.std.specs.Bool.{OnTrue}
use Rattle.std.proofs.lemmas.Option.{slice_get_read}
use Rattle.shown.specs.declared.escape.TheConstants.{CONTROLS}
use Rattle.std.proofs.lemmas.Bool.{agree_below_at, and_parts, eqb-false, eqb-true, ltb-false, ltb-true}
use Rattle.std.proofs.lemmas.Bool.{not-true, or_cases, or_parts, true≢false}
use Rattle.std.proofs.lemmas.List.{drop_all, drop_more, drop-drop, take_all}
use Rattle.json.specs.Filled.{Placed}
use Rattle.json.proofs.Printed.Places.{Placed-then}
use Rattle.json.proofs.Printed.Strings.{escape_byte_plain}
use Rattle.shown.specs.Escapes.{AddsEscaped, Escaped, PlainBetween, SeenBetween, may_escape}
use Rattle.shown.specs.Print.{bytes_behind, escape, escape_byte, escape_first, escape_from, unseen, unseen_in}
use Rattle.shown.specs.Sheets.{Adds, Keeps}
use Rattle.shown.proofs.Blocks.{part_plain}
use Rattle.shown.proofs.Pieces.{adds_behind, placed_added, placed_keeps}

-- ** one character

-- no byte below DEL begins one that shows nothing
low_none : (x y z : ℕ) → x < 0x7f → unseen x y z ≡ 0
low_none x y z low =
    eqb-true (unseen x y z) 0 (agree_below_at (λ c. unseen c y z == 0) (λ c. true) 0x7f x refl low)

-- the first byte from a place on
first_at : (text : List ℕ) (at : ℕ) → get_or (drop at text) 0 0 ≡ get_or text at 0
first_at text at =
    let here : at + 0 ≡ at = omega arith in
    get_or-drop at text 0 0 ∙ ap (λ n. get_or text n 0) here

pub none_low : (text : List ℕ) (at : ℕ) → get_or text at 0 < 0x7f → unseen_in (drop at text) ≡ 0
none_low text at low =
    low_none (get_or (drop at text) 0 0) (get_or (drop at text) 1 0) (get_or (drop at text) 2 0)
    (subst (λ n. n < 0x7f) (sym (first_at text at)) low)

skipped : (n : ℕ) (s : List ℕ) → escape_from n s ≡ escape (drop n s)
unfolding escape_from
skipped zero [] = refl
skipped zero (x ∷ s) = refl
skipped (suc n) [] = refl
skipped (suc n) (x ∷ s) = skipped n s

-- what stands for the front, and the rest of a text
front_and_rest : (x : ℕ) (s : List ℕ)
    → escape (x ∷ s) ≡ escape_first (unseen_in (x ∷ s)) x ++ escape (drop (bytes_behind (unseen_in (x ∷ s))) s)
unfolding escape_from
front_and_rest x s =
    ap (λ l. escape_first (unseen_in (x ∷ s)) x ++ l) (skipped (bytes_behind (unseen_in (x ∷ s))) s)

at_place : (text : List ℕ) (from : ℕ) → from < length text
    → escape (drop from text)
    ≡ escape_first (unseen_in (drop from text)) (get_or text from 0)
    ++ escape (drop (from + 1 + bytes_behind (unseen_in (drop from text))) text)
at_place text from within =
    let x = get_or text from 0 in
    let s = drop (from + 1) text in
    let is = drop_more text from 0 within in
    ap escape is ∙ front_and_rest x s
    ∙ (λ i. escape_first (unseen_in (sym is i)) x ++ escape (drop (bytes_behind (unseen_in (sym is i))) s))
    ∙ ap (λ l. escape_first (unseen_in (drop from text)) x ++ escape l)
    (drop-drop (bytes_behind (unseen_in (drop from text))) (from + 1) text)

-- ** bytes that stand for themselves

-- a byte that may need an escape, but for 0xe2
abbrev pub may_alone : ℕ → Bool
may_alone x = nat_lt x 0x20 || (x == 0x22) || (x == 0x5c) || (x == 0x7f) || (x == 0xc2) || (x == 0xd8)

-- what stands behind 0xe2 in a character that has an escape
abbrev pub goes_on : ℕ → Bool
goes_on y = (y == 0x80) || (y == 0x81)

quiet : (x y z : ℕ) → (x == 0x7f) ≡ false → (x == 0xc2) ≡ false → (x == 0xd8) ≡ false → (y == 0x80) ≡ false
    → (y == 0x81) ≡ false → unseen x y z ≡ 0
quiet x y z del two eight first second = rw (del, two, eight, first, second) (go (x == 0xe2) _ _ _ _)
  where
    go : (h p q : Bool) (m n : ℕ) → cond (h && false && p) m (cond (h && false && q) n 0) ≡ 0
    go true p q m n = refl
    go false p q m n = refl

-- of other bytes none is DEL, none begins a character of two bytes that is not seen, and each stands for itself
alone_parts : (x : ℕ) → may_alone x ≡ false
    → ((x == 0x7f) ≡ false) × ((x == 0xc2) ≡ false) × ((x == 0xd8) ≡ false) × (escape_byte x ≡ x ∷ [])
alone_parts x h =
    let fifth = or_parts _ (x == 0xd8) h in
    let fourth = or_parts _ (x == 0xc2) fifth.0 in
    let third = or_parts _ (x == 0x7f) fourth.0 in
    let second = or_parts _ (x == 0x5c) third.0 in
    let first = or_parts (nat_lt x 0x20) (x == 0x22) second.0 in (
      third.1,
      fourth.1,
      fifth.1,
      escape_byte_plain x (eqb-false x 34 first.1) (eqb-false x 92 second.1) (ltb-false x 32 first.0),
    )

pub seen_at : (x y z : ℕ) → not (may_alone x) ≡ true → not (goes_on y) ≡ true
    → (unseen x y z ≡ 0) × (escape_byte x ≡ x ∷ [])
seen_at x y z alone others =
    let behind = or_parts (y == 0x80) (y == 0x81) (not-true (goes_on y) others) in
    let is = alone_parts x (not-true (may_alone x) alone) in
    (quiet x y z is.0 is.1 is.2 behind.0 behind.1, is.3)

-- two tests of the lanes, of bytes and of those behind them
pub both_seen : (d : List ℕ) (from : ℕ) (a b : Bool)
    → OnTrue a ((k : ℕ) → from ≤ k → k < from + 16 → not (may_alone (get_or d k 0)) ≡ true)
    → OnTrue b ((k : ℕ) → from + 1 ≤ k → k < from + 1 + 16 → not (goes_on (get_or d k 0)) ≡ true)
    → OnTrue (a && b) (SeenBetween d from (from + 16))
both_seen d from true true alone others = λ k low high.
    let first = first_at d k in
    let is =
    seen_at (get_or (drop k d) 0 0) (get_or (drop k d) 1 0) (get_or (drop k d) 2 0)
    (ap (λ x. not (may_alone x)) first ∙ alone k low high)
    (ap (λ x. not (goes_on x)) (get_or-drop k d 1 0) ∙ others (k + 1) (omega arith) (omega arith)) in
    (is.0, subst (λ x. escape_byte x ≡ x ∷ []) first is.1)
both_seen d from true false alone others = tt
both_seen d from false b alone others = tt

seen_run : (n : ℕ) (t : List ℕ) → n ≤ length t → SeenBetween t 0 n → escape t ≡ take n t ++ escape (drop n t)
seen_run zero t within h = refl
seen_run (suc n) [] within h = absurd (omega arith)
seen_run (suc n) (x ∷ s) within h =
    let is = h 0 (omega arith) (omega arith) in
    front_and_rest x s ∙ (λ i. escape_first (is.0 i) x ++ escape (drop (bytes_behind (is.0 i)) s))
    ∙ ap (λ l. l ++ escape s) is.1
    ∙ ap (λ l. x ∷ l) (seen_run n s (omega arith) (λ k from to. h (suc k) (omega arith) (omega arith)))

-- ** plain bytes

plain_first : (x y z : ℕ) → not (may_escape x) ≡ true → (unseen x y z ≡ 0) × (escape_byte x ≡ x ∷ [])
plain_first x y z h =
    let sixth = or_parts (may_alone x) (x == 0xe2) (not-true (may_escape x) h) in
    let is = alone_parts x sixth.0 in
    (rw (is.0, is.1, is.2, sixth.1) refl, is.3)

-- plain bytes are seen bytes
plain_seen : (text : List ℕ) (from to : ℕ) → PlainBetween text from to → SeenBetween text from to
plain_seen text from to h k low high =
    let first = first_at text k in
    let is =
    plain_first (get_or (drop k text) 0 0) (get_or (drop k text) 1 0) (get_or (drop k text) 2 0)
    (ap (λ x. not (may_escape x)) first ∙ h k low high) in
    (is.0, subst (λ x. escape_byte x ≡ x ∷ []) first is.1)

pub plain_text : (text : List ℕ) → PlainBetween text 0 (length text) → escape text ≡ text
unfolding escape_from
plain_text text h =
    seen_run (length text) text (omega arith) (plain_seen text 0 (length text) h)
    ∙ (λ i. take_all (length text) text (omega arith) i ++ escape (drop_all (length text) text (omega arith) i))
    ∙ append-nil text

-- ** one byte

pub plain_byte : (x : ℕ) → (x == 34) || (x == 92) ≡ false → 32 ≤ x → escape_byte x ≡ x ∷ []
plain_byte x h high =
    let parts = or_parts (x == 34) (x == 92) h in
    escape_byte_plain x (eqb-false x 34 parts.0) (eqb-false x 92 parts.1) high

are_same : List ℕ → List ℕ → Bool
are_same [] [] = true
are_same [] (y ∷ ys) = false
are_same (x ∷ xs) [] = false
are_same (x ∷ xs) (y ∷ ys) = (x == y) && are_same xs ys

same : (xs ys : List ℕ) → are_same xs ys ≡ true → xs ≡ ys
unfolding are_same
same [] [] h = refl
same [] (y ∷ ys) h = absurd (true≢false (sym h))
same (x ∷ xs) [] h = absurd (true≢false (sym h))
same (x ∷ xs) (y ∷ ys) h =
    let parts = and_parts (x == y) (are_same xs ys) h in
    λ i. eqb-true x y parts.0 i ∷ same xs ys parts.1 i

is_right : ℕ → Option (List ℕ × ℕ) → Bool
is_right x None = false
is_right x (Some row) = are_same (take row.1 row.0) (escape_byte x) && nat_lt row.1 7

-- all rows of the table at once
right_row : (x : ℕ) → x < 32 → is_right x (slice_get CONTROLS x) ≡ true
unfolding escape_byte are_same is_right
right_row x low = agree_below_at (λ y. is_right y (slice_get CONTROLS y)) (λ y. true) 32 x refl low

pub control : (x : ℕ) (row : List ℕ × ℕ) → x < 32 → row ≡ get_or CONTROLS x row
    → (take row.1 row.0 ≡ escape_byte x) × (row.1 ≤ 6)
unfolding is_right
control x row low is =
    let here = slice_get_read CONTROLS 32 x row refl low is in
    let both = and_parts _ _ (subst (λ r. is_right x r ≡ true) here (right_row x low)) in
    (same _ _ both.0, omega (arith, ltb-true row.1 7 both.1))

-- ** what was stored

pub none_stored : (a text : List ℕ) (at from : ℕ) → Escaped a a at at text from from
none_stored a text at from = record {
  piece = [];
  placed = record { bytes = sym (append-nil (take at a)); moved = omega arith; len = refl };
  is = refl;
  onwards = omega arith;
  room = omega arith;
}

pub stored_then : {a b c text : List ℕ} {at mid end from via to : ℕ}
    → Escaped a b at mid text from via → Escaped b c mid end text via to → Escaped a c at end text from to
stored_then {text = text} {from = from} {via = via} {to = to} p q = record {
  piece = p.piece ++ q.piece;
  placed = Placed-then p.placed q.placed;
  is = p.is ∙ ap (λ l. p.piece ++ l) q.is ∙ sym (append_assoc p.piece q.piece (escape (drop to text)));
  onwards = omega (arith, p.onwards, q.onwards);
  room = omega (arith, p.onwards, q.onwards, p.room, q.room);
}

pub character_stored : {a b : List ℕ} {at len : ℕ} (text : List ℕ) (from : ℕ) → from < length text → len ≤ 6
    → Placed a b at (escape_first (unseen_in (drop from text)) (get_or text from 0)) (at + len)
    → Escaped a b at (at + len) text from (from + 1 + bytes_behind (unseen_in (drop from text)))
character_stored {a} {b} {at} {len} text from within few placed = record {
  piece = escape_first (unseen_in (drop from text)) (get_or text from 0);
  placed = placed;
  is = at_place text from within;
  onwards = omega arith;
  room = omega arith;
}

pub seen_between_stored : {a b : List ℕ} {at : ℕ} (text : List ℕ) (from n : ℕ) → from + n ≤ length text
    → SeenBetween text from (from + n) → Placed a b at (take n (drop from text)) (at + n)
    → Escaped a b at (at + n) text from (from + n)
seen_between_stored {a} {b} {at} text from n within seen placed = record {
  piece = take n (drop from text);
  placed = placed;
  is = seen_run n (drop from text) (omega (arith, length-drop from text)) (λ k low high.
      let here = seen (from + k) (omega arith) (omega arith) in (
        ap unseen_in (drop-drop k from text) ∙ here.0,
        ap (λ x. escape_byte x) (get_or-drop from text k 0) ∙ here.1
            ∙ ap (λ x. x ∷ []) (sym (get_or-drop from text k 0)),
      ))
      ∙ ap (λ l. take n (drop from text) ++ escape l) (drop-drop n from text);
  onwards = omega arith;
  room = omega arith;
}

pub plain_stored : {a b : List ℕ} {at : ℕ} (text : List ℕ) (from n : ℕ) → from + n ≤ length text
    → PlainBetween text from (from + n) → Placed a b at (take n (drop from text)) (at + n)
    → Escaped a b at (at + n) text from (from + n)
plain_stored text from n within plain = seen_between_stored text from n within (plain_seen text from (from + n) plain)

-- a part without bytes that may need an escape
pub part_stored : {a b : List ℕ} {at : ℕ} (text : List ℕ) (from to : ℕ) → from ≤ to → to ≤ length text
    → PlainBetween (take (to - from) (drop from text)) 0 (length (take (to - from) (drop from text)))
    → Placed a b at (take (to - from) (drop from text)) (at + length (take (to - from) (drop from text)))
    → Escaped a b at (at + (to - from)) text from to
part_stored {a} {b} {at} text from to onwards within plain placed =
    let last : from + (to - from) ≡ to = omega arith in
    let long : length (take (to - from) (drop from text)) ≡ to - from =
    length-take-le (to - from) (drop from text) (omega (arith, length-drop from text)) in
    subst (λ n. Escaped a b at (at + (to - from)) text from n) last
    (plain_stored text from (to - from) (omega arith) (part_plain text from (to - from) (omega arith) plain)
    (subst (λ n. Placed a b at (take (to - from) (drop from text)) (at + n)) long placed))

-- a quote or a backslash has a backslash before it
pub slashed : (x : ℕ) → (x == 34) || (x == 92) ≡ true → escape_byte x ≡ 92 ∷ x ∷ []
unfolding escape_byte
slashed x h = go (or_cases (x == 34) (x == 92) h)
  where
    go : (x == 34 ≡ true) ⊎ (x == 92 ≡ true) → escape_byte x ≡ 92 ∷ x ∷ []
    go (inl is) = subst (λ y. escape_byte y ≡ 92 ∷ y ∷ []) (sym (eqb-true x 34 is)) refl
    go (inr is) = subst (λ y. escape_byte y ≡ 92 ∷ y ∷ []) (sym (eqb-true x 92 is)) refl

pub slashed_stored : {a b : List ℕ} {at end : ℕ} (text : List ℕ) (from : ℕ) → from < length text
    → (get_or text from 0 == 34) || (get_or text from 0 == 92) ≡ true
    → Placed a b at (92 ∷ get_or text from 0 ∷ []) end → Escaped a b at end text from (from + 1)
slashed_stored text from within is placed =
    let x = get_or text from 0 in
    let none : unseen_in (drop from text) ≡ 0 = none_low text from (below x is) in
    let one : from + 1 + 0 ≡ from + 1 = omega arith in
    record {
      piece = 92 ∷ x ∷ [];
      placed = placed;
      is = at_place text from within
          ∙ (λ i. escape_first (none i) x ++ escape (drop (from + 1 + bytes_behind (none i)) text))
          ∙ (λ i. slashed x is i ++ escape (drop (one i) text));
      onwards = omega arith;
      room = omega (arith, placed.moved);
    }
  where
    below : (x : ℕ) → (x == 34) || (x == 92) ≡ true → x < 0x7f
    below x h = go (or_cases (x == 34) (x == 92) h)
      where
        go : (x == 34 ≡ true) ⊎ (x == 92 ≡ true) → x < 0x7f
        go (inl is) = omega (arith, eqb-true x 34 is)
        go (inr is) = omega (arith, eqb-true x 92 is)

pub one_plain : (text : List ℕ) (from : ℕ) → may_escape (get_or text from 0) ≡ false → PlainBetween text from (from + 1)
one_plain text from h k low high =
    let same : from ≡ k = omega arith in
    subst (λ j. not (may_escape (get_or text j 0)) ≡ true) same (ap not h)

-- a byte that stands for itself
itself_stored : {a b : List ℕ} {at end : ℕ} (text : List ℕ) (from : ℕ) → from < length text
    → (unseen_in (drop from text) ≡ 0) × (escape_byte (get_or text from 0) ≡ get_or text from 0 ∷ [])
    → Placed a b at (get_or text from 0 ∷ []) end → Escaped a b at end text from (from + 1)
itself_stored text from within is placed =
    let x = get_or text from 0 in
    let one : from + 1 + 0 ≡ from + 1 = omega arith in
    record {
      piece = x ∷ [];
      placed = placed;
      is = at_place text from within
          ∙ (λ i. escape_first (is.0 i) x ++ escape (drop (from + 1 + bytes_behind (is.0 i)) text))
          ∙ (λ i. is.1 i ++ escape (drop (one i) text));
      onwards = omega arith;
      room = omega (arith, placed.moved);
    }

pub byte_stored : {a b : List ℕ} {at end : ℕ} (text : List ℕ) (from : ℕ) → from < length text
    → may_escape (get_or text from 0) ≡ false → Placed a b at (get_or text from 0 ∷ []) end
    → Escaped a b at end text from (from + 1)
byte_stored text from within h =
    itself_stored text from within
    (plain_seen text from (from + 1) (one_plain text from h) from (omega arith) (omega arith))

-- a byte above DEL stands for itself where it begins nothing that has an escape
pub seen_stored : {a b : List ℕ} {at end : ℕ} (text : List ℕ) (from : ℕ) → from < length text
    → unseen_in (drop from text) ≡ 0 → 0x7f < get_or text from 0
    → Placed a b at (get_or text from 0 ∷ []) end → Escaped a b at end text from (from + 1)
seen_stored text from within none high =
    let x = get_or text from 0 in
    itself_stored text from within (
      none,
      escape_byte_plain x (λ is. omega (arith, is, high)) (λ is. omega (arith, is, high)) (omega (arith, high)),
    )

-- what was stored before at the same place is stored over
pub stored_anew : {a b c text : List ℕ} {at end from to : ℕ} → take at b ≡ take at a → length b ≡ length a
    → Escaped b c at end text from to → Escaped a c at end text from to
stored_anew kept len q = record {
  piece = q.piece;
  placed = record {
    bytes = q.placed.bytes ∙ ap (λ l. l ++ q.piece) kept;
    moved = q.placed.moved;
    len = q.placed.len ∙ len;
  };
  is = q.is;
  onwards = q.onwards;
  room = q.room;
}

pub stored_over : {a b c text xs : List ℕ} {at last end from to : ℕ} → at ≤ length a → Placed a b at xs last
    → Escaped b c at end text from to → Escaped a c at end text from to
stored_over within p = stored_anew (placed_keeps within p) p.len

-- ** what was added

pub escaped_added : {a b c text : List ℕ} {len end from to : ℕ} → Keeps a b len → Escaped b c len end text from to
    → end ≤ length c → AddsEscaped a c len end text from to
escaped_added kept e within = record {
  piece = e.piece;
  adds = placed_added kept e.placed within;
  is = e.is;
}

pub none_added : (a text : List ℕ) (len from : ℕ) → len ≤ length a → AddsEscaped a a len len text from from
none_added a text len from within =
    record { piece = []; adds = record { bytes = sym (append-nil (take len a)); within = within }; is = refl }

pub added_then : {a b c text : List ℕ} {len mid end from via to : ℕ} → AddsEscaped a b len mid text from via
    → AddsEscaped b c mid end text via to → AddsEscaped a c len end text from to
added_then {text = text} {to = to} p q = record {
  piece = p.piece ++ q.piece;
  adds = adds_behind p.adds q.adds;
  is = p.is ∙ ap (λ l. p.piece ++ l) q.is ∙ sym (append_assoc p.piece q.piece (escape (drop to text)));
}

whole : (text piece : List ℕ) (to : ℕ) → length text ≤ to → escape (drop 0 text) ≡ piece ++ escape (drop to text)
    → escape text ≡ piece
unfolding escape_from
whole text piece to within is =
    is ∙ ap (λ l. piece ++ escape l) (drop_all to text within) ∙ append-nil piece

-- the whole text
pub all_added : {a b : List ℕ} {len end to : ℕ} (text : List ℕ) → length text ≤ to
    → AddsEscaped a b len end text 0 to → Adds a b len (escape text) end
all_added {a} {b} {len} {end} {to} text within h =
    subst (λ (piece : List ℕ). Adds a b len piece end) (sym (whole text h.piece to within h.is)) h.adds

pub all_stored : {a b : List ℕ} {at end to : ℕ} (text : List ℕ) → length text ≤ to
    → Escaped a b at end text 0 to → Placed a b at (escape text) end
all_stored {a} {b} {at} {end} {to} text within h =
    subst (λ (piece : List ℕ). Placed a b at piece end) (sym (whole text h.piece to within h.is)) h.placed

pub escape_on_plain : (b : Bool) (text : List ℕ) → OnTrue b (PlainBetween text 0 (length text))
    → OnTrue b (escape text ≡ text)
escape_on_plain true text h = plain_text text h
escape_on_plain false text h = tt
