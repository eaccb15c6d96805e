-- Pieces that were stored one after another.
use Rattle.std.proofs.Common.{◌≡◌, ℕ, ◌+◌, ◌/◌, ◌%◌, ◌<◌, ◌≤◌, Bool, true, false, List, [], ◌∷◌, ◌++◌, ◌∙◌}
use Rattle.std.proofs.Common.{length, take, ap, sym, arith}
use Rattle.std.proofs.Common.{append_assoc, append-nil, length-append, length-take-le, take-take, subst}
use Rattle.std.proofs.lemmas.List.{take_at}
use Rattle.std.specs.Bool.{OnTrue}
use Rattle.std.specs.Prelude.{Result, Ok, Err, decimal}
use Rattle.std.proofs.lemmas.Fmt.{decimal_step}
use Rattle.json.specs.Filled.{Placed}
use Rattle.shown.specs.Print.{escape, quoted, token_text, print, print_from}
use Rattle.json.specs.Token.{Token}
use Rattle.json.proofs.Printed.Places.{Placed-then}
use Rattle.shown.specs.Sheets.{Adds, Added, Keeps, comma_if}

-- what stands before a piece is kept
pub placed_keeps : {a b xs : List ℕ} {at end : ℕ} → at ≤ length a → Placed a b at xs end → take at b ≡ take at a
placed_keeps {a} {b} {xs} {at} {end} within p =
    sym (take-take at end b (omega (arith, p.moved))) ∙ ap (take at) p.bytes
    ∙ take_at (take at a) xs at (length-take-le at a within)

pub kept_before : (a b : List ℕ) (at start : ℕ) → at ≤ start → take start b ≡ take start a → take at b ≡ take at a
kept_before a b at start before kept =
    sym (take-take at start b before) ∙ ap (take at) kept ∙ take-take at start a before

-- the digits of a number in front of its last one, and this
pub digit_behind : (n : ℕ) (a b c : List ℕ) (at middle end : ℕ) → 10 ≤ n → n < 1000
    → Placed a b at (decimal (n / 10)) middle → Placed b c middle ((48 + n % 10) ∷ []) end
    → Placed a c at (decimal n) end
digit_behind n a b c at middle end two few p q =
    subst (λ xs. Placed a c at xs end) (sym (decimal_step n two (omega (arith, few)))) (Placed-then p q)

-- a comma where one is due, a quote, a text with its escapes, and a quote
pub quoted_placed : {a b c d : List ℕ} {i j k l : ℕ} (comma : Bool) (text : List ℕ)
    → Placed a b i (comma_if comma ++ 34 ∷ []) j → Placed b c j (escape text) k → Placed c d k (34 ∷ []) l
    → Placed a d i (comma_if comma ++ quoted text) l
quoted_placed {a} {b} {c} {d} {i} {j} {k} {l} comma text p q r =
    subst (λ xs. Placed a d i xs l) (append_assoc (comma_if comma) (34 ∷ []) (escape text ++ 34 ∷ []))
    (Placed-then p (Placed-then q r))

pub plain_placed : {a b text : List ℕ} {at end : ℕ} → escape text ≡ text → Placed a b at text end
    → Placed a b at (escape text) end
plain_placed {a} {b} {text} {at} {end} plain p = subst (λ s. Placed a b at s end) (sym plain) p

pub placed_on : (a b text : List ℕ) (at end : ℕ) (is : Bool) → OnTrue is (escape text ≡ text)
    → OnTrue is (Placed a b at text end) → OnTrue is (Placed a b at (escape text) end)
placed_on a b text at end true plain p = plain_placed plain p
placed_on a b text at end false plain p = tt

pub quote_short : (comma : Bool) → length (comma_if comma ++ 34 ∷ []) ≤ 2
quote_short true = omega arith
quote_short false = omega arith

-- what was placed behind the first bytes of a buffer, which are kept, was added
pub placed_added : {a b c piece : List ℕ} {len end : ℕ} → Keeps a b len → Placed b c len piece end → end ≤ length c
    → Adds a c len piece end
placed_added {piece = piece} kept p within =
    record { bytes = p.bytes ∙ ap (λ l. l ++ piece) kept.0; within = within }

-- the text of a token alone
pub token_alone : (t : Token) → print (t ∷ []) ≡ token_text t
unfolding print_from
token_alone t = append-nil (token_text t)

-- a piece that was added behind one that was added
pub adds_behind : {a b c : List ℕ} {len end last : ℕ} {piece more : List ℕ}
    → Adds a b len piece end → Adds b c end more last → Adds a c len (piece ++ more) last
adds_behind {a} {b} {c} {len} {end} {last} {piece} {more} p q = record {
  bytes = q.bytes ∙ ap (λ l. l ++ more) p.bytes ∙ append_assoc (take len a) piece more;
  within = q.within;
}

-- what stood before a piece is kept, where no other was added behind it
pub kept_behind : {a b : List ℕ} (c : List ℕ) {len end : ℕ} {piece : List ℕ}
    → len ≤ length a → Adds a b len piece end → Keeps b c end → Keeps a c len
kept_behind {a} {b} c {len} {end} {piece} within p q =
    let front = length-take-le len a within in
    let longer : len ≤ end =
    omega (arith, ap length p.bytes, length-append (take len a) piece, length-take-le end b p.within) in (
      sym (take-take len end c longer) ∙ ap (take len) (q.0 ∙ p.bytes) ∙ take_at (take len a) piece len front,
      omega (arith, q.1),
    )

pub added_behind : {E : Type 0} {a b : List ℕ} (c more : List ℕ) (result : Result ℕ E) {len end : ℕ} {piece : List ℕ}
    → len ≤ length a → Adds a b len piece end → Added result b c end more → Added result a c len (piece ++ more)
added_behind c more (Ok last) within p q = adds_behind p q
added_behind c more (Err e) within p q = kept_behind c within p q
