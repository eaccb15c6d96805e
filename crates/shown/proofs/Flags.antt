-- Names of the bits that are set, as far as a table is gone through.
use Rattle.std.proofs.Common.{◌≡◌, ℕ, ◌+◌, ◌<◌, Bool, true, false, cond, List, [], ◌∷◌, ◌++◌, length, take, get_or}
use Rattle.std.proofs.Common.{refl, sym, ap, ◌∙◌, append_assoc, append-nil, Bor, arith}
use Rattle.std.specs.Prelude.{map, not, ◌==◌, ◌≢◌, bit_and}
use Rattle.std.specs.Int.{bit_not, w64}
use Rattle.std.specs.List.{filter}
use Rattle.std.proofs.lemmas.Bool.Decides.{nat_tests}
use Rattle.std.proofs.lemmas.List.{map-append}
use Rattle.std.proofs.lemmas.List.Elements.{filter_more}
use Rattle.std.proofs.lemmas.List.Sums.{fold_more}
use Rattle.json.specs.Token.{string}
use Rattle.shown.specs.declared.page.Nest.TheVariants.{List as Items}
use Rattle.shown.specs.Drafts.{Draft, with_begun, with_value}
use Rattle.shown.specs.Values.{BitNames, names_set, bits_unnamed}
use Rattle.shown.proofs.Drafts.{begun_with}

-- a page in which the names of the bits that are set were added to a list that was begun
abbrev pub flags_begun : List ℕ → BitNames → ℕ → Draft → Draft
flags_begun name table bits page = begun_with name Items (map string (names_set table bits)) page

one : (b : Bool) (row : ℕ × List ℕ)
    → map string (map (λ r. r.1) (cond b (row ∷ []) [])) ≡ cond b (string row.1 ∷ []) []
one true row = refl
one false row = refl

names_more : (table : BitNames) (bits i : ℕ) (d row : ℕ × List ℕ) (b : Bool) → i < length table
    → get_or table i d ≡ row → not (bit_and bits row.0 == 0) ≡ b
    → map string (names_set (take (i + 1) table) bits)
    ≡ map string (names_set (take i table) bits) ++ cond b (string row.1 ∷ []) []
names_more table bits i d row b lt at is =
    let p : ℕ × List ℕ → Bool = λ r. not (bit_and bits r.0 == 0) in
    ap (λ l. map string (map (λ r. r.1) l))
    (filter_more p table i d lt ∙ (λ k. filter p (take i table) ++ cond (p (at k)) (at k ∷ []) [])
    ∙ ap (λ test. filter p (take i table) ++ cond test (row ∷ []) []) is)
    ∙ ap (λ l. map string l) (map-append (λ r. r.1) (filter p (take i table)) (cond b (row ∷ []) []))
    ∙ map-append string (names_set (take i table) bits) (map (λ r. r.1) (cond b (row ∷ []) []))
    ∙ ap (λ l. map string (names_set (take i table) bits) ++ l) (one b row)

-- a table as its rows are passed
abbrev pub rows : List (ℕ × Bor (List ℕ)) → BitNames
rows table = map (λ row. (row.0, row.1.now)) table

pub bits_more : (table : BitNames) (bits i left : ℕ) (d row : ℕ × List ℕ) → i < length table → get_or table i d ≡ row
    → left ≡ bits_unnamed (take i table) bits
    → bit_and left (bit_not w64 row.0) ≡ bits_unnamed (take (i + 1) table) bits
bits_more table bits i left d row lt at is =
    (λ k. bit_and (is k) (bit_not w64 (sym at k).0))
    ∙ sym (fold_more (λ n r. bit_and n (bit_not w64 r.0)) bits table i d lt)

pub flag_added : (name : List ℕ) (table : BitNames) (bits i : ℕ) (d row : ℕ × List ℕ) (old draft new : Draft)
    → i < length table → get_or table i d ≡ row → bit_and bits row.0 ≢ 0
    → draft ≡ flags_begun name (take i table) bits old
    → new ≡ with_value [] (string row.1 ∷ []) draft
    → new ≡ flags_begun name (take (i + 1) table) bits old
flag_added name table bits i d row old draft new lt at set is added =
    let tokens = (with_begun name Items old).tokens in
    let test : not (bit_and bits row.0 == 0) ≡ true = grind (arith, nat_tests) in
    added ∙ ap (λ (p : Draft). with_value [] (string row.1 ∷ []) p) is
    ∙ (λ k. record {
      tokens = (append_assoc tokens (map string (names_set (take i table) bits)) (string row.1 ∷ [])
          ∙ ap (λ l. tokens ++ l) (sym (names_more table bits i d row true lt at test))) k;
      inside = Items;
      outer = (with_begun name Items old).outer;
    })

pub flag_passed : (name : List ℕ) (table : BitNames) (bits i : ℕ) (d row : ℕ × List ℕ) (old draft new : Draft)
    → i < length table → get_or table i d ≡ row → bit_and bits row.0 ≡ 0
    → draft ≡ flags_begun name (take i table) bits old → new ≡ draft
    → new ≡ flags_begun name (take (i + 1) table) bits old
flag_passed name table bits i d row old draft new lt at clear is same =
    let test : not (bit_and bits row.0 == 0) ≡ false = grind (arith, nat_tests) in
    same ∙ is ∙ ap (λ l. begun_with name Items l old)
    (sym (names_more table bits i d row false lt at test ∙ append-nil (map string (names_set (take i table) bits))))
