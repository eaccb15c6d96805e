-- Octets with colons between them.
use Rattle.std.proofs.Common.{◌≡◌, ℕ, suc, zero, ◌+◌, ◌/◌, ◌%◌, ◌<◌, ◌≤◌, true, List, [], ◌∷◌, ◌++◌, length, take}
use Rattle.std.proofs.Common.{get_or, refl, sym, ap, ◌∙◌, append_assoc, append-nil, slice_index, arith}
use Rattle.std.specs.Prelude.{nat_lt, IsAscii}
use Rattle.std.specs.List.{flat_map, join_by}
use Rattle.std.proofs.lemmas.Bool.Decides.{nat_tests}
use Rattle.std.proofs.lemmas.List.{take_more}
use Rattle.std.proofs.lemmas.List.Concat.{flat_map-append}
use Rattle.std.proofs.lemmas.List.Elements.{All-weaker}
use Rattle.std.proofs.lemmas.List.Sums.{AllPass-from_list_all}
use Rattle.std.proofs.lemmas.Str.Ascii.{IsAscii-from_all}
use Rattle.hex.specs.Hex.{encode_with, lower_digits}
use Rattle.shown.specs.Values.{octet_text}

below : (c : ℕ) → nat_lt c 128 ≡ true → c < 128
below c h = grind (arith, nat_tests)

digits_ascii : IsAscii lower_digits
digits_ascii = IsAscii-from_all lower_digits
    (All-weaker (λ c. nat_lt c 128 ≡ true) (λ c. c < 128) below lower_digits
    (AllPass-from_list_all (λ c. nat_lt c 128) lower_digits refl))

-- a text with the two digits of an octet after it
pub octet_pushed : (text more most first second : List ℕ) (octet : ℕ)
    → more ≡ text ++ first → most ≡ more ++ second
    → (slice_index lower_digits (octet / 16) < 128 → first ≡ slice_index lower_digits (octet / 16) ∷ [])
    → (slice_index lower_digits (octet % 16) < 128 → second ≡ slice_index lower_digits (octet % 16) ∷ [])
    → most ≡ text ++ octet_text octet
octet_pushed text more most first second octet m a f s =
    a ∙ ap (λ l. l ++ second) m ∙ append_assoc text first second
    ∙ ap (λ l. text ++ l) (λ k. f (digits_ascii (octet / 16)) k ++ s (digits_ascii (octet % 16)) k)

module _ {X A : Type 0} (f : X → List A) (sep : List A) where
  joined_more : (y : X) (ys : List X) (x : X)
      → (join_by f sep (y ∷ ys) ++ sep) ++ f x ≡ join_by f sep (y ∷ (ys ++ x ∷ []))
  joined_more y ys x =
      append_assoc (f y ++ flat_map (λ z. sep ++ f z) ys) sep (f x)
      ∙ append_assoc (f y) (flat_map (λ z. sep ++ f z) ys) (sep ++ f x)
      ∙ ap (λ l. f y ++ (flat_map (λ z. sep ++ f z) ys ++ l)) (sym (append-nil (sep ++ f x)))
      ∙ ap (λ l. f y ++ l) (sym (flat_map-append (λ z. sep ++ f z) ys (x ∷ [])))

  -- the first piece, and a further one
  pub join_first : (xs : List X) (i : ℕ) (d : X) → i ≤ 0 → i < length xs
      → join_by f sep (take i xs) ++ f (get_or xs i d) ≡ join_by f sep (take (i + 1) xs)
  join_first [] i d none lt = absurd (omega arith)
  join_first (x ∷ xs) zero d none lt = sym (append-nil (f x))
  join_first (x ∷ xs) (suc i) d none lt = absurd (omega arith)

  pub join_next : (xs : List X) (i : ℕ) (d : X) → 0 < i → i < length xs
      → (join_by f sep (take i xs) ++ sep) ++ f (get_or xs i d) ≡ join_by f sep (take (i + 1) xs)
  join_next [] i d some lt = absurd (omega arith)
  join_next (x ∷ xs) zero d some lt = absurd (omega arith)
  join_next (x ∷ xs) (suc i) d some lt =
      joined_more x (take i xs) (get_or xs i d)
      ∙ ap (λ l. join_by f sep l) (sym (take_more (x ∷ xs) (suc i) d lt))

-- the two digits of one byte more
pub encode_more : (digits xs : List ℕ) (i d : ℕ) → i < length xs
    → encode_with digits (take i xs)
    ++ (slice_index digits (get_or xs i d / 16) ∷ slice_index digits (get_or xs i d % 16) ∷ [])
    ≡ encode_with digits (take (i + 1) xs)
unfolding encode_with
encode_more digits [] i d lt = absurd (omega arith)
encode_more digits (x ∷ xs) zero d lt = refl
encode_more digits (x ∷ xs) (suc i) d lt =
    let one_more : suc (i + 1) ≡ suc i + 1 = omega arith in
    ap (λ l. slice_index digits (x / 16) ∷ slice_index digits (x % 16) ∷ l) (encode_more digits xs i d (omega arith))
    ∙ ap (λ n. encode_with digits (take n (x ∷ xs))) one_more
