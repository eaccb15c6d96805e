-- Numbers one after the other: one more.
use Rattle.std.proofs.Common.{◌≡◌, ℕ, zero, suc, ◌+◌, ◌*◌, ◌<◌, List, [], ◌∷◌, ◌++◌, length, take, map, get_or-take}
use Rattle.std.proofs.Common.{sym, ap, ap₂, ◌∙◌, add-one, zero-add, mul_comm, arith}
use Rattle.std.specs.Prelude.{ℤ, slice_set}
use Rattle.std.proofs.lemmas.List.{take_more_set}
use Rattle.std.specs.Int.{Width, byte_len, cast_signed}
use Rattle.nla_wire.proofs.FieldLemmas.{numbers_from_same, signed_from_is}
use Rattle.nla_wire.specs.Fields.{number_at, numbers_from, signed_at, signed_from}

pub numbers_from-more : (w : Width) (p : List ℕ) (place n : ℕ)
    → numbers_from w p place (suc n) ≡ numbers_from w p place n ++ number_at w p (place + n * byte_len w) ∷ []
numbers_from-more w p place zero = ap (λ x. number_at w p x ∷ []) (omega arith)
numbers_from-more w p place (suc n) =
    let same : place + byte_len w + n * byte_len w ≡ place + suc n * byte_len w = omega arith in
    ap (λ ns. number_at w p place ∷ ns) (numbers_from-more w p (place + byte_len w) n
    ∙ ap (λ x. numbers_from w p (place + byte_len w) n ++ number_at w p x ∷ []) same)

pub signed_from-more : (w : Width) (p : List ℕ) (place n : ℕ)
    → signed_from w p place (suc n) ≡ signed_from w p place n ++ signed_at w p (place + n * byte_len w) ∷ []
signed_from-more w p place zero = ap (λ x. signed_at w p x ∷ []) (omega arith)
signed_from-more w p place (suc n) =
    let same : place + byte_len w + n * byte_len w ≡ place + suc n * byte_len w = omega arith in
    ap (λ ns. signed_at w p place ∷ ns) (signed_from-more w p (place + byte_len w) n
    ∙ ap (λ x. signed_from w p (place + byte_len w) n ++ signed_at w p x ∷ []) same)

-- a turn of the loop that reads them
pub numbers_turn : (w : Width) (p : List ℕ) (words : List ℕ) (i k : ℕ) (x : ℕ) → k ≡ byte_len w → i < length words
    → take i words ≡ numbers_from w p 0 i → x ≡ number_at w p (k * i)
    → take (i + 1) (slice_set words i x) ≡ numbers_from w p 0 (i + 1)
numbers_turn w p words i k x width h was is =
    let place : k * i ≡ 0 + i * byte_len w =
    ap (λ y. y * i) width ∙ mul_comm (byte_len w) i ∙ sym (zero-add (i * byte_len w)) in
    take_more_set words i x h
    ∙ ap₂ (λ ns y. ns ++ y ∷ []) was (is ∙ ap (number_at w p) place)
    ∙ sym (numbers_from-more w p 0 i)
    ∙ ap (numbers_from w p 0) (sym (add-one i))

-- a turn of the loop that reads them
pub signed_turn : (w : Width) (p : List ℕ) (words : List ℤ) (i k : ℕ) (x : ℤ) → k ≡ byte_len w → i < length words
    → take i words ≡ signed_from w p 0 i → x ≡ signed_at w p (k * i)
    → take (i + 1) (slice_set words i x) ≡ signed_from w p 0 (i + 1)
signed_turn w p words i k x width h was is =
    let place : k * i ≡ 0 + i * byte_len w =
    ap (λ y. y * i) width ∙ mul_comm (byte_len w) i ∙ sym (zero-add (i * byte_len w)) in
    take_more_set words i x h
    ∙ ap₂ (λ ns y. ns ++ y ∷ []) was (is ∙ ap (signed_at w p) place)
    ∙ sym (signed_from-more w p 0 i)
    ∙ ap (signed_from w p 0) (sym (add-one i))

-- those of a payload that is cut after them
pub numbers_cut : (w : Width) (p : List ℕ) (n k : ℕ) → k ≡ n * byte_len w
    → numbers_from w (take k p) 0 n ≡ numbers_from w p 0 n
numbers_cut w p n k is =
    numbers_from_same w (take k p) p 0 0 n (λ i l. get_or-take k p (0 + i) 0 (omega (arith, l, is)))

pub signed_cut : (w : Width) (p : List ℕ) (n k : ℕ) → k ≡ n * byte_len w
    → signed_from w (take k p) 0 n ≡ signed_from w p 0 n
signed_cut w p n k is = signed_from_is w (take k p) 0 n ∙ ap (map (cast_signed w)) (numbers_cut w p n k is)
    ∙ sym (signed_from_is w p 0 n)
