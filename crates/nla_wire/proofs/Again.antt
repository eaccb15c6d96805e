-- What was read is written as the bytes that it was read from: numbers, and payloads that are cut or filled up with
-- zeros.
use Rattle.std.proofs.Common.{◌≡◌, ℕ, zero, suc, ◌+◌, ◌-◌, ◌*◌, ◌≤◌, List, [], ◌∷◌, ◌++◌, length, take, drop}
use Rattle.std.proofs.Common.{replicate, take_all, append-nil, refl, sym, ap, ap₂, subst, ◌∙◌, length-drop, arith}
use Rattle.std.proofs.Common.{lit<}
use Rattle.std.proofs.lemmas.List.{take-append-drop, length-take-le}
use Rattle.std.proofs.lemmas.Nat.{le_bytes_2, le_bytes_4, le_bytes_8}
use Rattle.std.specs.Int.{Width, w8, w16, w32, w64, byte_len, to_le_bytes, from_le_bytes}
use Rattle.nla_wire.specs.Frames.{IsBytes}
use Rattle.nla_wire.specs.Canon.{canon, Writes}
use Rattle.nla_wire.specs.Fields.{number_at, numbers_from, le_all, zero_filled}
use Rattle.nla_wire.proofs.FieldLemmas.{IsBytes-get, number_at_before, number_at_front, numbers_from_after}
use Rattle.nla_wire.proofs.Steps.{bytes_left, bytes_right}

-- the bytes of this width spell a number that is written as them
abbrev pub WritesAgain : Width → Type 0
WritesAgain w = (b : List ℕ) → length b ≡ byte_len w → IsBytes b → to_le_bytes w (from_le_bytes w b) ≡ b

pub writes_again_1 : WritesAgain w8
writes_again_1 [] one small = absurd (omega (arith, one))
writes_again_1 (x ∷ []) one small = ap (λ n. n ∷ []) (omega (arith, small.0))
writes_again_1 (x ∷ y ∷ b) one small = absurd (omega (arith, one))

pub writes_again_2 : WritesAgain w16
writes_again_2 b two small = le_bytes_2 b (from_le_bytes w16 b) two (λ i. IsBytes-get b i small) refl

pub writes_again_4 : WritesAgain w32
writes_again_4 b four small = le_bytes_4 b (from_le_bytes w32 b) four (λ i. IsBytes-get b i small) refl

pub writes_again_8 : WritesAgain w64
writes_again_8 b eight small = le_bytes_8 b (from_le_bytes w64 b) eight (λ i. IsBytes-get b i small) refl

-- an attribute of the bytes is one of the number that they spell
pub number_written : (w : Width) → WritesAgain w → (kind : ℕ) (p old new : List ℕ) (n : ℕ)
    → length p ≡ byte_len w → IsBytes p
    → Writes (canon (record { kind = kind; payload = take (byte_len w) p })) old new n
    → Writes (canon (record { kind = kind; payload = to_le_bytes w (from_le_bytes w p) })) old new n
number_written w again kind p old new n exact small h =
    subst (λ (value : List ℕ). Writes (canon (record { kind = kind; payload = value })) old new n)
    (take_all (byte_len w) p (omega (arith, exact)) ∙ sym (again p exact small)) h

-- numbers that were read one after the other, with nothing after them, are written as the bytes that they were read
-- from
pub numbers_encoding : (w : Width) → WritesAgain w → (q : List ℕ) (n : ℕ) → IsBytes q → length q ≡ n * byte_len w
    → le_all w (numbers_from w q 0 n) ≡ q
numbers_encoding w again [] zero small is = refl
numbers_encoding w again (x ∷ q) zero small is = absurd (omega (arith, is))
numbers_encoding w again q (suc n) small is =
    let k : ℕ = byte_len w in
    let cut : take k q ++ drop k q ≡ q = take-append-drop k q in
    let parts : IsBytes (take k q ++ drop k q) = subst IsBytes (sym cut) small in
    let first : length (take k q) ≡ k = length-take-le k q (omega (arith, is)) in
    let rest : length (drop k q) ≡ n * k = omega (arith, length-drop k q, is) in
    let head : number_at w q 0 ≡ from_le_bytes w (take k q) =
    ap (λ x. number_at w x 0) (sym cut) ∙ number_at_before w (take k q) (drop k q) 0 (omega (arith, first))
    ∙ number_at_front w (take k q) in
    let tail : numbers_from w q (0 + k) n ≡ numbers_from w (drop k q) 0 n =
    ap (λ x. numbers_from w x (0 + k) n) (sym cut) ∙ ap (λ z. numbers_from w (take k q ++ drop k q) z n)
    (omega (arith, first)) ∙ numbers_from_after w (take k q) (drop k q) 0 n in
    ap₂ (λ (x y : List ℕ). x ++ y)
    (ap (to_le_bytes w) head ∙ again (take k q) first (bytes_left (take k q) (drop k q) parts))
    (ap (le_all w) tail ∙ numbers_encoding w again (drop k q) n (bytes_right (take k q) (drop k q) parts) rest)
    ∙ cut

-- ** payloads that are cut, or filled up with zeros

-- a payload that is long enough is cut
pub filled_front : (size : ℕ) (p : List ℕ) → size ≤ length p → zero_filled size p ≡ take size p
unfolding zero_filled
filled_front size p long =
    let no_more : size - length p ≡ 0 = omega arith in
    ap (λ n. take size p ++ replicate n 0) no_more ∙ append-nil (take size p)

-- a shorter one is filled up
pub filled_after : (size : ℕ) (p : List ℕ) → length p ≤ size → zero_filled size p ≡ p ++ replicate (size - length p) 0
unfolding zero_filled
filled_after size p short = ap (λ xs. xs ++ replicate (size - length p) 0) (take_all size p short)

bytes_joined : (xs ys : List ℕ) → IsBytes xs → IsBytes ys → IsBytes (xs ++ ys)
bytes_joined [] ys a b = b
bytes_joined (x ∷ xs) ys a b = (a.0, bytes_joined xs ys a.1 b)

zero_bytes : (n : ℕ) → IsBytes (replicate n 0)
zero_bytes zero = tt
zero_bytes (suc n) = (lit< tt, zero_bytes n)

pub bytes_filled : (size : ℕ) (p : List ℕ) → IsBytes p → IsBytes (zero_filled size p)
unfolding zero_filled
bytes_filled size p small =
    bytes_joined (take size p) (replicate (size - length p) 0) (bytes_left (take size p) (drop size p)
    (subst IsBytes (sym (take-append-drop size p)) small)) (zero_bytes (size - length p))
