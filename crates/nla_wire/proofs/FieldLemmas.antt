-- Numbers of records read again from their bytes.
use Rattle.std.proofs.Common.{◌≡◌, ℕ, zero, suc, ◌+◌, ◌-◌, ◌*◌, ◌/◌, ◌%◌, ◌^◌, ◌<◌, ◌≤◌, ℤ, List, [], ◌∷◌, ◌++◌}
use Rattle.std.proofs.Common.{length, get_or, map, take, replicate, FitsSigned, add_comm, add_assoc, zero-add}
use Rattle.std.proofs.Common.{add-zero, mul_comm, mod-eq_of_lt, pow-suc, refl, sym, ap, ap₂, subst, ◌∙◌}
use Rattle.std.proofs.Common.{append_assoc, append-nil, length-append, length-take, take_all, get_or-append-add}
use Rattle.std.proofs.Common.{arith, lit<}
use Rattle.std.proofs.lemmas.List.{get_or_append_left, length-map, length-replicate}
use Rattle.std.proofs.Math.Arith.{mod-mul, digits_lt}
use Rattle.std.proofs.Math.Facts.{sfits_to_z, Fits-of_z, to_z-of_z, of_z-to_z}
use Rattle.std.specs.Int.{Width, w8, w16, w32, w64, w128, byte_len, byte_at, byte_worth, bytes_low_first, to_le_bytes}
use Rattle.std.specs.Int.{from_le_bytes, from_be_bytes, cast_signed, cast_unsigned, sum_through}
use Rattle.std.specs.List.{AllByRecursion}
use Rattle.nla_wire.specs.Frames.{IsBytes}
use Rattle.nla_wire.specs.Fields.{zero_filled, be_number_at, number_at, signed_at, numbers_from, signed_from, le_all}
use Rattle.nla_wire.specs.Fields.{le_all_signed}
use mir.Val.{bits}

-- ** widths

pub byte_len_pos : (w : Width) → 0 < byte_len w
byte_len_pos w8 = lit< tt
byte_len_pos w16 = lit< tt
byte_len_pos w32 = lit< tt
byte_len_pos w64 = lit< tt
byte_len_pos w128 = lit< tt

-- so many bytes have as many values as the width
pub bytes_of_width : (w : Width) → 256 ^ byte_len w ≡ 2 ^ bits w
bytes_of_width w8 = refl
bytes_of_width w16 = refl
bytes_of_width w32 = refl
bytes_of_width w64 = refl
bytes_of_width w128 = refl

-- ** sums of bytes

same_sum : (f g : ℕ → ℕ) (k : ℕ) → ((i : ℕ) → i ≤ k → f i ≡ g i) → sum_through f k ≡ sum_through g k
same_sum f g zero h = h 0 (omega arith)
same_sum f g (suc k) h = ap₂ (λ a b. a + b) (same_sum f g k (λ i l. h i (omega arith))) (h (suc k) (omega arith))

-- so many numbers below the width's bytes
same_number : (w : Width) (f g : ℕ → ℕ) → ((i : ℕ) → i < byte_len w → f i ≡ g i)
    → sum_through (λ i. byte_worth i (f i)) (byte_len w - 1) ≡ sum_through (λ i. byte_worth i (g i)) (byte_len w - 1)
same_number w f g h = same_sum (λ i. byte_worth i (f i)) (λ i. byte_worth i (g i)) (byte_len w - 1)
    (λ i l. ap (byte_worth i) (h i (omega (arith, byte_len_pos w))))

power_pos : (k : ℕ) → 0 < 256 ^ k
power_pos zero = lit< tt
power_pos (suc k) = omega (arith, pow-suc 256 k, power_pos k)

sum_below : (f : ℕ → ℕ) → ((i : ℕ) → f i < 256) → (k : ℕ) → sum_through (λ i. byte_worth i (f i)) k < 256 ^ suc k
sum_below f h zero = h 0
sum_below f h (suc k) = omega (arith, pow-suc 256 (suc k), digits_lt (h (suc k)) (sum_below f h k))

-- the bytes of a number, each for its worth, are the number
sum_of_bytes : (n k : ℕ) → sum_through (λ i. byte_worth i (byte_at i n)) k ≡ n % 256 ^ suc k
sum_of_bytes n zero = refl
sum_of_bytes n (suc k) =
    ap (λ s. s + n / 256 ^ suc k % 256 * 256 ^ suc k) (sum_of_bytes n k)
    ∙ add_comm (n % 256 ^ suc k) (n / 256 ^ suc k % 256 * 256 ^ suc k)
    ∙ sym (mod-mul n {m = 256} {c = 256 ^ suc k} (lit< tt) (power_pos (suc k)))
    ∙ ap (λ x. n % x) (mul_comm 256 (256 ^ suc k) ∙ sym (pow-suc 256 (suc k)))

-- ** a number and its bytes

length-low_first : (i k n : ℕ) → length (bytes_low_first i k n) ≡ k
length-low_first i zero n = refl
length-low_first i (suc k) n = ap suc (length-low_first (suc i) k n)

get_low : (j k n i : ℕ) → i < k → get_or (bytes_low_first j k n) i 0 ≡ byte_at (j + i) n
get_low j zero n i h = absurd (omega arith)
get_low j (suc k) n zero h = ap (λ x. byte_at x n) (omega arith)
get_low j (suc k) n (suc i) h = get_low (suc j) k n i (omega arith) ∙ ap (λ x. byte_at x n) (omega arith)

pub length-to_le_bytes : (w : Width) (n : ℕ) → length (to_le_bytes w n) ≡ byte_len w
length-to_le_bytes w n = length-low_first 0 (byte_len w) n

pub from_le_bytes-to_le_bytes : (w : Width) (n : ℕ) → n < 2 ^ bits w → from_le_bytes w (to_le_bytes w n) ≡ n
from_le_bytes-to_le_bytes w n h =
    let last : suc (byte_len w - 1) ≡ byte_len w = omega (arith, byte_len_pos w) in
    same_number w (λ i. get_or (to_le_bytes w n) i 0) (λ i. byte_at i n)
    (λ i l. get_low 0 (byte_len w) n i l ∙ ap (λ x. byte_at x n) (zero-add i))
    ∙ sum_of_bytes n (byte_len w - 1)
    ∙ ap (λ x. n % 256 ^ x) last
    ∙ ap (λ x. n % x) (bytes_of_width w)
    ∙ mod-eq_of_lt h

pub IsBytes-get : (b : List ℕ) (i : ℕ) → IsBytes b → get_or b i 0 < 256
IsBytes-get [] i h = lit< tt
IsBytes-get (x ∷ b) zero h = h.0
IsBytes-get (x ∷ b) (suc i) h = IsBytes-get b i h.1

sum_fits : (w : Width) (f : ℕ → ℕ) → ((i : ℕ) → f i < 256)
    → sum_through (λ i. byte_worth i (f i)) (byte_len w - 1) < 2 ^ bits w
sum_fits w f h =
    let last : suc (byte_len w - 1) ≡ byte_len w = omega (arith, byte_len_pos w) in
    subst (λ x. sum_through (λ i. byte_worth i (f i)) (byte_len w - 1) < x) (ap (λ x. 256 ^ x) last ∙ bytes_of_width w)
    (sum_below f h (byte_len w - 1))

pub from_le_bytes_below : (w : Width) (p : List ℕ) → IsBytes p → from_le_bytes w p < 2 ^ bits w
from_le_bytes_below w p h = sum_fits w (λ i. get_or p i 0) (λ i. IsBytes-get p i h)

-- ** a number at a place

pub number_at_below : (w : Width) (p : List ℕ) (place : ℕ) → IsBytes p → number_at w p place < 2 ^ bits w
unfolding number_at
number_at_below w p place h = sum_fits w (λ i. get_or p (place + i) 0) (λ i. IsBytes-get p (place + i) h)

-- it is the number of those bytes alone
pub number_at_same : (w : Width) (a b : List ℕ) (x y : ℕ)
    → ((i : ℕ) → i < byte_len w → get_or a (x + i) 0 ≡ get_or b (y + i) 0)
    → number_at w a x ≡ number_at w b y
unfolding number_at
number_at_same w a b x y h = same_number w (λ i. get_or a (x + i) 0) (λ i. get_or b (y + i) 0) h

pub number_at_front : (w : Width) (p : List ℕ) → number_at w p 0 ≡ from_le_bytes w p
unfolding number_at
number_at_front w p =
    same_number w (λ i. get_or p (0 + i) 0) (λ i. get_or p i 0) (λ i l. ap (λ x. get_or p x 0) (zero-add i))

zero_there : (m j : ℕ) → get_or {A = ℕ} (replicate m 0) j 0 ≡ 0
zero_there zero j = refl
zero_there (suc m) zero = refl
zero_there (suc m) (suc j) = zero_there m j

-- zeros after bytes aren't seen
pub get_or_zeros : (bytes : List ℕ) (m j : ℕ) → get_or (bytes ++ replicate m 0) j 0 ≡ get_or bytes j 0
get_or_zeros [] m j = zero_there m j
get_or_zeros (x ∷ bytes) m zero = refl
get_or_zeros (x ∷ bytes) m (suc j) = get_or_zeros bytes m j

-- bytes after a payload that is long enough aren't seen, nor are bytes in front of the place
pub number_at_before : (w : Width) (bytes more : List ℕ) (place : ℕ) → place + byte_len w ≤ length bytes
    → number_at w (bytes ++ more) place ≡ number_at w bytes place
number_at_before w bytes more place h = number_at_same w (bytes ++ more) bytes place place
    (λ i l. get_or_append_left bytes more 0 (place + i) (omega arith))

pub number_at_after : (w : Width) (front bytes : List ℕ) (place : ℕ)
    → number_at w (front ++ bytes) (length front + place) ≡ number_at w bytes place
number_at_after w front bytes place = number_at_same w (front ++ bytes) bytes (length front + place) place (λ i l.
    ap (λ z. get_or (front ++ bytes) z 0) (add_assoc (length front) place i)
    ∙ get_or-append-add front bytes (place + i) 0)

-- ** numbers one after the other

pub length-numbers_from : (w : Width) (p : List ℕ) (place n : ℕ) → length (numbers_from w p place n) ≡ n
length-numbers_from w p place zero = refl
length-numbers_from w p place (suc n) = ap suc (length-numbers_from w p (place + byte_len w) n)

pub numbers_from_below : (w : Width) (p : List ℕ) (place n : ℕ) → IsBytes p
    → AllByRecursion (λ x. x < 2 ^ bits w) (numbers_from w p place n)
numbers_from_below w p place zero h = tt
numbers_from_below w p place (suc n) h = (number_at_below w p place h, numbers_from_below w p (place + byte_len w) n h)

pub numbers_from_same : (w : Width) (a b : List ℕ) (x y n : ℕ)
    → ((i : ℕ) → i < n * byte_len w → get_or a (x + i) 0 ≡ get_or b (y + i) 0)
    → numbers_from w a x n ≡ numbers_from w b y n
numbers_from_same w a b x y zero h = refl
numbers_from_same w a b x y (suc n) h =
    let here : number_at w a x ≡ number_at w b y = number_at_same w a b x y (λ i l. h i (omega arith)) in
    let after : numbers_from w a (x + byte_len w) n ≡ numbers_from w b (y + byte_len w) n =
    numbers_from_same w a b (x + byte_len w) (y + byte_len w) n (λ i l.
    ap (λ z. get_or a z 0) (add_assoc x (byte_len w) i)
    ∙ h (byte_len w + i) (omega arith)
    ∙ ap (λ z. get_or b z 0) (sym (add_assoc y (byte_len w) i))) in
    (λ j. here j ∷ after j)

-- nor are bytes in front of the place
pub numbers_from_after : (w : Width) (front bytes : List ℕ) (place n : ℕ)
    → numbers_from w (front ++ bytes) (length front + place) n ≡ numbers_from w bytes place n
numbers_from_after w front bytes place n =
    numbers_from_same w (front ++ bytes) bytes (length front + place) place n (λ i l.
    ap (λ z. get_or (front ++ bytes) z 0) (add_assoc (length front) place i)
    ∙ get_or-append-add front bytes (place + i) 0)

-- a number is read again from its bytes, whatever follows, and whatever stands in front of them
pub number_again : (w : Width) (n : ℕ) (more : List ℕ) → n < 2 ^ bits w → number_at w (to_le_bytes w n ++ more) 0 ≡ n
number_again w n more h =
    number_at_before w (to_le_bytes w n) more 0 (omega (arith, length-to_le_bytes w n))
    ∙ number_at_front w (to_le_bytes w n) ∙ from_le_bytes-to_le_bytes w n h

pub number_again_between : (w : Width) (front : List ℕ) (n : ℕ) (more : List ℕ) (place : ℕ) → n < 2 ^ bits w
    → length front ≡ place
    → number_at w (front ++ (to_le_bytes w n ++ more)) place ≡ n
number_again_between w front n more place h is =
    ap (number_at w (front ++ (to_le_bytes w n ++ more))) (sym is ∙ sym (add-zero (length front)))
    ∙ number_at_after w front (to_le_bytes w n ++ more) 0
    ∙ number_again w n more h

-- numbers are read again from their bytes, whatever follows
pub numbers_again_before : (w : Width) (ns : List ℕ) (more : List ℕ) → AllByRecursion (λ n. n < 2 ^ bits w) ns
    → numbers_from w (le_all w ns ++ more) 0 (length ns) ≡ ns
numbers_again_before w [] more h = refl
numbers_again_before w (n ∷ ns) more h =
    let text : List ℕ = to_le_bytes w n in
    let regroup : (text ++ le_all w ns) ++ more ≡ text ++ (le_all w ns ++ more) =
    append_assoc text (le_all w ns) more in
    let here : number_at w ((text ++ le_all w ns) ++ more) 0 ≡ n =
    ap (λ x. number_at w x 0) regroup ∙ number_again w n (le_all w ns ++ more) h.0 in
    let place : 0 + byte_len w ≡ length text + 0 = omega (arith, length-to_le_bytes w n) in
    let after : numbers_from w ((text ++ le_all w ns) ++ more) (0 + byte_len w) (length ns) ≡ ns =
    ap₂ (λ x y. numbers_from w x y (length ns)) regroup place
    ∙ numbers_from_after w text (le_all w ns ++ more) 0 (length ns)
    ∙ numbers_again_before w ns more h.1 in
    (λ j. here j ∷ after j)

pub numbers_again : (w : Width) (ns : List ℕ) → AllByRecursion (λ n. n < 2 ^ bits w) ns
    → numbers_from w (le_all w ns) 0 (length ns) ≡ ns
numbers_again w ns h = ap (λ x. numbers_from w x 0 (length ns)) (sym (append-nil (le_all w ns)))
    ∙ numbers_again_before w ns [] h

pub length-le_all : (w : Width) (ns : List ℕ) → length (le_all w ns) ≡ length ns * byte_len w
length-le_all w [] = omega arith
length-le_all w (n ∷ ns) =
    omega (arith, length-append (to_le_bytes w n) (le_all w ns), length-to_le_bytes w n, length-le_all w ns)

-- ** signed numbers

pub signed_from_is : (w : Width) (p : List ℕ) (place n : ℕ)
    → signed_from w p place n ≡ map (cast_signed w) (numbers_from w p place n)
signed_from_is w p place zero = refl
signed_from_is w p place (suc n) = ap (λ zs. signed_at w p place ∷ zs) (signed_from_is w p (place + byte_len w) n)

pub le_all_signed_is : (w : Width) (zs : List ℤ) → le_all_signed w zs ≡ le_all w (map (cast_unsigned w) zs)
le_all_signed_is w [] = refl
le_all_signed_is w (z ∷ zs) = ap (λ b. to_le_bytes w (cast_unsigned w z) ++ b) (le_all_signed_is w zs)

unsigned_below : (w : Width) (zs : List ℤ) → AllByRecursion (FitsSigned w) zs
    → AllByRecursion (λ n. n < 2 ^ bits w) (map (cast_unsigned w) zs)
unsigned_below w [] h = tt
unsigned_below w (z ∷ zs) h = ((Fits-of_z h.0).fits, unsigned_below w zs h.1)

signed_there : (w : Width) (zs : List ℤ) → AllByRecursion (FitsSigned w) zs
    → map (cast_signed w) (map (cast_unsigned w) zs) ≡ zs
signed_there w [] h = refl
signed_there w (z ∷ zs) h = let here = to_z-of_z h.0 in let after = signed_there w zs h.1 in (λ i. here i ∷ after i)

pub signed_from_fits : (w : Width) (p : List ℕ) (place n : ℕ) → IsBytes p
    → AllByRecursion (FitsSigned w) (signed_from w p place n)
signed_from_fits w p place zero h = tt
signed_from_fits w p place (suc n) h =
    (sfits_to_z (record { fits = number_at_below w p place h }), signed_from_fits w p (place + byte_len w) n h)

pub signed_again_before : (w : Width) (zs : List ℤ) (more : List ℕ) → AllByRecursion (FitsSigned w) zs
    → signed_from w (le_all_signed w zs ++ more) 0 (length zs) ≡ zs
signed_again_before w zs more h =
    ap (λ x. signed_from w (x ++ more) 0 (length zs)) (le_all_signed_is w zs)
    ∙ ap (λ n. signed_from w (le_all w (map (cast_unsigned w) zs) ++ more) 0 n) (sym (length-map zs (cast_unsigned w)))
    ∙ signed_from_is w (le_all w (map (cast_unsigned w) zs) ++ more) 0 (length (map (cast_unsigned w) zs))
    ∙ ap (map (cast_signed w)) (numbers_again_before w (map (cast_unsigned w) zs) more (unsigned_below w zs h))
    ∙ signed_there w zs h

pub signed_again : (w : Width) (zs : List ℤ) → AllByRecursion (FitsSigned w) zs
    → signed_from w (le_all_signed w zs) 0 (length zs) ≡ zs
signed_again w zs h = ap (λ x. signed_from w x 0 (length zs)) (sym (append-nil (le_all_signed w zs)))
    ∙ signed_again_before w zs [] h

pub length-le_all_signed : (w : Width) (zs : List ℤ) → length (le_all_signed w zs) ≡ length zs * byte_len w
length-le_all_signed w zs =
    ap length (le_all_signed_is w zs) ∙ length-le_all w (map (cast_unsigned w) zs)
    ∙ ap (λ n. n * byte_len w) (length-map zs (cast_unsigned w))

pub length-signed_from : (w : Width) (p : List ℕ) (place n : ℕ) → length (signed_from w p place n) ≡ n
length-signed_from w p place zero = refl
length-signed_from w p place (suc n) = ap suc (length-signed_from w p (place + byte_len w) n)

-- what was read as signed, written and read again, is the same number
pub signed_number_again : (w : Width) (n : ℕ) → n < 2 ^ bits w → cast_unsigned w (cast_signed w n) ≡ n
signed_number_again w n h = of_z-to_z (record { fits = h })

-- ** numbers whose highest byte comes first

pub be_number_at_same : (w : Width) (a b : List ℕ) (x y : ℕ)
    → ((i : ℕ) → i < byte_len w → get_or a (x + i) 0 ≡ get_or b (y + i) 0)
    → be_number_at w a x ≡ be_number_at w b y
unfolding be_number_at
be_number_at_same w a b x y h =
    same_sum (λ i. byte_worth (byte_len w - 1 - i) (get_or a (x + i) 0))
    (λ i. byte_worth (byte_len w - 1 - i) (get_or b (y + i) 0)) (byte_len w - 1)
    (λ i l. ap (byte_worth (byte_len w - 1 - i)) (h i (omega (arith, byte_len_pos w))))

pub be_number_at_front : (w : Width) (p : List ℕ) → be_number_at w p 0 ≡ from_be_bytes w p
unfolding be_number_at
be_number_at_front w p =
    same_sum (λ i. byte_worth (byte_len w - 1 - i) (get_or p (0 + i) 0)) (λ i. byte_worth (byte_len w - 1 - i)
    (get_or p i 0)) (byte_len w - 1) (λ i l. ap (λ x. byte_worth (byte_len w - 1 - i) (get_or p x 0)) (zero-add i))

pub be_number_at_below : (p : List ℕ) (place : ℕ) → IsBytes p → be_number_at w16 p place < 2 ^ 16
unfolding be_number_at
be_number_at_below p place h = omega (arith, IsBytes-get p (place + 0) h, IsBytes-get p (place + 1) h)

-- ** bytes filled up with zeros

pub length-zero_filled : (n : ℕ) (bytes : List ℕ) → length (zero_filled n bytes) ≡ n
unfolding zero_filled
length-zero_filled n bytes = omega (
  arith,
  length-append (take n bytes) (replicate (n - length bytes) 0),
  length-take n bytes,
  length-replicate {A = ℕ} (n - length bytes) 0,
)

-- so many bytes stay as they are
pub zero_filled_whole : (n : ℕ) (bytes : List ℕ) → length bytes ≡ n → zero_filled n bytes ≡ bytes
unfolding zero_filled
zero_filled_whole n bytes is =
    let no_more : n - length bytes ≡ 0 = omega arith in
    ap₂ (λ (x : List ℕ) (y : ℕ). x ++ replicate y 0) (take_all n bytes (omega arith)) no_more ∙ append-nil bytes

pub zero_filled_again : (n : ℕ) (bytes : List ℕ) → zero_filled n (zero_filled n bytes) ≡ zero_filled n bytes
zero_filled_again n bytes = zero_filled_whole n (zero_filled n bytes) (length-zero_filled n bytes)
