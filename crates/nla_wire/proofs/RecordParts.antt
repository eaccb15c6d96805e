-- The laws of a record, from its fields one after the other.
use Rattle.std.proofs.Common.{◌≡◌, ℕ, ◌+◌, ◌-◌, ◌^◌, ◌<◌, ◌≤◌, List, [], ◌∷◌, ◌++◌, length, get_or, take, drop}
use Rattle.std.proofs.Common.{replicate, add_assoc, add-zero, refl, sym, ap, ap₂, ◌∙◌, length-append}
use Rattle.std.proofs.Common.{get_or-append-add, get_or-take, get_or-drop, arith, lit<}
use Rattle.std.proofs.lemmas.List.{get_or_append_left, take-append-drop, length-take-le, length-replicate, ext_get_or}
use Rattle.std.specs.Int.{Width, w16, byte_len, to_le_bytes, from_le_bytes, to_be_bytes, from_be_bytes}
use Rattle.nla_wire.specs.Frames.{IsBytes}
use Rattle.nla_wire.specs.Fields.{number_at, be_number_at, zero_filled}
use Rattle.nla_wire.specs.Records.{BytesAfter, RecordLaws}
use mir.Val.{bits}
use Rattle.nla_wire.proofs.FieldLemmas.{number_at_same, number_at_below, number_at_front, be_number_at_same}
use Rattle.nla_wire.proofs.FieldLemmas.{be_number_at_below, be_number_at_front, from_le_bytes-to_le_bytes}
use Rattle.nla_wire.proofs.FieldLemmas.{length-to_le_bytes, get_or_zeros, length-zero_filled, zero_filled_again}

-- a field of so many bytes: how it is read at a place of a payload that zeros follow, and how it is written
pub record Part {A : Type 0} (size : ℕ) (read : List ℕ → ℕ → A) (encoding : A → List ℕ) : Type 0 where
  -- it is read from its own bytes alone
  pub same : (a b : List ℕ) (x y : ℕ) → ((i : ℕ) → i < size → get_or a (x + i) 0 ≡ get_or b (y + i) 0)
      → read a x ≡ read b y
  pub again : (p : List ℕ) (x : ℕ) → IsBytes p → read (encoding (read p x)) 0 ≡ read p x
  pub sized : (p : List ℕ) (x : ℕ) → length (encoding (read p x)) ≡ size

-- one field after the other
infixr 4 ◌&◌
pub ◌&◌ : {A B : Type 0} {m n : ℕ} {read : List ℕ → ℕ → A} {encoding : A → List ℕ} {read' : List ℕ → ℕ → B}
    {encoding' : B → List ℕ}
    → Part m read encoding → Part n read' encoding'
    → Part (m + n) (λ p x. (read p x, read' p (x + m))) (λ (v : A × B). encoding v.0 ++ encoding' v.1)
◌&◌ {m} {n} {read} {encoding} {read'} {encoding'} f g = record {
  same = λ a b x y h.
      let here : read a x ≡ read b y = f.same a b x y (λ i l. h i (omega (arith, l))) in
      let after : read' a (x + m) ≡ read' b (y + m) = g.same a b (x + m) (y + m) (λ i l.
      ap (λ k. get_or a k 0) (add_assoc x m i) ∙ h (m + i) (omega (arith, l))
      ∙ ap (λ k. get_or b k 0) (sym (add_assoc y m i))) in
      (λ j. (here j, after j));
  again = λ p x h.
      let t : List ℕ = encoding (read p x) in
      let u : List ℕ = encoding' (read' p (x + m)) in
      let here : read (t ++ u) 0 ≡ read p x =
      f.same (t ++ u) t 0 0 (λ i l. get_or_append_left t u 0 (0 + i) (omega (arith, l, f.sized p x))) ∙ f.again p x h in
      let after : read' (t ++ u) (0 + m) ≡ read' p (x + m) =
      g.same (t ++ u) u (0 + m) 0 (λ i l.
      ap (λ k. get_or (t ++ u) k 0) (omega (arith, f.sized p x)) ∙ get_or-append-add t u (0 + i) 0)
      ∙ g.again p (x + m) h in
      (λ j. (here j, after j));
  sized = λ p x.
      length-append (encoding (read p x)) (encoding' (read' p (x + m)))
      ∙ ap₂ (λ a b. a + b) (f.sized p x) (g.sized p (x + m));
}

pub laws_of : {A V : Type 0} {size : ℕ} {read : List ℕ → ℕ → A} {encoding : A → List ℕ} → Part size read encoding
    → (make : A → V) (of : List ℕ → V) (bytes : V → List ℕ)
    → ((p : List ℕ) → of p ≡ make (read p 0)) → ((p : List ℕ) → bytes (of p) ≡ encoding (read p 0))
    → RecordLaws size of bytes
laws_of {read} part make of bytes reads writes = record {
  zeros = λ p m.
      reads (p ++ replicate m 0) ∙ ap make (part.same (p ++ replicate m 0) p 0 0 (λ i l. get_or_zeros p m (0 + i)))
      ∙ sym (reads p);
  longer = λ p more h.
      reads (p ++ more) ∙ ap make
      (part.same (p ++ more) p 0 0 (λ i l. get_or_append_left p more 0 (0 + i) (omega (arith, l, h)))) ∙ sym (reads p);
  again = λ p h.
      reads (bytes (of p)) ∙ ap (λ t. make (read t 0)) (writes p) ∙ ap make (part.again p 0 h) ∙ sym (reads p);
  sized = λ p. ap length (writes p) ∙ part.sized p 0;
}

-- the front alone means the same
pub front : {V : Type 0} (size : ℕ) (of : List ℕ → V) → BytesAfter size of → (p : List ℕ) → size ≤ length p
    → of (take size p) ≡ of p
front size of longer p h =
    let long : size ≤ length (take size p) = omega (arith, length-take-le size p h) in
    sym (longer (take size p) (drop size p) long) ∙ ap of (take-append-drop size p)

-- ** fields

-- a number of this width, as the value that it stands for
pub number_as : {B : Type 0} (w : Width) (to : ℕ → B) (from : B → ℕ)
    → ((n : ℕ) → n < 2 ^ bits w → to (from_le_bytes w (to_le_bytes w (from (to n)))) ≡ to n)
    → Part (byte_len w) (λ p x. to (number_at w p x)) (λ v. to_le_bytes w (from v))
number_as w to from back = record {
  same = λ a b x y h. ap to (number_at_same w a b x y h);
  again = λ p x h. ap to (number_at_front w (to_le_bytes w (from (to (number_at w p x)))))
      ∙ back (number_at w p x) (number_at_below w p x h);
  sized = λ p x. length-to_le_bytes w (from (to (number_at w p x)));
}

pub number : (w : Width) → Part (byte_len w) (number_at w) (to_le_bytes w)
number w = number_as w (λ n. n) (λ n. n) (from_le_bytes-to_le_bytes w)

-- the same of two bytes, the highest first
pub be_number_as : {B : Type 0} (to : ℕ → B) (from : B → ℕ)
    → ((n : ℕ) → n < 2 ^ 16 → to (from_be_bytes w16 (to_be_bytes w16 (from (to n)))) ≡ to n)
    → Part 2 (λ p x. to (be_number_at w16 p x)) (λ v. to_be_bytes w16 (from v))
be_number_as to from back = record {
  same = λ a b x y h. ap to (be_number_at_same w16 a b x y h);
  again = λ p x h. ap to (be_number_at_front w16 (to_be_bytes w16 (from (to (be_number_at w16 p x)))))
      ∙ back (be_number_at w16 p x) (be_number_at_below p x h);
  sized = λ p x. refl;
}

pub byte : Part 1 (λ p x. get_or p x 0) (λ b. b ∷ [])
byte = record {
  same = λ a b x y h. ap (λ k. get_or a k 0) (sym (add-zero x)) ∙ h 0 (lit< tt) ∙ ap (λ k. get_or b k 0) (add-zero y);
  again = λ p x h. refl;
  sized = λ p x. refl;
}

-- zeros, which are not read
pub padding : (n : ℕ) → Part n (λ p x. tt {0}) (λ v. replicate n 0)
padding n = record { same = λ a b x y h. refl; again = λ p x h. refl; sized = λ p x. length-replicate {A = ℕ} n 0 }

get_filled : (n : ℕ) (p : List ℕ) (i : ℕ) → i < n → get_or (zero_filled n p) i 0 ≡ get_or p i 0
unfolding zero_filled
get_filled n p i l = get_or_zeros (take n p) (n - length p) i ∙ get_or-take n p i 0 l

-- bytes as they are
pub bytes : (n : ℕ) → Part n (λ p x. zero_filled n (drop x p)) (λ v. v)
bytes n = record {
  same = λ a b x y h. ext_get_or 0 (zero_filled n (drop x a)) (zero_filled n (drop y b))
      (length-zero_filled n (drop x a) ∙ sym (length-zero_filled n (drop y b))) (λ i l.
      let below : i < n = omega (arith, l, length-zero_filled n (drop x a)) in
      get_filled n (drop x a) i below ∙ get_or-drop x a i 0 ∙ h i below ∙ sym (get_or-drop y b i 0)
      ∙ sym (get_filled n (drop y b) i below));
  again = λ p x h. zero_filled_again n (drop x p);
  sized = λ p x. length-zero_filled n (drop x p);
}
