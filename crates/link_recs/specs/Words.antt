-- Numbers one after the other, and what holds of a record of them.
use Rattle.std.proofs.Common.{◌≡◌, ℕ, ◌-◌, ◌*◌, ◌^◌, ◌<◌, inl, inr, List, [], ◌∷◌, length, FitsSigned, arith, map}
use Rattle.std.proofs.Common.{refl, sym, ap, ap₂, ◌∙◌}
use Rattle.std.proofs.lemmas.Bool.{cases_lt}
use Rattle.std.specs.Int.{Width, byte_len, cast_signed, cast_unsigned}
use Rattle.std.specs.List.{AllByRecursion}
use Rattle.nla_wire.specs.Frames.{IsBytes}
use Rattle.nla_wire.specs.Fields.{numbers_from, signed_from, le_all, le_all_signed, zero_filled}
use Rattle.nla_wire.specs.Records.{RecordLaws}
use Rattle.nla_wire.proofs.Again.{WritesAgain, numbers_encoding, bytes_filled, filled_after, filled_front}
use Rattle.nla_wire.proofs.FieldLemmas.{length-zero_filled, length-numbers_from, length-signed_from}
use Rattle.nla_wire.proofs.FieldLemmas.{numbers_from_same, numbers_from_below, numbers_again, length-le_all}
use Rattle.nla_wire.proofs.FieldLemmas.{le_all_signed_is, signed_number_again, signed_from_is, signed_from_fits}
use Rattle.nla_wire.proofs.FieldLemmas.{signed_again, length-le_all_signed}
use Rattle.nla_wire.proofs.RecordParts.{Part, laws_of, front}
use Rattle.link_recs.specs.Laws.{WordLaws}
use mir.Val.{bits}

-- numbers one after the other, as they are read and written
pub record Words {N : Type 0} (width : ℕ) (Fits : N → Type 0) (read : List ℕ → ℕ → ℕ → List N)
    (text : List N → List ℕ) : Type 0 where
  -- so many of them are a part of a record
  pub part : (n : ℕ) → Part (n * width) (λ p x. read p x n) text
  pub again : (ns : List N) → AllByRecursion Fits ns → read (text ns) 0 (length ns) ≡ ns
  pub size : (ns : List N) → length (text ns) ≡ length ns * width
  -- what was read of just so many bytes is written as them
  pub whole : (q : List ℕ) (n : ℕ) → IsBytes q → length q ≡ n * width → text (read q 0 n) ≡ q

pub unsigned_words : (w : Width) → WritesAgain w → Words (byte_len w) (λ n. n < 2 ^ bits w) (numbers_from w) (le_all w)
unsigned_words w same = record {
  part = λ n. record {
    same = λ a b x y h. numbers_from_same w a b x y n h;
    again = λ p x h.
        ap (numbers_from w (le_all w (numbers_from w p x n)) 0) (sym (length-numbers_from w p x n))
        ∙ numbers_again w (numbers_from w p x n) (numbers_from_below w p x n h);
    sized = λ p x. length-le_all w (numbers_from w p x n) ∙ ap (λ k. k * byte_len w) (length-numbers_from w p x n);
  };
  again = numbers_again w;
  size = length-le_all w;
  whole = numbers_encoding w same;
}

numbers_below_again : (w : Width) (ns : List ℕ) → AllByRecursion (λ x. x < 2 ^ bits w) ns
    → map (cast_unsigned w) (map (cast_signed w) ns) ≡ ns
numbers_below_again w [] small = refl
numbers_below_again w (n ∷ ns) small =
    ap₂ (λ (x : ℕ) (xs : List ℕ). x ∷ xs) (signed_number_again w n small.0) (numbers_below_again w ns small.1)

pub signed_words : (w : Width) → WritesAgain w → Words (byte_len w) (FitsSigned w) (signed_from w) (le_all_signed w)
signed_words w same = record {
  part = λ n. record {
    same = λ a b x y h. signed_from_is w a x n ∙ ap (map (cast_signed w)) (numbers_from_same w a b x y n h)
        ∙ sym (signed_from_is w b y n);
    again = λ p x h.
        ap (signed_from w (le_all_signed w (signed_from w p x n)) 0) (sym (length-signed_from w p x n))
        ∙ signed_again w (signed_from w p x n) (signed_from_fits w p x n h);
    sized = λ p x. length-le_all_signed w (signed_from w p x n) ∙ ap (λ k. k * byte_len w) (length-signed_from w p x n);
  };
  again = signed_again w;
  size = length-le_all_signed w;
  -- they spell what the same numbers without sign do
  whole = λ q n small is.
      le_all_signed_is w (signed_from w q 0 n)
      ∙ ap (λ zs. le_all w (map (cast_unsigned w) zs)) (signed_from_is w q 0 n)
      ∙ ap (le_all w) (numbers_below_again w (numbers_from w q 0 n) (numbers_from_below w q 0 n small))
      ∙ numbers_encoding w same q n small is;
}

-- what is read is what the payload means when it is cut or filled up with zeros
of_filled : {V : Type 0} {text : V → List ℕ} (size : ℕ) (of : List ℕ → V) → RecordLaws size of text → (p : List ℕ)
    → of (zero_filled size p) ≡ of p
of_filled size of laws p = elim (cases_lt (length p) size) [
  | inl short ↦ ap of (filled_after size p (omega (arith, short))) ∙ laws.zeros p (size - length p)
  | inr long ↦ ap of (filled_front size p long) ∙ front size of laws.longer p long
]

-- a record that is made of the list of its n fields
pub word_laws : {V N : Type 0} {width : ℕ} {Fits : N → Type 0} {read : List ℕ → ℕ → ℕ → List N} {text : List N → List ℕ}
    → Words width Fits read text → (n : ℕ) (make : List N → V) (fields : V → List N) (of : List ℕ → V)
    → ((p : List ℕ) → of p ≡ make (read p 0 n)) → ((p : List ℕ) → fields (of p) ≡ read p 0 n)
    → ((v : V) → make (fields v) ≡ v) → ((v : V) → length (fields v) ≡ n)
    → WordLaws Fits read n (n * width) fields of (λ v. text (fields v))
word_laws {width} {read} {text} words n make fields of reads table made count =
    let laws : RecordLaws (n * width) of (λ v. text (fields v)) =
    laws_of (words.part n) make of (λ v. text (fields v)) reads (λ p. ap text (table p)) in
    record {
      table = table;
      only = λ v w e. sym (made v) ∙ ap make e ∙ made w;
      written = λ v fits.
          reads (text (fields v))
          ∙ ap (λ k. make (read (text (fields v)) 0 k)) (sym (count v))
          ∙ ap make (words.again (fields v) fits)
          ∙ made v;
      size_is = λ v. words.size (fields v) ∙ ap (λ k. k * width) (count v);
      plain = λ p h.
          ap (λ v. text (fields v)) (sym (of_filled (n * width) of laws p))
          ∙ ap text (table (zero_filled (n * width) p))
          ∙ words.whole (zero_filled (n * width) p) n (bytes_filled (n * width) p h) (length-zero_filled (n * width) p);
      laws = laws;
    }
