-- What was read by a style and is written is the payload that it was, and is read as the same.
use Rattle.std.proofs.Common.{◌≡◌, ◌↔◌, ℕ, ◌%◌, ◌⊎◌, inl, inr, Bool, true, false, cond, List, [], ◌∷◌, ◌++◌, length}
use Rattle.std.proofs.Common.{refl, ap, sym, ◌∙◌, Result, Ok, Err, arith, eqb-true}
use Rattle.std.specs.Int.{w8, byte_len, from_le_bytes, from_be_bytes, to_le_bytes, to_be_bytes}
use Rattle.std.specs.Str.{is_utf8}
use Rattle.std.proofs.lemmas.Nat.{le_bytes_2, le_bytes_4, le_bytes_8, be_bytes_2, be_bytes_4, be_bytes_8}
use Rattle.std.proofs.lemmas.Int.{of_z-to_z}
use Rattle.std.proofs.lemmas.Str.{IsUtf8-from_is_utf8, is_utf8-from_IsUtf8}
use Rattle.nla_wire.specs.Frames.{IsBytes}
use Rattle.nla_wire.specs.Payloads.{read_text, IsTextOf}
use Rattle.nla_wire.specs.declared.error.Cause.{Cause}
use Rattle.nla_wire.specs.declared.error.Cause.TheVariants.{NotUtf8}
use Rattle.nla_wire.proofs.Agreement.{text_agrees}
use Rattle.nla_wire.proofs.Canonical.{octets_again}
use Rattle.nla_wire.proofs.FieldLemmas.{IsBytes-get, from_le_bytes_below}
use Rattle.nla_wire.proofs.Texts.{text_found, text_refused}
use Rattle.link_info.specs.declared.style.Element.{Element}
use Rattle.link_info.specs.declared.style.Plain.{Plain}
use Rattle.link_info.specs.declared.style.Size.{Size}
use Rattle.link_info.specs.declared.style.Size.TheVariants.{One, Two, Four, Eight}
use Rattle.link_info.specs.declared.style.Element.TheVariants as E
use Rattle.link_info.specs.declared.style.Style.TheVariants as S
use Rattle.link_info.specs.Styles.{Form, Host, Network, Twos, SixOctets, FourOctets, SixteenOctets, Octets}
use Rattle.link_info.specs.Styles.{width, form, form_size}
use Rattle.link_info.specs.Meanings.{Meaning, Raw, Elements, Listed, Nested, Members, form_meaning}
use Rattle.link_info.specs.Meanings.{plain_meaning, plain_or_bytes, text_or_bytes, read_as, payload_as, written_by}
use Rattle.link_info.specs.Built.{Holds}
use Rattle.link_info.specs.Laws.{EachAsAlone, WrittenAsItWas, ReadAgain, style_of_each}

-- ** numbers

le_one : (p : List ℕ) → length p ≡ 1 → IsBytes p → to_le_bytes w8 (from_le_bytes w8 p) ≡ p
le_one [] l b = absurd (omega arith)
le_one (x ∷ []) l b = let e : from_le_bytes w8 (x ∷ []) % 256 ≡ x = omega (arith, b.0) in ap (λ y. y ∷ []) e
le_one (x ∷ y ∷ p) l b = absurd (omega arith)

be_one : (p : List ℕ) → length p ≡ 1 → IsBytes p → to_be_bytes w8 (from_be_bytes w8 p) ≡ p
be_one [] l b = absurd (omega arith)
be_one (x ∷ []) l b = let e : from_be_bytes w8 (x ∷ []) % 256 ≡ x = omega (arith, b.0) in ap (λ y. y ∷ []) e
be_one (x ∷ y ∷ p) l b = absurd (omega arith)

le_again : (size : Size) (p : List ℕ) → length p ≡ byte_len (width size) → IsBytes p
    → to_le_bytes (width size) (from_le_bytes (width size) p) ≡ p
le_again One p l b = le_one p l b
le_again Two p l b = le_bytes_2 p _ l (λ i. IsBytes-get p i b) refl
le_again Four p l b = le_bytes_4 p _ l (λ i. IsBytes-get p i b) refl
le_again Eight p l b = le_bytes_8 p _ l (λ i. IsBytes-get p i b) refl

be_again : (size : Size) (p : List ℕ) → length p ≡ byte_len (width size) → IsBytes p
    → to_be_bytes (width size) (from_be_bytes (width size) p) ≡ p
be_again One p l b = be_one p l b
be_again Two p l b = be_bytes_2 p _ l (λ i. IsBytes-get p i b) refl
be_again Four p l b = be_bytes_4 p _ l (λ i. IsBytes-get p i b) refl
be_again Eight p l b = be_bytes_8 p _ l (λ i. IsBytes-get p i b) refl

-- ** values of a fixed size

form_written : (f : Form) (p : List ℕ) → length p ≡ form_size f → IsBytes p → written_by f (form_meaning f p) ≡ p
form_written (Host size) p l b = le_again size p l b
form_written (Network size) p l b = be_again size p l b
form_written (Twos size) p l b =
    ap (to_le_bytes (width size)) (of_z-to_z (width size) (from_le_bytes (width size) p)
    (from_le_bytes_below (width size) p b)) ∙ le_again size p l b
form_written SixOctets p l b = refl
form_written FourOctets p l b = refl
form_written SixteenOctets p l b = octets_again p (omega arith) b
form_written (Octets n) p l b = refl

-- of the form, or bytes
either_way : (test : Bool) (f : Form) (m : Meaning) (p : List ℕ) → (test ≡ true → written_by f m ≡ p)
    → written_by f (cond test m (Raw p)) ≡ p
either_way true f m p h = h refl
either_way false f m p h = refl

-- ** texts

text_either : (p s : List ℕ) → IsTextOf p s → (test : Bool) → is_utf8 s ≡ test
    → (read_text p ≡ Ok s) ⊎ (read_text p ≡ Err NotUtf8)
text_either p s is true e = inl (text_found p s is (IsUtf8-from_is_utf8 s e))
text_either p s is false e =
    inr (text_refused p s is (λ u. let k = is_utf8-from_IsUtf8 s u in absurd (cc (k, e))))

text_written : (p s : List ℕ) → p ≡ s ++ 0 ∷ [] → written_by (Octets 0) (text_or_bytes p (read_text p)) ≡ p
text_written p s is =
    elim (text_either p s (inl is) (is_utf8 s) refl) [
      | inl e ↦ ap (λ r. written_by (Octets 0) (text_or_bytes p r)) e ∙ sym is
      | inr e ↦ ap (λ r. written_by (Octets 0) (text_or_bytes p r)) e
    ]

text_again : (p : List ℕ) → IsBytes p → (r : Result (List ℕ) Cause) → read_text p ≡ r
    → text_or_bytes (written_by (Octets 0) (text_or_bytes p r))
    (read_text (written_by (Octets 0) (text_or_bytes p r))) ≡ text_or_bytes p r
text_again p b (Ok s) e =
    ap (text_or_bytes (s ++ 0 ∷ [])) (text_found (s ++ 0 ∷ []) s (inl refl) (text_agrees.found p s b e).0)
text_again p b (Err c) e = ap (text_or_bytes p) e

-- ** styles

flag_written : (p : List ℕ) → payload_as S.Flag (read_as S.Flag p) ≡ p
flag_written [] = refl
flag_written (x ∷ p) = refl

plain_written : (plain : Plain) (p : List ℕ) → IsBytes p → written_by (form plain) (plain_or_bytes plain p) ≡ p
plain_written plain p b =
    either_way _ (form plain) (plain_meaning plain p) p (λ e. form_written (form plain) p (eqb-true _ _ e) b)

pub written_as_it_was : WrittenAsItWas
written_as_it_was S.Bytes p b canonical = refl
written_as_it_was S.Flag p b canonical = flag_written p
written_as_it_was S.Text p b canonical = text_written p canonical.0 canonical.1
written_as_it_was (S.Plain plain) p b canonical = plain_written plain p b
written_as_it_was (S.Record members) p b canonical =
    either_way _ (Octets 0) (Members members.now p) p (λ e. refl)
written_as_it_was (S.Array plain) p b canonical = either_way _ (Octets 0) (Elements plain p) p (λ e. refl)
written_as_it_was (S.List plain) p b canonical = either_way _ (Octets 0) (Listed plain p) p (λ e. refl)
written_as_it_was (S.Nest place) p b canonical = either_way _ (Octets 0) (Nested place p) p (λ e. refl)
written_as_it_was (S.Each (E.Plain plain)) p b canonical = plain_written plain p b
written_as_it_was (S.Each (E.Record members)) p b canonical =
    either_way _ (Octets 0) (Members members.now p) p (λ e. refl)
written_as_it_was (S.Each (E.Nest place)) p b canonical = either_way _ (Octets 0) (Nested place p) p (λ e. refl)

pub read_again : ReadAgain
read_again S.Text p b = text_again p b (read_text p) refl
read_again S.Bytes p b = refl
read_again S.Flag p b = ap (read_as S.Flag) (written_as_it_was S.Flag p b tt)
read_again (S.Plain plain) p b = ap (read_as (S.Plain plain)) (written_as_it_was (S.Plain plain) p b tt)
read_again (S.Record members) p b = ap (read_as (S.Record members)) (written_as_it_was (S.Record members) p b tt)
read_again (S.Array plain) p b = ap (read_as (S.Array plain)) (written_as_it_was (S.Array plain) p b tt)
read_again (S.List plain) p b = ap (read_as (S.List plain)) (written_as_it_was (S.List plain) p b tt)
read_again (S.Nest place) p b = ap (read_as (S.Nest place)) (written_as_it_was (S.Nest place) p b tt)
read_again (S.Each element) p b = ap (read_as (S.Each element)) (written_as_it_was (S.Each element) p b tt)

-- ** values of lists

as_alone : (element : Element) (p : List ℕ) → read_as (S.Each element) p ≡ read_as (style_of_each element) p
as_alone (E.Plain plain) p = refl
as_alone (E.Record members) p = refl
as_alone (E.Nest place) p = refl

written_alone : (element : Element) (m : Meaning)
    → payload_as (S.Each element) m ≡ payload_as (style_of_each element) m
written_alone (E.Plain plain) m = refl
written_alone (E.Record members) m = refl
written_alone (E.Nest place) m = refl

held_alone : (element : Element) (m : Meaning) → Holds (S.Each element) m ↔ Holds (style_of_each element) m
held_alone (E.Plain plain) m = (λ h. h, λ h. h)
held_alone (E.Record members) (Raw p) = (λ h. h, λ h. h)
held_alone (E.Record members) m = (λ h. h, λ h. h)
held_alone (E.Nest place) (Raw p) = (λ h. h, λ h. h)
held_alone (E.Nest place) m = (λ h. h, λ h. h)

pub each_as_alone : EachAsAlone
each_as_alone = record { read = as_alone; written = written_alone; held = held_alone }
