-- Attributes whose canonical encoding is the frame as it is spelled.
use Rattle.std.proofs.Common.{◌≡◌, ℕ, List, [], ◌∷◌, ◌++◌, length, drop, refl, sym, ap, ap₂, subst, ◌∙◌, arith, inl}
use Rattle.std.proofs.Common.{inr, Some, None, Result, Ok, Err, append-nil, length-append}
use Rattle.std.proofs.lemmas.List.{drop_all}
use Rattle.std.specs.Int.{Width, w8, w16, w32, byte_len, to_le_bytes, from_le_bytes}
use Rattle.nla_wire.specs.Frames.{Frame, number, IsBytes, IsFrame}
use Rattle.nla_wire.specs.Payloads.{IsTextOf}
use Rattle.nla_wire.specs.Records.{WritesFilled}
use Rattle.nla_wire.specs.Canon.{canon, Writes, Weighs, Rewrites}
use Rattle.nla_wire.specs.declared.error.Cause.{Cause}
use Rattle.nla_wire.proofs.Again.{WritesAgain, writes_again_1, writes_again_2, writes_again_4}
use Rattle.nla_wire.proofs.Codec.{kind_of}
use Rattle.nla_wire.proofs.FieldLemmas.{zero_filled_whole}
use Rattle.nla_wire.proofs.Shapes.{frame_with, ShapeFits, ShapeWeighs}
use Rattle.link_recs.specs.StatsFields.{stats_size, stats_of, stats_bytes, stats_laws}
use Rattle.link_recs.specs.Stats64Fields.{stats64_size, stats64_of, stats64_bytes, stats64_laws}
use Rattle.link_vals.specs.declared.address_family.AddressFamily.{AddressFamily}
use Rattle.link_msg.specs.Tables.{base, attribute_place, attribute_way, as_way}
use Rattle.link_msg.specs.Prefixes.{attribute_text, IsCopied}
use Rattle.link_msg.specs.declared.shape.Shape.{Shape}
use Rattle.link_msg.specs.declared.shape.Shape.TheVariants as Shapes
use Rattle.link_msg.specs.declared.attribute.LinkAttribute.{LinkAttribute}
use Rattle.link_msg.proofs.Shaped.{shape_writes}

-- ** payloads that are as long as their text

number_copied : (w : Width) → WritesAgain w → (p : List ℕ) (n : ℕ) → IsBytes p
    → (length p ≡ byte_len w) × (n ≡ from_le_bytes w p) → to_le_bytes w n ≡ p
number_copied w again p n small means = ap (to_le_bytes w) means.1 ∙ again p means.0 small

filled_copied : {A : Type 0} (size : ℕ) (of : List ℕ → A) (text : A → List ℕ) → WritesFilled size of text
    → (p : List ℕ) (x : A) → IsBytes p → x ≡ of p → size ≡ length p → text x ≡ p
filled_copied size of text plain p x small x_is same =
    ap text x_is ∙ plain p small ∙ zero_filled_whole size p (sym same)

-- the text ends in one NUL already
text_again : (p s : List ℕ) → IsTextOf p s → length (s ++ 0 ∷ []) ≡ length p → s ++ 0 ∷ [] ≡ p
text_again p s (inl ends) same = sym ends
text_again p s (inr bare) same =
    absurd (omega (arith, same, length-append s (0 ∷ []), ap (λ (t : List ℕ). length t) bare.1))

pub bytes_copied : IsCopied Shapes.Bytes
bytes_copied = record { text_is = λ p x small is same. let e : p ≡ x = cc in sym e; kind_is = λ n. refl }

pub text_copied : IsCopied Shapes.Text
text_copied = record {
  text_is = λ p x small is same.
      text_again p x ((base Shapes.Text).codec.lawful.agrees.found p x small is).1 same;
  kind_is = λ n. refl;
}

pub u8_copied : IsCopied Shapes.U8
u8_copied = record {
  text_is = λ p x small is same.
      number_copied w8 writes_again_1 p x small ((base Shapes.U8).codec.lawful.agrees.found p x small is);
  kind_is = λ n. refl;
}

pub u16_copied : IsCopied Shapes.U16
u16_copied = record {
  text_is = λ p x small is same.
      number_copied w16 writes_again_2 p x small ((base Shapes.U16).codec.lawful.agrees.found p x small is);
  kind_is = λ n. refl;
}

pub u32_copied : IsCopied Shapes.U32
u32_copied = record {
  text_is = λ p x small is same.
      number_copied w32 writes_again_4 p x small ((base Shapes.U32).codec.lawful.agrees.found p x small is);
  kind_is = λ n. refl;
}

pub stats_copied : IsCopied Shapes.Stats
stats_copied = record {
  text_is = λ p x small is same. filled_copied stats_size stats_of stats_bytes stats_laws.plain p x small
      ((base Shapes.Stats).codec.lawful.agrees.found p x small is) (sym (stats_laws.size_is x) ∙ same);
  kind_is = λ n. refl;
}

pub stats64_copied : IsCopied Shapes.Stats64
stats64_copied = record {
  text_is = λ p x small is same. filled_copied stats64_size stats64_of stats64_bytes stats64_laws.plain p x small
      ((base Shapes.Stats64).codec.lawful.agrees.found p x small is) (sym (stats64_laws.size_is x) ∙ same);
  kind_is = λ n. refl;
}

-- an arm of code for one shape
pub arm_copied : (s t : Shape) → s ≡ t → IsCopied t → IsCopied s
arm_copied s t is h = subst IsCopied (sym is) h

-- ** frames

-- the only text that can be written over nothing is the buffer
only_text : (r : Result LinkAttribute Cause) (b : List ℕ) (n : ℕ) → Rewrites attribute_text r [] b n
    → (v : LinkAttribute) → r ≡ Ok v → attribute_text v ≡ b
only_text r b n w v is =
    let one : Writes (attribute_text v) [] b n = subst (λ x. Rewrites attribute_text x [] b n) is w in
    let none : drop n [] ≡ [] = drop_all {X = ℕ} n [] (omega arith) in
    sym (one.new_is ∙ ap (λ (t : List ℕ). attribute_text v ++ t) none ∙ append-nil (attribute_text v))

itself : (f : Frame) → Writes (canon f) [] (canon f) (length (canon f))
itself f =
    let none : drop (length (canon f)) [] ≡ [] = drop_all {X = ℕ} (length (canon f)) [] (omega arith) in
    record { length_is = refl; new_is = sym (ap (λ (t : List ℕ). canon f ++ t) none ∙ append-nil (canon f)) }

shape_same : (shape : Shape) (f : Frame) (value : ℕ) → IsCopied shape → IsBytes f.payload → f.kind ≡ number f
    → value ≡ length f.payload
    → (r : Result (base shape).A Cause) → (base shape).codec.grammar.reads f.payload ≡ r
    → ShapeWeighs base shape f.payload (Some value)
    → Rewrites (λ x. canon (frame_with (kind_of (base shape).flags (number f)) ((base shape).codec.encoding x)))
    r [] (canon f) (length (canon f))
shape_same shape f value copied small bare same (Err c) is w = tt
shape_same shape f value copied small bare same (Ok x) is w =
    let weighed : Weighs (base shape).codec.encoding (ShapeFits base shape) (Ok x) (Some value) =
    subst (λ z. Weighs (base shape).codec.encoding (ShapeFits base shape) z (Some value)) is w in
    let size : value ≡ length ((base shape).codec.encoding x) = weighed.1 in
    let text : (base shape).codec.encoding x ≡ f.payload = copied.text_is f.payload x small is (sym size ∙ same) in
    let kind : kind_of (base shape).flags (number f) ≡ f.kind = copied.kind_is (number f) ∙ sym bare in
    subst (λ g. Writes (canon g) [] (canon f) (length (canon f))) (sym (ap₂ frame_with kind text)) (itself f)

module _ (family : AddressFamily) (f : Frame) (one : IsFrame f) where
  pub same_text : (shape : Shape) (value : ℕ)
      → attribute_way family (number f) (length f.payload) ≡ as_way (Some shape) → IsCopied shape
      → f.kind ≡ number f → value ≡ length f.payload → ShapeWeighs base shape f.payload (Some value)
      → (v : LinkAttribute) → (attribute_place family).reads f ≡ Ok v → attribute_text v ≡ canon f
  same_text shape value is copied bare same w =
      only_text ((attribute_place family).reads f) (canon f) (length (canon f))
      (shape_writes family f (Some shape) [] (canon f) (length (canon f)) is one
      (shape_same shape f value copied one.bytes bare same ((base shape).codec.grammar.reads f.payload) refl w))

  -- an attribute that is kept is written as it is
  pub kept_same : attribute_way family (number f) (length f.payload) ≡ as_way None
      → (v : LinkAttribute) → (attribute_place family).reads f ≡ Ok v → attribute_text v ≡ canon f
  kept_same is =
      only_text ((attribute_place family).reads f) (canon f) (length (canon f))
      (shape_writes family f None [] (canon f) (length (canon f)) is one (itself f))
