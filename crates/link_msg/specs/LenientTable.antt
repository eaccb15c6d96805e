-- The lenient table is lawful: what is refused is kept, and read back as it was.
use Rattle.std.specs.Prelude.{◌≡◌, ℕ, ◌+◌, ◌*◌, ◌/◌, ◌≤◌, length, refl, Result, Ok, Err}
use Rattle.std.proofs.Common.{inl, inr, sym, ap, ◌∙◌, subst, lit≤}
use Rattle.nla_wire.specs.Sizes.{most_payload, growth, attribute_small}
use Rattle.nla_wire.specs.Frames.{Frame, IsFrame}
use Rattle.nla_wire.specs.Grammar.{Grammar, Agrees, undecoded}
use Rattle.nla_wire.specs.Canon.{canon}
use Rattle.nla_wire.specs.declared.error.Cause.{Cause}
use Rattle.nla_wire.proofs.Lawful.{LawfulPlace, LawfulReading, encoding_bounded}
use Rattle.nla_wire.proofs.Tables as tables
use Rattle.link_vals.specs.declared.address_family.AddressFamily.{AddressFamily}
use Rattle.link_msg.specs.Tables.{base, attribute_view, attribute_place, attribute_lawful, attribute_frame}
use Rattle.link_msg.specs.Tables.{AttributeFits, NotEmptyPorts, attribute_count, other_kept}
use Rattle.link_msg.specs.Lenient.{kept_if_bad, or_kept, lenient_place}
use Rattle.link_msg.specs.declared.attribute.LinkAttribute.{LinkAttribute}
use Rattle.link_msg.specs.declared.attribute.LinkAttribute.TheVariants as Attributes

-- ** a place that keeps what it refuses

module _ {V : Type 0} (other : Frame → V) (g : Grammar Frame V) (h : Agrees IsFrame g) where
  found_kept : (f : Frame) (v : V) (r : Result V Cause) → g.reads f ≡ r → IsFrame f
      → kept_if_bad (other f) r ≡ Ok v → (or_kept other g).means f v
  found_kept f v (Ok w) is one e = let same : w ≡ v = cc in inl (h.found f v one (is ∙ ap (λ x. Ok x) same))
  found_kept f v (Err c) is one e = let same : other f ≡ v = cc in inr ((c, h.fault f c one is), sym same)

  never_bad : (f : Frame) (c : Cause) (r : Result V Cause) → kept_if_bad (other f) r ≡ Err c → ⊥
  never_bad f c (Ok w) e = absurd cc
  never_bad f c (Err d) e = absurd cc

  only_kept : (f : Frame) (v : V) → (or_kept other g).means f v → (or_kept other g).reads f ≡ Ok v
  only_kept f v (inl means) = ap (kept_if_bad (other f)) (h.only f v means)
  only_kept f v (inr (bad, is)) =
      ap (kept_if_bad (other f)) (h.refused f bad.0 bad.1) ∙ ap (λ x. Ok x) (sym is)

  pub or_kept_agrees : Agrees IsFrame (or_kept other g)
  or_kept_agrees = record {
    only = only_kept;
    found = λ f v one e. found_kept f v (g.reads f) refl one e;
    fault = λ f c one e. absurd (never_bad f c (g.reads f) e);
    refused = λ f c bad. absurd bad;
  }

  -- each frame has a value
  pub always_kept : (f : Frame) → IsFrame f → (v : V) × (or_kept other g).means f v
  always_kept f one = by (g.reads f) refl where
    by : (r : Result V Cause) → g.reads f ≡ r → (v : V) × (or_kept other g).means f v
    by (Ok v) is = (v, inl (h.found f v one is))
    by (Err c) is = (other f, inr ((c, h.fault f c one is), refl))

module _ {V : Type 0} (other : Frame → V) (g : Grammar Frame V) (frame : V → Frame) (Fits Good : V → Type 0)
    (count : V → ℕ) (k e n : ℕ) (h : LawfulPlace g frame Fits Good count k e n)
    (kept : (m : ℕ) → LawfulReading frame Fits Good count k e n m (undecoded other))
    (frame_is : (f : Frame) → frame (other f) ≡ f) where
  back_kept : (f : Frame) (v : V) → IsFrame f → (or_kept other g).means f v → Fits v → Good v
      → (or_kept other g).means (frame v) v
  back_kept f v one (inl means) fits good = inl (h.back f v one means fits good)
  back_kept f v one (inr (bad, is)) fits good =
      let same : frame v ≡ f = ap frame is ∙ frame_is f in
      subst (λ x. (or_kept other g).means x v) (sym same) (inr (bad, is))

  pub or_kept_lawful : LawfulPlace (or_kept other g) frame Fits Good count k e n
  or_kept_lawful = record {
    agrees = or_kept_agrees other g h.agrees;
    no_memory = λ f bad. bad;
    writable = λ f v one means fits. elim means [
      | inl m ↦ h.writable f v one m fits
      | inr m ↦ (kept 0).writable f v one m.1 fits
    ];
    back = back_kept;
    counted = λ f v means. elim means [ inl m ↦ h.counted f v m | inr m ↦ (kept 0).counted f v m.1 ];
    bounded = λ f v means. elim means [ inl m ↦ h.bounded f v m | inr m ↦ (kept 0).bounded f v m.1 ];
    small = λ f v short one means. elim means [
      | inl m ↦ h.small f v short one m
      | inr m ↦ (kept 0).small f v short one m.1
    ];
  }

-- ** the outermost place

pub other_frame : (f : Frame) → attribute_frame (Attributes.Other f) ≡ f
other_frame f = ap (λ (s : tables.Seen). s.frame) (other_kept f)

-- what is kept fits
pub other_fits : (f : Frame) → length f.payload ≤ most_payload → AttributeFits (Attributes.Other f)
other_fits f small = (
  subst (λ (s : tables.Seen). length s.frame.payload ≤ most_payload) (sym (other_kept f)) small,
  subst (λ (s : tables.Seen). s.Inside) (sym (other_kept f)) tt,
)

pub lenient_lawful : (family : AddressFamily) → LawfulPlace (lenient_place family) attribute_frame AttributeFits
    NotEmptyPorts attribute_count growth 0 attribute_small
lenient_lawful family = or_kept_lawful Attributes.Other (attribute_place family) attribute_frame AttributeFits
    NotEmptyPorts attribute_count growth 0 attribute_small (attribute_lawful family)
    (λ m. tables.kept_reading base attribute_view NotEmptyPorts Attributes.Other other_kept growth 0 attribute_small
    (lit≤ tt) m) other_frame

pub lenient_bounded : (family : AddressFamily) (f : Frame) (v : LinkAttribute) → (lenient_place family).means f v
    → length (canon (attribute_frame v)) ≤ growth * (1 + length f.payload / 4)
lenient_bounded family = encoding_bounded (lenient_lawful family)
