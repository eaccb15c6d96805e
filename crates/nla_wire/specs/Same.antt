-- Whether two frames are the same.
use Rattle.std.specs.Prelude.{◌≡◌, ◌==◌, ◌&&◌, Bool, true, false, refl}
use Rattle.std.specs.Bool.{Decides}
use Rattle.std.specs.Cmp.{unsigned_Decides, IsEquivalence, IsPartialEquivalence, decided, partial_equiv_from_equiv}
use Rattle.std.proofs.Common.{ap, ◌∙◌}
use Rattle.std.proofs.lemmas.Slice.Eq.{bytes_eq-Decides}
use lib.Pointwise.{pointwise}
use Rattle.nla_wire.specs.Frames.{Frame}

abbrev pub same_frame : Frame → Frame → Bool
same_frame f g = f.kind == g.kind && pointwise ◌==◌ f.payload g.payload

both : (a b : Bool) → a && b ≡ true → (a ≡ true) × (b ≡ true)
both true b e = (refl, e)
both false b e = (e, absurd cc)

pub same_frame-Decides : (f g : Frame) → Decides (same_frame f g) (f ≡ g)
same_frame-Decides f g = (
  λ e.
      let parts = both (f.kind == g.kind) (pointwise ◌==◌ f.payload g.payload) e in
      let kinds = (unsigned_Decides f.kind g.kind).0 parts.0 in
      let payloads = (bytes_eq-Decides f.payload g.payload).0 parts.1 in
      ap (λ k. record { kind = k; payload = f.payload }) kinds
      ∙ ap (λ p. record { kind = g.kind; payload = p }) payloads,
  λ e.
      let kinds = (unsigned_Decides f.kind g.kind).1 (ap (λ h. h.kind) e) in
      let payloads = (bytes_eq-Decides f.payload g.payload).1 (ap (λ h. h.payload) e) in
      rw (kinds, payloads) refl,
)

pub same_frame-laws : IsEquivalence same_frame
same_frame-laws = decided same_frame same_frame-Decides

pub same_frame-partial : IsPartialEquivalence same_frame
same_frame-partial = partial_equiv_from_equiv same_frame-laws
