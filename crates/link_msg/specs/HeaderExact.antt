-- Equality of headers decides, where it does at each field.
use Rattle.std.specs.Prelude.{◌≡◌, ◌==◌, ◌&&◌, ℕ, Bool}
use Rattle.std.specs.Bool.{Decides}
use Rattle.std.specs.Cmp.{unsigned_Decides}
use Rattle.std.proofs.Common.{ap, ◌∙◌}
use Rattle.nla_wire.specs.Decided.{both_exact}
use Rattle.link_vals.specs.declared.address_family.AddressFamily.{AddressFamily}
use Rattle.link_vals.specs.declared.link_layer_type.LinkLayerType.{LinkLayerType}
use Rattle.link_vals.specs.declared.link_flags.LinkFlags.{LinkFlags}
use Rattle.link_msg.specs.declared.header.LinkHeader.{LinkHeader}

made : AddressFamily → ℕ → LinkLayerType → LinkFlags → LinkFlags → LinkHeader
made family index layer flags mask =
    record { interface_family = family; index = index; link_layer_type = layer; flags = flags; change_mask = mask }

SameFields : LinkHeader → LinkHeader → Type 0
SameFields x y = (x.interface_family ≡ y.interface_family) × ((x.index ≡ y.index)
    × ((x.link_layer_type ≡ y.link_layer_type) × ((x.flags ≡ y.flags) × (x.change_mask ≡ y.change_mask))))

joined : (x y : LinkHeader) → SameFields x y → x ≡ y
unfolding SameFields made
joined x y h =
    ap (λ k. made k x.index x.link_layer_type x.flags x.change_mask) h.0
    ∙ ap (λ k. made y.interface_family k x.link_layer_type x.flags x.change_mask) h.1.0
    ∙ ap (λ k. made y.interface_family y.index k x.flags x.change_mask) h.1.1.0
    ∙ ap (λ k. made y.interface_family y.index y.link_layer_type k x.change_mask) h.1.1.1.0
    ∙ ap (λ k. made y.interface_family y.index y.link_layer_type y.flags k) h.1.1.1.1

apart : (x y : LinkHeader) → x ≡ y → SameFields x y
unfolding SameFields
apart x y e = (
  ap (λ h. h.interface_family) e,
  (ap (λ h. h.index) e, (ap (λ h. h.link_layer_type) e, (ap (λ h. h.flags) e, ap (λ h. h.change_mask) e))),
)

module _ (family_test : AddressFamily → AddressFamily → Bool) (layer_test : LinkLayerType → LinkLayerType → Bool)
    (flags_test : LinkFlags → LinkFlags → Bool)
    (family : (a b : AddressFamily) → Decides (family_test a b) (a ≡ b)) (layer : (a b : LinkLayerType)
    → Decides (layer_test a b) (a ≡ b)) (flags : (a b : LinkFlags) → Decides (flags_test a b) (a ≡ b)) where
  abbrev pub header_test : LinkHeader → LinkHeader → Bool
  header_test x y =
      family_test x.interface_family y.interface_family
      && (x.index == y.index && (layer_test x.link_layer_type y.link_layer_type
      && (flags_test x.flags y.flags && flags_test x.change_mask y.change_mask)))

  pub header_decides : (x y : LinkHeader) → Decides (header_test x y) (x ≡ y)
  unfolding SameFields
  header_decides x y =
      let fields : Decides (header_test x y) (SameFields x y) =
      both_exact _ _ (family x.interface_family y.interface_family) (both_exact _ _ (unsigned_Decides x.index y.index)
      (both_exact _ _ (layer x.link_layer_type y.link_layer_type)
      (both_exact _ _ (flags x.flags y.flags) (flags x.change_mask y.change_mask)))) in
      (λ e. joined x y (fields.0 e), λ e. fields.1 (apart x y e))
