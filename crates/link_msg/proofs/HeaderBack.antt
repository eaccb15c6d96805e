-- A header that is written is read again.
use Rattle.std.proofs.Common.{◌≡◌, ℕ, List, [], ◌∷◌, ◌++◌, refl, sym, ap, ◌∙◌}
use Rattle.std.specs.Prelude.{slice_index}
use Rattle.std.specs.Int.{w16, w32, to_le_bytes}
use Rattle.nla_wire.specs.Frames.{IsBytes}
use Rattle.nla_wire.specs.Fields.{number_at}
use Rattle.nla_wire.proofs.FieldLemmas.{number_at_below, number_again_between}
use Rattle.link_vals.specs.AddressFamilyTable.{address_family_of, address_family_number}
use Rattle.link_vals.specs.LinkLayerTypeTable.{layer_type_of, layer_type_number}
use Rattle.link_vals.specs.LinkFlagsTable.{link_flags_of}
use Rattle.link_vals.proofs.Numbers.{address_family_again, layer_type_again, layer_type_below}
use Rattle.link_vals.specs.declared.address_family.AddressFamily.{AddressFamily}
use Rattle.link_vals.specs.declared.link_layer_type.LinkLayerType.{LinkLayerType}
use Rattle.link_vals.specs.declared.link_flags.LinkFlags.{LinkFlags}
use Rattle.link_msg.specs.Header.{header_of, IsHeader, header_bytes}
use Rattle.link_msg.specs.declared.header.LinkHeader.{LinkHeader}
use Rattle.link_msg.proofs.Messaging.{header_length}

made : AddressFamily → ℕ → LinkLayerType → LinkFlags → LinkFlags → LinkHeader
made family index layer flags mask =
    record { interface_family = family; index = index; link_layer_type = layer; flags = flags; change_mask = mask }

header_again : (h : List ℕ) → IsBytes h → header_of (header_bytes (header_of h)) ≡ header_of h
unfolding header_of header_bytes made
header_again h small =
    let family : ℕ = slice_index h 0 in
    let layer : LinkLayerType = layer_type_of (number_at w16 h 2) in
    let index : ℕ = number_at w32 h 4 in
    let flags : ℕ = number_at w32 h 8 in
    let mask : ℕ = number_at w32 h 12 in
    let kind : List ℕ = to_le_bytes w16 (layer_type_number layer) in
    let first : ℕ = address_family_number (address_family_of family) in
    let index_again : number_at w32
    ((first ∷ 0 ∷ kind) ++ (to_le_bytes w32 index ++ (to_le_bytes w32 flags ++ to_le_bytes w32 mask))) 4 ≡ index =
    number_again_between w32 (first ∷ 0 ∷ kind) index (to_le_bytes w32 flags ++ to_le_bytes w32 mask) 4
    (number_at_below w32 h 4 small) refl in
    let layer_again : number_at w16 ((first ∷ 0 ∷ []) ++ (kind
    ++ (to_le_bytes w32 index ++ (to_le_bytes w32 flags ++ to_le_bytes w32 mask)))) 2 ≡ layer_type_number layer =
    number_again_between w16 (first ∷ 0 ∷ []) (layer_type_number layer)
    (to_le_bytes w32 index ++ (to_le_bytes w32 flags ++ to_le_bytes w32 mask)) 2 (layer_type_below layer) refl in
    let flags_again : number_at w32
    ((first ∷ 0 ∷ (kind ++ to_le_bytes w32 index)) ++ (to_le_bytes w32 flags ++ to_le_bytes w32 mask)) 8 ≡ flags =
    number_again_between w32 (first ∷ 0 ∷ (kind ++ to_le_bytes w32 index)) flags (to_le_bytes w32 mask) 8
    (number_at_below w32 h 8 small) refl in
    let mask_again : number_at w32 ((first ∷ 0 ∷ (kind ++ (to_le_bytes w32 index ++ to_le_bytes w32 flags)))
    ++ (to_le_bytes w32 mask ++ [])) 12 ≡ mask =
    number_again_between w32 (first ∷ 0 ∷ (kind ++ (to_le_bytes w32 index ++ to_le_bytes w32 flags))) mask [] 12
    (number_at_below w32 h 12 small) refl in
    ap (λ x. made x (number_at w32 (header_bytes (header_of h)) 4)
    (layer_type_of (number_at w16 (header_bytes (header_of h)) 2)) (link_flags_of
    (number_at w32 (header_bytes (header_of h)) 8)) (link_flags_of (number_at w32 (header_bytes (header_of h)) 12)))
    (ap address_family_of (address_family_again family))
    ∙ ap (λ x. made (address_family_of family) x (layer_type_of (number_at w16 (header_bytes (header_of h)) 2))
    (link_flags_of (number_at w32 (header_bytes (header_of h)) 8))
    (link_flags_of (number_at w32 (header_bytes (header_of h)) 12))) index_again
    ∙ ap (λ x. made (address_family_of family) index x (link_flags_of (number_at w32 (header_bytes (header_of h)) 8))
    (link_flags_of (number_at w32 (header_bytes (header_of h)) 12)))
    (ap layer_type_of layer_again ∙ layer_type_again layer)
    ∙ ap (λ x. made (address_family_of family) index layer (link_flags_of x)
    (link_flags_of (number_at w32 (header_bytes (header_of h)) 12))) flags_again
    ∙ ap (λ x. made (address_family_of family) index layer (link_flags_of flags) (link_flags_of x)) mask_again

pub header_back : (h : List ℕ) (v : LinkHeader) → IsBytes h → IsHeader h v → IsHeader (header_bytes v) v
header_back h v small is = record {
  size = header_length v;
  says = is.says ∙ sym (header_again h small) ∙ ap (λ x. header_of (header_bytes x)) (sym is.says);
}
