-- What is shown of a link's attributes is of what they mean, under each family.
use Rattle.std.proofs.Common.{[], ◌≡◌, ℕ, ◌==◌, Bool, true, false, cond, List, ◌∷◌, length}
use Rattle.std.proofs.Common.{refl, sym, ap, ◌∙◌, lit≤}
use Rattle.std.proofs.lemmas.Nat.{and_mask}
use Rattle.std.specs.Prelude.{None, Some, bit_and, codes}
use lib.Dec.{T}
use Rattle.link_afspec.specs.Tables.{af_spec_unspec_place}
use Rattle.link_afspec.specs.Tables.{af_spec_bridge_place, link_proto_info_bridge_place, link_proto_info_inet6_place}
use Rattle.link_afspec.specs.declared.bridge.AfSpecBridge.{AfSpecBridge}
use Rattle.link_afspec.specs.declared.proto_bridge.LinkProtoInfoBridge.{LinkProtoInfoBridge}
use Rattle.link_afspec.specs.declared.proto_inet6.LinkProtoInfoInet6.{LinkProtoInfoInet6}
use Rattle.link_afspec.specs.declared.unspec.AfSpecUnspec.{AfSpecUnspec}
use Rattle.link_info.specs.declared.place.Place.TheVariants as Places
use Rattle.link_msg.specs.Tables.{NotEmptyPorts, af_spec, attribute_entries, attribute_place, attribute_table}
use Rattle.link_msg.specs.Tables.{attribute_view, base, other_kept, proto_info}
use Rattle.link_msg.specs.contracts.attribute.LinkAttribute.{enum as attributes}
use Rattle.link_msg.specs.declared.attribute.LinkAttribute.{LinkAttribute}
use Rattle.link_msg.specs.declared.attribute.LinkAttribute.TheVariants as Attributes
use Rattle.link_nest.specs.Tables.{devlink_port_place, down_reason_place, dpll_pin_place, link_info_place, prop_place}
use Rattle.link_nest.specs.Tables.{xdp_place}
use Rattle.link_vals.specs.AddressFamilyTable.{address_family_number}
use Rattle.link_vals.specs.declared.address_family.AddressFamily.{AddressFamily}
use Rattle.link_vals.specs.declared.address_family.AddressFamily.TheVariants as Families
use Rattle.link_vf.specs.Tables.{link_vf_info_place, link_vf_port_place, vf_info_place, vf_port_place}
use Rattle.nla_wire.proofs.Tables.{Entry, all_hold}
use Rattle.nla_wire.proofs.Variants.{entries_of}
use Rattle.nla_wire.specs.Frames.{Frame, number}
use Rattle.nla_wire.specs.Grammar.{as_a, by_payload, list, not_empty}
use Rattle.nla_wire.specs.Payloads as payload
use Rattle.nla_wire.specs.Sizes.{attribute_small, growth}
use Rattle.frame_shown.specs.Frames.{by_row, frame_item, levels}
use Rattle.frame_shown.specs.Items.{Item}
use Rattle.frame_shown.specs.Tables.{row_in}
use Rattle.frame_shown.specs.Values.{form_shown}
use Rattle.frame_shown.specs.declared.form.Around.{Around}
use Rattle.frame_shown.specs.declared.form.Form.TheVariants as Forms
use Rattle.frame_shown.specs.declared.form.List.TheVariants as Shapes
use Rattle.frame_shown.specs.declared.form.Table.TheVariants as Tables
use Rattle.frame_shown.specs.declared.form.Way.TheVariants as Ways
use Rattle.frame_shown.proofs.Alike.{EachOf, OfFrames, OfNumber, OneToOne, each_joined, each_of_table, of_place}
use Rattle.frame_shown.proofs.Alike.{unless_empty}
use Rattle.frame_shown.proofs.AttributesMeant.{attributes_alike, len_at, other_row, said_of}
use Rattle.frame_shown.proofs.FamiliesMeant.{bridges_alike, families_alike, proto_bridges_alike, proto_inet6s_alike}
use Rattle.frame_shown.proofs.Rows.{inet6_list, own_list, place_list}

-- ** what the header's family decides

unspec_in : LinkAttribute → List AfSpecUnspec
unspec_in (Attributes.AfSpecUnspec vs) = vs
unspec_in _ = []

bridge_in : LinkAttribute → List AfSpecBridge
bridge_in (Attributes.AfSpecBridge vs) = vs
bridge_in _ = []

bytes_in : LinkAttribute → List ℕ
bytes_in (Attributes.AfSpecUnknown p) = p
bytes_in _ = []

proto_bridge_in : LinkAttribute → List LinkProtoInfoBridge
proto_bridge_in (Attributes.ProtoInfoBridge vs) = vs
proto_bridge_in _ = []

proto_inet6_in : LinkAttribute → List LinkProtoInfoInet6
proto_inet6_in (Attributes.ProtoInfoInet6 vs) = vs
proto_inet6_in _ = []

one_unspec : OneToOne Attributes.AfSpecUnspec
unfolding unspec_in
one_unspec a b e = ap unspec_in e

one_bridge : OneToOne Attributes.AfSpecBridge
unfolding bridge_in
one_bridge a b e = ap bridge_in e

one_unknown : OneToOne Attributes.AfSpecUnknown
unfolding bytes_in
one_unknown a b e = ap bytes_in e

one_proto_bridge : OneToOne Attributes.ProtoInfoBridge
unfolding proto_bridge_in
one_proto_bridge a b e = ap proto_bridge_in e

one_proto_inet6 : OneToOne Attributes.ProtoInfoInet6
unfolding proto_inet6_in
one_proto_inet6 a b e = ap proto_inet6_in e

-- the flags of a frame are not in its number
number_kind : (f : Frame) → bit_and f.kind 0x3fff ≡ number f
number_kind f = and_mask f.kind 14

module _ (cx : Around) where
  -- settings of an unknown family: its payload is shown, or kept without its flags
  unknown_item : (n : ℕ) (b c : Bool) (f h : Frame) → f.payload ≡ h.payload → number f ≡ number h
      → by_row (levels 5 cx) cx (
        codes "af-spec",
        Ways.Own (cond b (Forms.List (Shapes.Own Tables.Families))
            (cond c (Forms.List (Shapes.Of Places.BridgeSpec)) Forms.Unflagged)),
      ) f
      ≡ by_row (levels 5 cx) cx (
        codes "af-spec",
        Ways.Own (cond b (Forms.List (Shapes.Own Tables.Families))
            (cond c (Forms.List (Shapes.Of Places.BridgeSpec)) Forms.Unflagged)),
      ) h
  unknown_item n true c f h payloads numbers = λ i. Item.named (numbers i)
      ((codes "af-spec", form_shown (levels 5 cx) cx (Forms.List (Shapes.Own Tables.Families)) (payloads i)) ∷ [])
  unknown_item n false true f h payloads numbers = λ i. Item.named (numbers i)
      ((codes "af-spec", form_shown (levels 5 cx) cx (Forms.List (Shapes.Of Places.BridgeSpec)) (payloads i)) ∷ [])
  unknown_item n false false f h payloads numbers =
      let kinds : bit_and f.kind 0x3fff ≡ bit_and h.kind 0x3fff = number_kind f ∙ numbers ∙ sym (number_kind h) in
      λ i. Item.as_is (codes "af-spec") (kinds i) (payloads i)

  unknown_alike : (n : ℕ)
      → OfNumber 26 (by_payload (as_a Attributes.AfSpecUnknown payload.bytes)) (said_of (levels 5 cx) cx n)
  unknown_alike n f h v one two number_f number_h a b =
      let payloads : f.payload ≡ h.payload = sym a.1 ∙ one_unknown a.0 b.0 (sym a.2 ∙ b.2) ∙ b.1 in
      let numbers : number f ≡ number h = number_f ∙ sym number_h in
      let row = λ (g : Frame). λ (is : number g ≡ 26). ap (λ k. by_row (levels 5 cx) cx
      (row_in cx (Shapes.Message n) k) g) is in
      let item : frame_item (levels 5 cx) cx (Shapes.Message n) f ≡ frame_item (levels 5 cx) cx (Shapes.Message n) h =
      row f number_f ∙ unknown_item n (n == 0) (n == 7) f h payloads numbers ∙ sym (row h number_h) in
      let len : len_at f ≡ len_at h =
      ap (λ k. cond (k == 1) (Some (length f.payload)) None) numbers
      ∙ ap (λ (p : List ℕ). cond (number h == 1) (Some (length p)) None) payloads in
      λ i. (item i, len i)

  spec_alike : (family : AddressFamily)
      → OfNumber 26 (af_spec family).reads (said_of (levels 5 cx) cx (address_family_number family))
  unfolding af_spec attribute_view address_family_number
  spec_alike Families.Unspec = other_row (levels 5 cx) cx 0 26 (Forms.List (Shapes.Own Tables.Families))
      (List AfSpecUnspec) LinkAttribute (list af_spec_unspec_place.grammar) Attributes.AfSpecUnspec refl (λ p a m. refl)
      (own_list 4 cx af_spec_unspec_place.grammar Tables.Families (families_alike 3 cx)) refl one_unspec
  spec_alike Families.Bridge = other_row (levels 5 cx) cx 7 26 (Forms.List (Shapes.Of Places.BridgeSpec))
      (List AfSpecBridge) LinkAttribute (not_empty (list af_spec_bridge_place.grammar)) Attributes.AfSpecBridge refl
      (λ p a m. refl) (unless_empty (list af_spec_bridge_place.grammar)
      (form_shown (levels 5 cx) cx (Forms.List (Shapes.Of Places.BridgeSpec)))
      (place_list 4 cx af_spec_bridge_place.grammar Places.BridgeSpec
      (bridges_alike (frame_item (levels 4 cx) cx (Shapes.Of Places.BridgeSpec))))) refl one_bridge
  spec_alike Families.Inet = unknown_alike 2
  spec_alike Families.Inet6 = unknown_alike 10
  spec_alike Families.Mctp = unknown_alike 45
  spec_alike (Families.Other n) = unknown_alike n

  same_frame : (f : Frame) (v : LinkAttribute) → v ≡ Attributes.ProtoInfoUnknown f → (attribute_view v).frame ≡ f
  unfolding attribute_view
  same_frame f v is = ap (λ w. (attribute_view w).frame) is

  kept_alike : (n : ℕ) (f h : Frame) (v : LinkAttribute) → v ≡ Attributes.ProtoInfoUnknown f
      → v ≡ Attributes.ProtoInfoUnknown h → said_of (levels 5 cx) cx n f ≡ said_of (levels 5 cx) cx n h
  kept_alike n f h v a b = ap (said_of (levels 5 cx) cx n) (sym (same_frame f v a) ∙ same_frame h v b)

  proto_alike : (family : AddressFamily)
      → OfNumber 12 (proto_info family).reads (said_of (levels 5 cx) cx (address_family_number family))
  unfolding proto_info attribute_view address_family_number
  proto_alike Families.Inet6 = other_row (levels 5 cx) cx 10 12 (Forms.List Shapes.ProtoInet6)
      (List LinkProtoInfoInet6) LinkAttribute (not_empty (list link_proto_info_inet6_place.grammar))
      Attributes.ProtoInfoInet6 refl (λ p a m. refl) (unless_empty (list link_proto_info_inet6_place.grammar)
      (form_shown (levels 5 cx) cx (Forms.List Shapes.ProtoInet6))
      (inet6_list 4 cx link_proto_info_inet6_place.grammar
      (proto_inet6s_alike (frame_item (levels 4 cx) cx Shapes.ProtoInet6)))) refl one_proto_inet6
  proto_alike Families.Bridge = other_row (levels 5 cx) cx 7 12 (Forms.List (Shapes.Of Places.BridgePort))
      (List LinkProtoInfoBridge) LinkAttribute (not_empty (list link_proto_info_bridge_place.grammar))
      Attributes.ProtoInfoBridge refl (λ p a m. refl) (unless_empty (list link_proto_info_bridge_place.grammar)
      (form_shown (levels 5 cx) cx (Forms.List (Shapes.Of Places.BridgePort)))
      (place_list 4 cx link_proto_info_bridge_place.grammar Places.BridgePort
      (proto_bridges_alike (frame_item (levels 4 cx) cx (Shapes.Of Places.BridgePort))))) refl one_proto_bridge
  proto_alike Families.Unspec = λ f h v one two number_f number_h a b. kept_alike 0 f h v a b
  proto_alike Families.Inet = λ f h v one two number_f number_h a b. kept_alike 2 f h v a b
  proto_alike Families.Mctp = λ f h v one two number_f number_h a b. kept_alike 45 f h v a b
  proto_alike (Families.Other n) = λ f h v one two number_f number_h a b. kept_alike n f h v a b

-- ** all attributes

entries_hold : (family : AddressFamily)
    → T (all_hold base attribute_view NotEmptyPorts growth 0 attribute_small (attribute_entries family))
unfolding attribute_view attribute_entries proto_info af_spec prop_place devlink_port_place dpll_pin_place
    down_reason_place xdp_place link_info_place vf_info_place vf_port_place link_vf_info_place link_vf_port_place
    af_spec_unspec_place af_spec_bridge_place link_proto_info_bridge_place link_proto_info_inet6_place
entries_hold Families.Unspec = tt
entries_hold Families.Inet = tt
entries_hold Families.Bridge = tt
entries_hold Families.Inet6 = tt
entries_hold Families.Mctp = tt
entries_hold (Families.Other n) = tt

-- the two whose variants the family decides
abbrev family_entries : AddressFamily → List {1} (Entry base attribute_view NotEmptyPorts)
family_entries family =
    record { number = 12; size = None; reading = proto_info family; keeps_size = tt }
    ∷ record { number = 26; size = None; reading = af_spec family; keeps_size = tt }
    ∷ []

pub frames_alike : (cx : Around) (family : AddressFamily)
    → OfFrames (attribute_place family) (said_of (levels 5 cx) cx (address_family_number family))
unfolding attribute_place attribute_entries attribute_view
frames_alike cx family =
    let said = said_of (levels 5 cx) cx (address_family_number family) in
    let by_family : EachOf base attribute_view NotEmptyPorts said (family_entries family) =
    (proto_alike cx family, (spec_alike cx family, tt)) in
    of_place base attribute_view NotEmptyPorts said growth 0 attribute_small Attributes.Other other_kept (lit≤ tt)
    (attribute_entries family) (entries_hold family)
    (each_joined base attribute_view NotEmptyPorts said (entries_of base attributes NotEmptyPorts attribute_table)
    (family_entries family)
    (each_of_table base attributes NotEmptyPorts attribute_table said
    (attributes_alike cx (address_family_number family))) by_family)
