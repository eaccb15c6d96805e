-- Bytes mean a message or none; a message fits or not, and holds ports or not.
use Rattle.std.proofs.Common.{◌≡◌, ℕ, ◌^◌, List, [], ◌∷◌, length, inl, inr, refl, sym, ◌∙◌}
use Rattle.std.specs.Prelude.{◌⊎◌, Result, Ok, Err}
use Rattle.std.specs.List.{AllByRecursion}
use native.Mathlib.Decide.{dec_le, dec_lt}
use Rattle.nla_wire.specs.Sizes.{most_payload}
use Rattle.nla_wire.specs.Frames.{Frame, IsBytes}
use Rattle.nla_wire.specs.Canon.{IsSmall, canons, AllFit}
use Rattle.nla_wire.specs.declared.error.Cause.{Cause}
use Rattle.nla_wire.proofs.Codec.{Place}
use Rattle.link_vf.specs.Tables.{vf_stats_place, vf_stats_small, vf_vlan_place, vf_info_place, link_vf_info_place}
use Rattle.link_vf.specs.Tables.{vf_port_place, vf_port_small, link_vf_port_place}
use Rattle.link_vf.specs.declared.vf_vlan.VfVlan.{VfVlan}
use Rattle.link_vf.specs.declared.vf_info.VfInfo.{VfInfo}
use Rattle.link_vf.specs.declared.vf_info.VfInfo.TheVariants as Infos
use Rattle.link_vf.specs.declared.vf_list.LinkVfInfo.{LinkVfInfo}
use Rattle.link_vf.specs.declared.port_list.LinkVfPort.{LinkVfPort}
use Rattle.link_nest.specs.Tables.{prop_place, prop_small, devlink_port_place, devlink_port_small, dpll_pin_place}
use Rattle.link_nest.specs.Tables.{dpll_pin_small, down_reason_place, down_reason_small, xdp_place, xdp_small}
use Rattle.link_nest.specs.Tables.{link_info_place, link_info_small}
use Rattle.link_afspec.specs.Tables.{af_spec_mctp_place, af_spec_mctp_small, af_spec_inet_place, af_spec_inet6_place}
use Rattle.link_afspec.specs.Tables.{af_spec_unspec_place, af_spec_bridge_place, af_spec_bridge_small}
use Rattle.link_afspec.specs.Tables.{link_proto_info_bridge_place, link_proto_info_bridge_small}
use Rattle.link_afspec.specs.Tables.{link_proto_info_inet6_place, link_proto_info_inet6_small}
use Rattle.link_afspec.specs.declared.inet.AfSpecInet.{AfSpecInet}
use Rattle.link_afspec.specs.declared.inet6.AfSpecInet6.{AfSpecInet6}
use Rattle.link_afspec.specs.declared.unspec.AfSpecUnspec.{AfSpecUnspec}
use Rattle.link_afspec.specs.declared.unspec.AfSpecUnspec.TheVariants as Unspecs
use Rattle.link_msg.specs.Tables.{attribute_view, attribute_frame, InsideFits, AttributeFits, NotEmptyPorts}
use Rattle.link_msg.specs.Messages.{Means, MeansNothing, MessageFits, NoEmptyPorts, message_text, read_message}
use Rattle.link_msg.specs.declared.attribute.LinkAttribute.{LinkAttribute}
use Rattle.link_msg.specs.declared.attribute.LinkAttribute.TheVariants as Attributes
use Rattle.link_msg.specs.declared.message.LinkMessage.{LinkMessage}
use Rattle.link_msg.proofs.Reading.{message_agrees}

-- ** tests

both : {P Q : Type 0} → Dec P → Dec Q → Dec (P × Q)
both (yes p) (yes q) = yes (p, q)
both (yes p) (no n) = no (λ h. n h.1)
both (no n) q = no (λ h. n h.0)

each : {V : Type 0} {P : V → Type 0} → ((v : V) → Dec (P v)) → (vs : List V) → Dec (AllByRecursion P vs)
each test [] = yes tt
each test (v ∷ vs) = both (test v) (each test vs)

-- ** places

small : (f : Frame) → Dec (IsSmall f)
small f = dec_le (length f.payload) most_payload

-- where all that is small fits
flat : {V : Type 0} (p : Place V) → ((v : V) → IsSmall (p.frame v) → p.Fits v) → (v : V) → Dec (p.Fits v)
flat p fits v = elim (small (p.frame v)) [ yes is ↦ yes (fits v is) | no n ↦ no (λ h. n (p.is_small v h)) ]

members : {V : Type 0} (p : Place V) → ((v : V) → Dec (p.Fits v)) → (vs : List V) → Dec (AllFit p.Fits p.frame vs)
members p each_fits vs = both (each each_fits vs) (dec_lt (length (canons p.frame vs)) (2 ^ 64))

vf_vlan : (v : VfVlan) → Dec (vf_vlan_place.Fits v)
unfolding vf_vlan_place
vf_vlan = flat vf_vlan_place (vf_vlan_place.when_small tt)

vf_info : (v : VfInfo) → Dec (vf_info_place.Fits v)
unfolding vf_info_place
vf_info (Infos.Stats vs) =
    both (small (vf_info_place.frame (Infos.Stats vs))) (members vf_stats_place (flat vf_stats_place vf_stats_small) vs)
vf_info (Infos.VlanList vs) = both (small (vf_info_place.frame (Infos.VlanList vs))) (members vf_vlan_place vf_vlan vs)
vf_info v = both (small (vf_info_place.frame v)) (yes tt)

function : (v : LinkVfInfo) → Dec (link_vf_info_place.Fits v)
unfolding link_vf_info_place
function v = both (small (link_vf_info_place.frame v)) (members vf_info_place vf_info v.0)

port : (v : LinkVfPort) → Dec (link_vf_port_place.Fits v)
unfolding link_vf_port_place
port v = both (small (link_vf_port_place.frame v)) (members vf_port_place (flat vf_port_place vf_port_small) v.0)

inet : (v : AfSpecInet) → Dec (af_spec_inet_place.Fits v)
unfolding af_spec_inet_place
inet = flat af_spec_inet_place (af_spec_inet_place.when_small tt)

inet6 : (v : AfSpecInet6) → Dec (af_spec_inet6_place.Fits v)
unfolding af_spec_inet6_place
inet6 = flat af_spec_inet6_place (af_spec_inet6_place.when_small tt)

unspec : (v : AfSpecUnspec) → Dec (af_spec_unspec_place.Fits v)
unfolding af_spec_unspec_place
unspec (Unspecs.Inet vs) =
    both (small (af_spec_unspec_place.frame (Unspecs.Inet vs))) (members af_spec_inet_place inet vs)
unspec (Unspecs.Inet6 vs) =
    both (small (af_spec_unspec_place.frame (Unspecs.Inet6 vs))) (members af_spec_inet6_place inet6 vs)
unspec (Unspecs.Mctp vs) = both (small (af_spec_unspec_place.frame (Unspecs.Mctp vs)))
    (members af_spec_mctp_place (flat af_spec_mctp_place af_spec_mctp_small) vs)
unspec v = both (small (af_spec_unspec_place.frame v)) (yes tt)

-- ** messages

inside : (v : LinkAttribute) → Dec (InsideFits v)
unfolding attribute_view
inside (Attributes.Wireless event) = dec_le _ most_payload
inside (Attributes.ProtoInfoBridge vs) =
    members link_proto_info_bridge_place (flat link_proto_info_bridge_place link_proto_info_bridge_small) vs
inside (Attributes.ProtoInfoInet6 vs) =
    members link_proto_info_inet6_place (flat link_proto_info_inet6_place link_proto_info_inet6_small) vs
inside (Attributes.LinkInfo vs) = members link_info_place (flat link_info_place link_info_small) vs
inside (Attributes.VfInfoList vs) = members link_vf_info_place function vs
inside (Attributes.VfPorts vs) = members link_vf_port_place port vs
inside (Attributes.PortSelf v) = members vf_port_place (flat vf_port_place vf_port_small) v.0
inside (Attributes.AfSpecBridge vs) = members af_spec_bridge_place (flat af_spec_bridge_place af_spec_bridge_small) vs
inside (Attributes.AfSpecUnspec vs) = members af_spec_unspec_place unspec vs
inside (Attributes.ExtMask flags) = dec_lt _ (2 ^ 32)
inside (Attributes.PhysPortId id) = dec_le id.len 32
inside (Attributes.PhysSwitchId id) = dec_le id.len 32
inside (Attributes.Xdp vs) = members xdp_place (flat xdp_place xdp_small) vs
inside (Attributes.PropList vs) = members prop_place (flat prop_place prop_small) vs
inside (Attributes.ProtoDownReason vs) = members down_reason_place (flat down_reason_place down_reason_small) vs
inside (Attributes.DevlinkPort vs) = members devlink_port_place (flat devlink_port_place devlink_port_small) vs
inside (Attributes.DpllPin vs) = members dpll_pin_place (flat dpll_pin_place dpll_pin_small) vs
inside _ = yes tt

attribute : (v : LinkAttribute) → Dec (AttributeFits v)
attribute v = both (small (attribute_frame v)) (inside v)

pub fits_or_not : (m : LinkMessage) → Dec (MessageFits m)
fits_or_not m = both (each attribute m.attributes) (dec_lt (length (message_text m)) (2 ^ 64))

attribute_ports : (v : LinkAttribute) → Dec (NotEmptyPorts v)
attribute_ports (Attributes.VfPorts ports) = dec_lt 0 (length ports)
attribute_ports _ = yes tt

pub ports_or_not : (m : LinkMessage) → Dec (NoEmptyPorts m)
ports_or_not m = each attribute_ports m.attributes

by_reading : (b : List ℕ) → IsBytes b → (r : Result LinkMessage Cause) → read_message b ≡ r
    → MeansNothing b ⊎ ((m : LinkMessage) × Means b m)
by_reading b bytes (Ok m) is = inr (m, message_agrees.found b m bytes is)
by_reading b bytes (Err c) is =
    inl (λ m means. let clash : Err c ≡ Ok m = sym is ∙ message_agrees.only b m means in absurd cc)

pub read_or_refused : (b : List ℕ) → IsBytes b → MeansNothing b ⊎ ((m : LinkMessage) × Means b m)
read_or_refused b bytes = by_reading b bytes (read_message b) refl
