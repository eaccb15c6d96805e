-- The outermost table that code goes by is that of the kernel's numbers, with all tables inside of it.
use Rattle.std.specs.Prelude.{◌≡◌, refl}
use Rattle.link_vals.specs.declared.address_family.AddressFamily.{AddressFamily}
use Rattle.link_vals.specs.declared.address_family.AddressFamily.TheVariants as Families
use Rattle.link_nest.specs.Tables.{prop_place, devlink_port_place, dpll_pin_place, down_reason_place, xdp_place}
use Rattle.link_nest.specs.Tables.{link_info_place}
use Rattle.link_vf.specs.Tables.{vf_stats_place, vf_vlan_place, vf_info_place, vf_port_place, link_vf_info_place}
use Rattle.link_vf.specs.Tables.{link_vf_port_place}
use Rattle.link_afspec.specs.Tables.{af_spec_mctp_place, af_spec_inet_place, af_spec_inet6_place, af_spec_unspec_place}
use Rattle.link_afspec.specs.Tables.{af_spec_bridge_place, link_proto_info_bridge_place, link_proto_info_inet6_place}
use Rattle.link_msg.specs.Tables.{attribute_place, attribute_view, attribute_entries, proto_info, af_spec}
use Rattle.link_headline.specs.Rows.{place}
use Rattle.link_headline.specs.Kernel.{attributes}

pub one_place : (family : AddressFamily) → attribute_place family ≡ place (attributes family)
unfolding attribute_place attribute_entries attribute_view proto_info af_spec prop_place devlink_port_place
    dpll_pin_place down_reason_place xdp_place link_info_place vf_stats_place vf_vlan_place vf_info_place vf_port_place
    link_vf_info_place link_vf_port_place af_spec_mctp_place af_spec_inet_place af_spec_inet6_place af_spec_unspec_place
    af_spec_bridge_place link_proto_info_bridge_place link_proto_info_inet6_place
one_place Families.Unspec = refl
one_place Families.Inet = refl
one_place Families.Bridge = refl
one_place Families.Inet6 = refl
one_place Families.Mctp = refl
one_place (Families.Other n) = refl
