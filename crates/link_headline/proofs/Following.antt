-- The values of each table are written as its rows say.
use Rattle.std.proofs.Common.{List, [], ◌∷◌, ◌++◌, rules}
use Rattle.link_vals.specs.declared.address_family.AddressFamily.{AddressFamily}
use Rattle.link_vals.specs.declared.address_family.AddressFamily.TheVariants as Families
use Rattle.link_nest.specs.Tables.{prop_place, devlink_port_place, dpll_pin_place, down_reason_place, xdp_place}
use Rattle.link_nest.specs.Tables.{link_info_place}
use Rattle.link_vf.specs.Tables.{vf_stats_place, vf_vlan_place, vf_info_place, vf_port_place, link_vf_info_place}
use Rattle.link_vf.specs.Tables.{link_vf_port_place}
use Rattle.link_afspec.specs.Tables.{af_spec_mctp_place, af_spec_inet_place, af_spec_inet6_place, af_spec_unspec_place}
use Rattle.link_afspec.specs.Tables.{af_spec_bridge_place, link_proto_info_bridge_place, link_proto_info_inet6_place}
use Rattle.link_msg.specs.Tables.{attribute_view}
use Rattle.link_headline.specs.Rows.{Written, Row, EachWrites, FollowsRows, Keeps}
use Rattle.link_headline.specs.Kernel as kernel
use Rattle.link_headline.specs.Values as values

-- ** inner tables

functions : FollowsRows kernel.functions
unfolding vf_info_place vf_stats_place vf_vlan_place
functions = search rules

function_stats : FollowsRows kernel.function_stats
unfolding vf_stats_place
function_stats = search rules

function_vlans : FollowsRows kernel.function_vlans
unfolding vf_vlan_place
function_vlans = search rules

ports : FollowsRows kernel.ports
unfolding vf_port_place
ports = search rules

families : FollowsRows kernel.families
unfolding af_spec_unspec_place af_spec_mctp_place af_spec_inet_place af_spec_inet6_place
families = search rules

inets : FollowsRows kernel.inets
unfolding af_spec_inet_place
inets = search rules

inet6s : FollowsRows kernel.inet6s
unfolding af_spec_inet6_place
inet6s = search rules

mctps : FollowsRows kernel.mctps
unfolding af_spec_mctp_place
mctps = search rules

bridges : FollowsRows kernel.bridges
unfolding af_spec_bridge_place
bridges = search rules

bridge_infos : FollowsRows kernel.bridge_infos
unfolding link_proto_info_bridge_place
bridge_infos = search rules

inet6_infos : FollowsRows kernel.inet6_infos
unfolding link_proto_info_inet6_place
inet6_infos = search rules

props : FollowsRows kernel.props
unfolding prop_place
props = search rules

devlink_ports : FollowsRows kernel.devlink_ports
unfolding devlink_port_place
devlink_ports = search rules

dpll_pins : FollowsRows kernel.dpll_pins
unfolding dpll_pin_place
dpll_pins = search rules

reasons : FollowsRows kernel.reasons
unfolding down_reason_place
reasons = search rules

xdps : FollowsRows kernel.xdps
unfolding xdp_place
xdps = search rules

infos : FollowsRows kernel.infos
unfolding link_info_place
infos = search rules

-- ** the outermost table

both : {V : Type 0} (w : Written V) (rs ss : List {1} (Row V)) → EachWrites rs w → EachWrites ss w
    → EachWrites (rs ++ ss) w
both w [] ss first second = second
both w (r ∷ rs) ss first second = (first.0, both w rs ss first.1 second)

rows : EachWrites kernel.rows values.attributes
unfolding attribute_view link_vf_info_place link_vf_port_place vf_info_place vf_port_place
rows = search rules depth 80

last : (family : AddressFamily)
    → EachWrites (kernel.proto_info family ∷ kernel.af_spec family ∷ []) values.attributes
unfolding attribute_view
last Families.Unspec = search rules
last Families.Inet = search rules
last Families.Bridge = search rules
last Families.Inet6 = search rules
last Families.Mctp = search rules
last (Families.Other n) = search rules

others : Keeps (kernel.attributes Families.Unspec).other values.attributes
unfolding attribute_view
others = search rules

pub written : kernel.AllFollowRows
written = record {
  attributes = λ family. (
    both values.attributes kernel.rows (kernel.proto_info family ∷ kernel.af_spec family ∷ []) rows (last family),
    others,
  );
  functions = functions;
  function_stats = function_stats;
  function_vlans = function_vlans;
  ports = ports;
  families = families;
  inets = inets;
  inet6s = inet6s;
  mctps = mctps;
  bridges = bridges;
  bridge_infos = bridge_infos;
  inet6_infos = inet6_infos;
  props = props;
  devlink_ports = devlink_ports;
  dpll_pins = dpll_pins;
  reasons = reasons;
  xdps = xdps;
  infos = infos;
}
