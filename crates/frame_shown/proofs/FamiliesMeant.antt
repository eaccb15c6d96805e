-- What is shown of settings by family is of what they mean: a line for each row of their tables.
use Rattle.std.proofs.Common.{ℕ, suc, refl}
use Rattle.std.specs.Int.{w8, w32}
use Rattle.link_afspec.specs.Tables as families
use Rattle.link_afspec.specs.contracts.bridge.AfSpecBridge.{enum as bridges}
use Rattle.link_afspec.specs.contracts.inet.AfSpecInet.{enum as inets}
use Rattle.link_afspec.specs.contracts.inet6.AfSpecInet6.{enum as inet6s}
use Rattle.link_afspec.specs.contracts.mctp.AfSpecMctp.{enum as mctps}
use Rattle.link_afspec.specs.contracts.proto_bridge.LinkProtoInfoBridge.{enum as proto_bridges}
use Rattle.link_afspec.specs.contracts.proto_inet6.LinkProtoInfoInet6.{enum as proto_inet6s}
use Rattle.link_afspec.specs.contracts.unspec.AfSpecUnspec.{enum as unspecs}
use Rattle.link_afspec.specs.declared.bridge.AfSpecBridge.TheVariants as bridge
use Rattle.link_afspec.specs.declared.inet.AfSpecInet.TheVariants as inet
use Rattle.link_afspec.specs.declared.inet6.AfSpecInet6.TheVariants as inet6
use Rattle.link_afspec.specs.declared.mctp.AfSpecMctp.TheVariants as mctp
use Rattle.link_afspec.specs.declared.proto_bridge.LinkProtoInfoBridge.TheVariants as proto_bridge
use Rattle.link_afspec.specs.declared.proto_inet6.LinkProtoInfoInet6.TheVariants as proto_inet6
use Rattle.link_afspec.specs.declared.unspec.AfSpecUnspec.TheVariants as unspec
use Rattle.link_info.specs.declared.style.Size.TheVariants as Sizes
use Rattle.link_recs.specs.Icmp6StatsFields.{icmp6_stats_of}
use Rattle.link_recs.specs.Inet6CacheInfoFields.{inet6_cache_info_of, inet6_cache_info_size}
use Rattle.link_recs.specs.Inet6DevConfFields.{inet6_dev_conf_of}
use Rattle.link_recs.specs.Inet6StatsFields.{inet6_stats_of}
use Rattle.link_recs.specs.InetDevConfFields.{inet_dev_conf_of}
use Rattle.link_vals.proofs.Numbers.{in6_addr_gen_mode_again, mctp_phys_binding_again}
use Rattle.link_vals.specs.In6AddrGenModeTable.{in6_addr_gen_mode_of, in6_addr_gen_mode_number}
use Rattle.link_vals.specs.Inet6IfaceFlagsTable.{inet6_iface_flags_of, inet6_iface_flags_bits}
use Rattle.link_vals.specs.MctpPhysBindingTable.{mctp_phys_binding_of, mctp_phys_binding_number}
use Rattle.nla_wire.specs.Frames.{Frame}
use Rattle.nla_wire.specs.Grammar.{as_a, list, not_empty}
use Rattle.nla_wire.specs.Payloads as payload
use Rattle.nla_wire.specs.Sizes.{plain_growth, growth, slack, inner_small}
use Rattle.frame_shown.specs.Frames.{frame_item, levels}
use Rattle.frame_shown.specs.Values.{Nesting, form_shown}
use Rattle.frame_shown.specs.declared.form.Around.{Around}
use Rattle.frame_shown.specs.declared.form.Bits.TheVariants as Masks
use Rattle.frame_shown.specs.declared.form.Choice.TheVariants as Choices
use Rattle.frame_shown.specs.declared.form.Form.TheVariants as Forms
use Rattle.frame_shown.specs.declared.form.List.TheVariants as Shapes
use Rattle.frame_shown.specs.declared.form.Settings.TheVariants as Sets
use Rattle.frame_shown.specs.declared.form.Table.TheVariants as Tables
use Rattle.frame_shown.specs.declared.form.Words.TheVariants as Counts
use Rattle.frame_shown.proofs.Alike.{OfFrames, OfMeaning, of_table, through, unless_empty}
use Rattle.frame_shown.proofs.RecordsMeant.{records_meant}
use Rattle.frame_shown.proofs.Rows.{◌&◌, bytes_four, choices, own_list, row, shown_alike}
use Rattle.frame_shown.proofs.ValuesMeant.{values_meant}

module _ (nest : Nesting) (cx : Around) where
  inets_alike : OfFrames families.af_spec_inet_place.grammar (frame_item nest cx (Shapes.Own Tables.Inet))
  unfolding families.af_spec_inet_place
  inets_alike =
      let at = row nest cx (Shapes.Own Tables.Inet) in
      of_table inets growth 0 inner_small families.af_spec_inet_table inet.Other (λ f. refl) tt tt tt
      (frame_item nest cx (Shapes.Own Tables.Inet))
      (at 1 (Forms.Settings Sets.Inet) _ _ (payload.filled inet_dev_conf_of) inet.DevConf refl (λ p. refl)
      (shown_alike (payload.filled inet_dev_conf_of) (form_shown nest cx (Forms.Settings Sets.Inet)) _
      (records_meant nest cx).settings)
      & (λ one. tt)
      & (λ one. tt)
      & tt)

  flags_alike : OfMeaning (as_a inet6_iface_flags_of (payload.number_of w32))
      (form_shown nest cx (Forms.Flags Masks.Inet6))
  flags_alike = through (payload.number_of w32) (form_shown nest cx (Forms.Flags Masks.Inet6)) inet6_iface_flags_of
      inet6_iface_flags_bits (λ p n small means. refl)
      (shown_alike (payload.number_of w32) (form_shown nest cx (Forms.Flags Masks.Inet6)) _
      ((values_meant nest cx).flags Masks.Inet6))

  inet6s_alike : OfFrames families.af_spec_inet6_place.grammar (frame_item nest cx (Shapes.Own Tables.Inet6))
  unfolding families.af_spec_inet6_place
  inet6s_alike =
      let at = row nest cx (Shapes.Own Tables.Inet6) in
      of_table inet6s growth 0 inner_small families.af_spec_inet6_table inet6.Other (λ f. refl) tt tt tt
      (frame_item nest cx (Shapes.Own Tables.Inet6))
      (at 1 (Forms.Flags Masks.Inet6) _ _ (as_a inet6_iface_flags_of (payload.number_of w32)) inet6.Flags refl
      (λ p. refl) flags_alike
      & at 5 (Forms.Settings Sets.Cache) _ _ (payload.sized inet6_cache_info_size inet6_cache_info_of) inet6.CacheInfo
      refl (λ p. refl) (shown_alike (payload.sized inet6_cache_info_size inet6_cache_info_of)
      (form_shown nest cx (Forms.Settings Sets.Cache)) _ (records_meant nest cx).cache)
      & at 2 (Forms.Settings Sets.Inet6) _ _ (payload.filled inet6_dev_conf_of) inet6.DevConf refl (λ p. refl)
      (shown_alike (payload.filled inet6_dev_conf_of) (form_shown nest cx (Forms.Settings Sets.Inet6)) _
      (records_meant nest cx).settings6)
      & at 3 Forms.Ipv6Counters _ _ (payload.filled inet6_stats_of) inet6.Stats refl (λ p. refl)
      (shown_alike (payload.filled inet6_stats_of) (form_shown nest cx Forms.Ipv6Counters) _
      (records_meant nest cx).ipv6)
      & at 6 (Forms.Counters Counts.Icmp6) _ _ (payload.filled icmp6_stats_of) inet6.Icmp6Stats refl (λ p. refl)
      (shown_alike (payload.filled icmp6_stats_of) (form_shown nest cx (Forms.Counters Counts.Icmp6)) _
      (records_meant nest cx).icmp6)
      & at 7 Forms.Ipv6 _ _ payload.ipv6_address inet6.Token refl (λ p. refl)
      (shown_alike payload.ipv6_address (form_shown nest cx Forms.Ipv6) _ (values_meant nest cx).ipv6)
      & at 8 (Forms.Choice Choices.GenMode) _ _ (as_a in6_addr_gen_mode_of (payload.number_of w8)) inet6.AddrGenMode
      refl (λ p. refl)
      (choices nest cx Choices.GenMode (λ h. h) in6_addr_gen_mode_of in6_addr_gen_mode_number in6_addr_gen_mode_again)
      & at 9 (Forms.Number Sizes.Four) _ _ (payload.number_of w32) inet6.RaMtu refl (λ p. refl) (bytes_four nest cx)
      & (λ one. tt)
      & tt)

  mctps_alike : OfFrames families.af_spec_mctp_place.grammar (frame_item nest cx (Shapes.Own Tables.Mctp))
  unfolding families.af_spec_mctp_place
  mctps_alike =
      let at = row nest cx (Shapes.Own Tables.Mctp) in
      of_table mctps plain_growth 0 inner_small families.af_spec_mctp_table mctp.Other (λ f. refl) tt tt tt
      (frame_item nest cx (Shapes.Own Tables.Mctp))
      (at 1 (Forms.Number Sizes.Four) _ _ (payload.number_of w32) mctp.Net refl (λ p. refl) (bytes_four nest cx)
      & at 2 (Forms.Choice Choices.Binding) _ _ (as_a mctp_phys_binding_of (payload.number_of w8)) mctp.PhysBinding refl
      (λ p. refl)
      (choices nest cx Choices.Binding (λ h. h) mctp_phys_binding_of mctp_phys_binding_number mctp_phys_binding_again)
      & (λ one. tt)
      & tt)

-- the families in IFLA_AF_SPEC
pub families_alike : (n : ℕ) (cx : Around)
    → OfFrames families.af_spec_unspec_place.grammar (frame_item (levels (suc n) cx) cx (Shapes.Own Tables.Families))
unfolding families.af_spec_unspec_place families.af_spec_inet_place families.af_spec_inet6_place
    families.af_spec_mctp_place
families_alike n cx =
    let at = row (levels (suc n) cx) cx (Shapes.Own Tables.Families) in
    of_table unspecs growth slack inner_small families.af_spec_unspec_table unspec.Other (λ f. refl) tt tt tt
    (frame_item (levels (suc n) cx) cx (Shapes.Own Tables.Families))
    (at 2 (Forms.List (Shapes.Own Tables.Inet)) _ _ (not_empty (list families.af_spec_inet_place.grammar)) unspec.Inet
    refl (λ p. refl) (unless_empty (list families.af_spec_inet_place.grammar)
    (form_shown (levels (suc n) cx) cx (Forms.List (Shapes.Own Tables.Inet)))
    (own_list n cx families.af_spec_inet_place.grammar Tables.Inet (inets_alike (levels n cx) cx)))
    & at 10 (Forms.List (Shapes.Own Tables.Inet6)) _ _ (not_empty (list families.af_spec_inet6_place.grammar))
    unspec.Inet6 refl (λ p. refl) (unless_empty (list families.af_spec_inet6_place.grammar)
    (form_shown (levels (suc n) cx) cx (Forms.List (Shapes.Own Tables.Inet6)))
    (own_list n cx families.af_spec_inet6_place.grammar Tables.Inet6 (inet6s_alike (levels n cx) cx)))
    & at 45 (Forms.List (Shapes.Own Tables.Mctp)) _ _ (not_empty (list families.af_spec_mctp_place.grammar)) unspec.Mctp
    refl (λ p. refl) (unless_empty (list families.af_spec_mctp_place.grammar)
    (form_shown (levels (suc n) cx) cx (Forms.List (Shapes.Own Tables.Mctp)))
    (own_list n cx families.af_spec_mctp_place.grammar Tables.Mctp (mctps_alike (levels n cx) cx)))
    & (λ one. tt)
    & tt)

-- ** places of which no number is listed: all frames are kept

module _ {X : Type 0} (said : Frame → X) where
  pub bridges_alike : OfFrames families.af_spec_bridge_place.grammar said
  unfolding families.af_spec_bridge_place
  bridges_alike = of_table bridges plain_growth 0 inner_small families.af_spec_bridge_table bridge.Other (λ f. refl) tt
      tt tt said ((λ one. tt) & tt)

  pub proto_bridges_alike : OfFrames families.link_proto_info_bridge_place.grammar said
  unfolding families.link_proto_info_bridge_place
  proto_bridges_alike = of_table proto_bridges plain_growth 0 inner_small families.link_proto_info_bridge_table
      proto_bridge.Other (λ f. refl) tt tt tt said ((λ one. tt) & tt)

  pub proto_inet6s_alike : OfFrames families.link_proto_info_inet6_place.grammar said
  unfolding families.link_proto_info_inet6_place
  proto_inet6s_alike = of_table proto_inet6s plain_growth 0 inner_small families.link_proto_info_inet6_table
      proto_inet6.Other (λ f. refl) tt tt tt said ((λ one. tt) & tt)
