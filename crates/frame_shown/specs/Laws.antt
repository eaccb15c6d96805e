-- What is shown of a payload is what is shown of the value that it means.
use Rattle.std.specs.Prelude.{◌≡◌, ℕ, ℤ, List, [], ◌∷◌, ◌++◌, Bool, codes, map, slice_index, take}
use Rattle.std.specs.Int.{w8, w32, w64, cast_unsigned}
use Rattle.std.specs.List.{zip}
use Rattle.std.specs.Net.Addr.{ipv6_segments}
use Rattle.std.specs.Net.Text.{ipv6_text}
use Rattle.json.specs.Token.{Token, string}
use Rattle.link_info.specs.Styles.{width}
use Rattle.link_info.specs.declared.style.Size.{Size}
use Rattle.link_nest.specs.Wireless.{wireless_event}
use Rattle.link_nest.specs.declared.wireless.WirelessEvent.{WirelessEvent}
use Rattle.link_nest.specs.declared.wireless.WirelessEvent.TheVariants as Events
use Rattle.link_recs.specs.Icmp6StatsFields.{icmp6_stats_fields, icmp6_stats_of}
use Rattle.link_recs.specs.Inet6CacheInfoFields.{inet6_cache_info_fields, inet6_cache_info_of, inet6_cache_info_size}
use Rattle.link_recs.specs.Inet6DevConfFields.{inet6_dev_conf_fields, inet6_dev_conf_of}
use Rattle.link_recs.specs.Inet6StatsFields.{inet6_stats_fields, inet6_stats_of}
use Rattle.link_recs.specs.Inet6StatsOrder.{order_since_6_16}
use Rattle.link_recs.specs.InetDevConfFields.{inet_dev_conf_fields, inet_dev_conf_of}
use Rattle.link_recs.specs.MapFields.{map_of, map_size}
use Rattle.link_recs.specs.Stats64Fields.{stats64_fields, stats64_of}
use Rattle.link_recs.specs.StatsFields.{stats_fields, stats_of}
use Rattle.link_recs.specs.declared.inet6_stats.Inet6Stats.{Inet6Stats}
use Rattle.link_recs.specs.declared.map.Map.{Map}
use Rattle.link_vals.specs.LinkPhysIdBytes.{phys_id_bytes, phys_id_of}
use Rattle.link_vals.specs.VfLinkStateTable.{vf_link_state_number}
use Rattle.link_vals.specs.VlanProtocolTable.{vlan_protocol_number}
use Rattle.link_vfrec.specs.Records as Functions
use Rattle.link_vfrec.specs.Truth.{on_number}
use Rattle.link_vfrec.specs.declared.link_state.VfInfoLinkState.{VfInfoLinkState}
use Rattle.link_vfrec.specs.declared.rate.VfInfoRate.{VfInfoRate}
use Rattle.link_vfrec.specs.declared.vf_vlan.VfVlanInfo.{VfVlanInfo}
use Rattle.link_vfrec.specs.declared.vlan.VfInfoVlan.{VfInfoVlan}
use Rattle.nla_wire.specs.Frames.{IsBytes}
use Rattle.nla_wire.specs.Grammar.{Grammar}
use Rattle.nla_wire.specs.Payloads.{bytes, filled, ipv6_address, number_of, signed_of, sized, text}
use Rattle.shown.specs.Drafts.{Members, object_of}
use Rattle.shown.specs.Values.{flags_of, hardware_address, name_or_number, numbered}
use Rattle.frame_shown.specs.Values.{Nesting, address_shown, bits_in, choice_token, elements_in, form_shown}
use Rattle.frame_shown.specs.Values.{hexadecimal}
use Rattle.frame_shown.specs.Values.{listed, number_tokens, protocol_name, signed_unless_zero, signed_value, truth_of}
use Rattle.frame_shown.specs.Values.{unless_zero_named}
use Rattle.frame_shown.specs.declared.form.Around.{Around}
use Rattle.frame_shown.specs.declared.form.Bits.{Bits}
use Rattle.frame_shown.specs.declared.form.Choice.{Choice}
use Rattle.frame_shown.specs.declared.form.Choice.TheVariants as Choices
use Rattle.frame_shown.specs.declared.form.Form.TheVariants as Forms
use Rattle.frame_shown.specs.declared.form.Field.TheVariants as Kinds
use Rattle.frame_shown.specs.declared.form.Order.{Order}
use Rattle.frame_shown.specs.declared.form.Order.TheVariants as Orders
use Rattle.frame_shown.specs.declared.form.Record.TheVariants as Records
use Rattle.frame_shown.specs.declared.form.Settings.TheVariants as Sets
use Rattle.frame_shown.specs.declared.form.Words.TheVariants as Counts
use Rattle.frame_shown.specs.declared.tables.family.TheConstants.{CACHE_INFO, ICMP6_STATS, INET_CONF, INET6_CONF}
use Rattle.frame_shown.specs.declared.tables.family.TheConstants.{INET6_STATS}
use Rattle.frame_shown.specs.declared.tables.functions.TheConstants.{VF_LINK_STATES}
use Rattle.frame_shown.specs.declared.tables.names.TheConstants.{STATS}

-- a payload that means a value is shown as the value is
abbrev pub Shows : {A : Type 0} → Grammar (List ℕ) A → (List ℕ → List Token) → (A → List Token) → Type 0
Shows {A} g shown by = (p : List ℕ) (v : A) → IsBytes p → g.means p v → shown p ≡ by v

-- ** numbers, texts and bytes

abbrev pub event_by : WirelessEvent → List Token
event_by (Events.AssociateRequest x) = object_of ((codes "assocreqie", hexadecimal (elements_in x)) ∷ [])
event_by (Events.AssociateResponse x) = object_of ((codes "assocrespie", hexadecimal (elements_in x)) ∷ [])
event_by (Events.Other p) = object_of ((codes "payload", hexadecimal p) ∷ [])

pub record ValuesAreMeant (nest : Nesting) (cx : Around) : Type 0 where
  pub numbers : (size : Size) → Shows (number_of (width size)) (form_shown nest cx (Forms.Number size)) number_tokens
  pub exact : (size : Size) → Shows (number_of (width size)) (form_shown nest cx (Forms.Exact size)) number_tokens
  pub signed : Shows (signed_of w32) (form_shown nest cx Forms.Signed) signed_value
  pub truths : Shows (number_of w8) (form_shown nest cx Forms.Truth) (λ n. number_tokens (truth_of n))
  pub texts : Shows text (form_shown nest cx Forms.Text) (λ s. string s ∷ [])
  pub addresses : Shows bytes (form_shown nest cx Forms.Address) (λ x. string (hardware_address x) ∷ [])
  pub ids : Shows (filled phys_id_of) (form_shown nest cx Forms.Id) (λ v. hexadecimal (phys_id_bytes v))
  pub flags : (bits : Bits)
      → Shows (number_of w32) (form_shown nest cx (Forms.Flags bits)) (λ n. flags_of (bits_in bits) n)
  pub names : (choice : Choice) → (choice ≡ Choices.Event → ⊥)
      → Shows (number_of w8) (form_shown nest cx (Forms.Choice choice)) (λ n. choice_token choice n ∷ [])
  pub events : Shows (number_of w32) (form_shown nest cx (Forms.Choice Choices.Event))
      (λ n. choice_token Choices.Event n ∷ [])
  pub ipv6 : Shows ipv6_address (form_shown nest cx Forms.Ipv6) (λ a. string (ipv6_text (ipv6_segments a)) ∷ [])
  pub wireless : Shows wireless_event (form_shown nest cx Forms.Wireless) event_by

-- ** counters and settings of a link

-- the names of numbers, as far as there are both
abbrev pub counters_by : List (List ℕ) → List ℕ → Members
counters_by names ns = zip names (map number_tokens ns)

abbrev pub settings_by : List (List ℕ) → List ℤ → Members
settings_by names zs = zip names (map signed_value zs)

abbrev pub map_by : Map → Members
map_by v =
    numbered (codes "mem-start") v.memory_start
    ∷ numbered (codes "mem-end") v.memory_end
    ∷ numbered (codes "base-addr") v.base_address
    ∷ numbered (codes "irq") v.irq
    ∷ numbered (codes "dma") v.dma
    ∷ numbered (codes "port") v.port
    ∷ []

-- counters that are kept as numbers that may be below zero, and are none
abbrev pub unsigned : List ℤ → List ℕ
unsigned zs = map (cast_unsigned w64) zs

abbrev pub ipv6_names : List (List ℕ)
ipv6_names = map (λ row. row.0.now) INET6_STATS

abbrev pub ipv6_named_by : List ℕ → Members
ipv6_named_by ns = counters_by ipv6_names ns ++ unless_zero_named (codes "reserved-39") (slice_index ns 38)

-- in the order of each kernel
abbrev pub ipv6_counters_by : Order → Inet6Stats → List Token
ipv6_counters_by Orders.Unknown v = listed (map (λ n. ([], number_tokens n)) (unsigned (inet6_stats_fields v)))
ipv6_counters_by Orders.Before v = object_of (ipv6_named_by (unsigned (inet6_stats_fields v)))
ipv6_counters_by Orders.Since v =
    object_of (ipv6_named_by (map (λ n. slice_index (unsigned (inet6_stats_fields v)) n) order_since_6_16))

pub record RecordsAreMeant (nest : Nesting) (cx : Around) : Type 0 where
  pub stats : Shows (filled stats_of) (form_shown nest cx (Forms.Counters Counts.Stats))
      (λ v. object_of (counters_by (take 24 (map (λ name. name.now) STATS)) (stats_fields v)))
  pub stats64 : Shows (filled stats64_of) (form_shown nest cx (Forms.Counters Counts.Stats64))
      (λ v. object_of (counters_by (map (λ name. name.now) STATS) (stats64_fields v)))
  pub icmp6 : Shows (filled icmp6_stats_of) (form_shown nest cx (Forms.Counters Counts.Icmp6))
      (λ v. object_of (counters_by (map (λ name. name.now) ICMP6_STATS) (unsigned (icmp6_stats_fields v))))
  pub ipv6 : Shows (filled inet6_stats_of) (form_shown nest cx Forms.Ipv6Counters) (ipv6_counters_by cx.order)
  pub settings : Shows (filled inet_dev_conf_of) (form_shown nest cx (Forms.Settings Sets.Inet))
      (λ v. object_of (settings_by (map (λ name. name.now) INET_CONF) (inet_dev_conf_fields v)
      ++ signed_unless_zero (codes "reserved-34") v.reserved_34))
  pub settings6 : Shows (filled inet6_dev_conf_of) (form_shown nest cx (Forms.Settings Sets.Inet6))
      (λ v. object_of (settings_by (map (λ name. name.now) INET6_CONF) (inet6_dev_conf_fields v)))
  pub cache : Shows (sized inet6_cache_info_size inet6_cache_info_of) (form_shown nest cx (Forms.Settings Sets.Cache))
      (λ v. object_of (settings_by (map (λ name. name.now) CACHE_INFO) (inet6_cache_info_fields v)))
  pub maps : Shows (sized map_size map_of) (form_shown nest cx (Forms.Record Records.Map)) (λ v. object_of (map_by v))

-- ** records of functions

abbrev pub function_by : ℕ → Members → List Token
function_by function ms = object_of (numbered (codes "vf") function ∷ ms)

abbrev pub setting_by : ℕ → Bool → List Token
setting_by function is_on = function_by function (numbered (codes "setting") (on_number is_on) ∷ [])

abbrev pub vlan_by : VfInfoVlan → List Token
vlan_by v = function_by v.vf_id (numbered (codes "vlan") v.vlan_id ∷ numbered (codes "qos") v.qos ∷ [])

abbrev pub rate_by : VfInfoRate → List Token
rate_by v = function_by v.vf_id
    (numbered (codes "min-tx-rate") v.min_tx_rate ∷ numbered (codes "max-tx-rate") v.max_tx_rate ∷ [])

abbrev pub state_by : VfInfoLinkState → List Token
state_by v = function_by v.vf_id ((
  codes "link-state",
  name_or_number (map (λ name. name.now) VF_LINK_STATES) (vf_link_state_number v.state) ∷ [],
) ∷ [])

abbrev pub vlan_info_by : VfVlanInfo → List Token
vlan_info_by v = function_by v.vf_id
    (numbered (codes "vlan") v.vlan_id
    ∷ numbered (codes "qos") v.qos
    ∷ (codes "vlan-proto", string (protocol_name (vlan_protocol_number v.protocol)) ∷ [])
    ∷ [])

pub record FunctionsAreMeant (nest : Nesting) (cx : Around) : Type 0 where
  pub macs : Shows (sized Functions.vf_info_mac_size Functions.vf_info_mac_of)
      (form_shown nest cx (Forms.Record Records.VfMac))
      (λ v. function_by v.vf_id ((codes "mac", address_shown cx v.mac) ∷ []))
  pub broadcasts : Shows (sized Functions.vf_info_broadcast_size Functions.vf_info_broadcast_of)
      (form_shown nest cx (Forms.Field Kinds.Address)) (λ v. address_shown cx v.addr)
  pub vlans : Shows (sized Functions.vf_info_vlan_size Functions.vf_info_vlan_of)
      (form_shown nest cx (Forms.Record Records.VfVlan)) vlan_by
  pub tx_rates : Shows (sized Functions.vf_info_tx_rate_size Functions.vf_info_tx_rate_of)
      (form_shown nest cx (Forms.Record Records.VfTxRate))
      (λ v. function_by v.vf_id (numbered (codes "rate") v.rate ∷ []))
  pub rates : Shows (sized Functions.vf_info_rate_size Functions.vf_info_rate_of)
      (form_shown nest cx (Forms.Record Records.VfRate)) rate_by
  pub spoof_checks : Shows (sized Functions.vf_info_spoof_check_size Functions.vf_info_spoof_check_of)
      (form_shown nest cx (Forms.Record Records.VfSetting)) (λ v. setting_by v.vf_id v.enabled)
  pub rss_queries : Shows (sized Functions.vf_info_rss_query_en_size Functions.vf_info_rss_query_en_of)
      (form_shown nest cx (Forms.Record Records.VfSetting)) (λ v. setting_by v.vf_id v.enabled)
  pub trusts : Shows (sized Functions.vf_info_trust_size Functions.vf_info_trust_of)
      (form_shown nest cx (Forms.Record Records.VfSetting)) (λ v. setting_by v.vf_id v.enabled)
  pub link_states : Shows (sized Functions.vf_info_link_state_size Functions.vf_info_link_state_of)
      (form_shown nest cx (Forms.Record Records.VfLinkState)) state_by
  pub guids : Shows (sized Functions.vf_info_guid_size Functions.vf_info_guid_of)
      (form_shown nest cx (Forms.Record Records.VfGuid))
      (λ v. function_by v.vf_id (numbered (codes "guid") v.guid ∷ []))
  pub vlan_infos : Shows (sized Functions.vf_vlan_info_size Functions.vf_vlan_info_of)
      (form_shown nest cx (Forms.Record Records.VfVlanInfo)) vlan_info_by
