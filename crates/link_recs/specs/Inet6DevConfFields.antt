-- Inet6DevConf: its fields in order, its reading, its bytes and its laws.
use Rattle.std.specs.Prelude.{◌≡◌, ℕ, ℤ, pos, ◌*◌, List, [], ◌∷◌, slice_index_or}
use Rattle.std.proofs.Common.{refl, sym}
use Rattle.std.specs.Bool.{Decides}
use Rattle.std.specs.Cmp.{signed_Decides}
use Rattle.std.specs.Ordering.{int_eq}
use Rattle.std.specs.Int.RustNames.{FitsSigned}
use Rattle.std.specs.Int.{w32}
use Rattle.nla_wire.specs.Fields.{signed_at, signed_from, le_all_signed}
use Rattle.nla_wire.proofs.Again.{writes_again_4}
use Rattle.link_recs.specs.Laws.{WordLaws}
use Rattle.link_recs.specs.Words.{signed_words, word_laws}
use Rattle.link_recs.specs.Same.{each_same, decides_by}
use Rattle.link_recs.specs.declared.inet6_devconf.Inet6DevConf.{Inet6DevConf}
use Rattle.link_recs.specs.declared.inet6_devconf.TheConstants.{INET6_DEV_CONF_COUNT, INET6_DEV_CONF_SIZE}

-- how many bytes a record has
abbrev pub inet6_dev_conf_size : ℕ
inet6_dev_conf_size = INET6_DEV_CONF_SIZE

-- the fields in order
abbrev pub inet6_dev_conf_members : Inet6DevConf → List ℤ
inet6_dev_conf_members v =
    v.forwarding ∷
    v.hoplimit ∷
    v.mtu6 ∷
    v.accept_ra ∷
    v.accept_redirects ∷
    v.autoconf ∷
    v.dad_transmits ∷
    v.rtr_solicits ∷
    v.rtr_solicit_interval ∷
    v.rtr_solicit_delay ∷
    v.use_tempaddr ∷
    v.temp_valid_lft ∷
    v.temp_prefered_lft ∷
    v.regen_max_retry ∷
    v.max_desync_factor ∷
    v.max_addresses ∷
    v.force_mld_version ∷
    v.accept_ra_defrtr ∷
    v.accept_ra_pinfo ∷
    v.accept_ra_rtr_pref ∷
    v.rtr_probe_interval ∷
    v.accept_ra_rt_info_max_plen ∷
    v.proxy_ndp ∷
    v.optimistic_dad ∷
    v.accept_source_route ∷
    v.mc_forwarding ∷
    v.disable_ipv6 ∷
    v.accept_dad ∷
    v.force_tllao ∷
    v.ndisc_notify ∷
    v.mldv1_unsolicited_report_interval ∷
    v.mldv2_unsolicited_report_interval ∷
    v.suppress_frag_ndisc ∷
    v.accept_ra_from_local ∷
    v.use_optimistic ∷
    v.accept_ra_mtu ∷
    v.stable_secret ∷
    v.use_oif_addrs_only ∷
    v.accept_ra_min_hop_limit ∷
    v.ignore_routes_with_linkdown ∷
    v.drop_unicast_in_l2_multicast ∷
    v.drop_unsolicited_na ∷
    v.keep_addr_on_down ∷
    v.rtr_solicit_max_interval ∷
    v.seg6_enabled ∷
    v.seg6_require_hmac ∷
    v.enhanced_dad ∷
    v.addr_gen_mode ∷
    v.disable_policy ∷
    v.accept_ra_rt_info_min_plen ∷
    v.ndisc_tclass ∷
    v.rpl_seg_enabled ∷
    v.ra_defrtr_metric ∷
    v.ioam6_enabled ∷
    v.ioam6_id ∷
    v.ioam6_id_wide ∷
    v.ndisc_evict_nocarrier ∷
    v.accept_untracked_na ∷
    v.accept_ra_min_lft ∷
    v.force_forwarding ∷
    []

-- the same as one word, which clauses and their readers need not unfold
unfoldable pub inet6_dev_conf_fields : Inet6DevConf → List ℤ
inet6_dev_conf_fields v = inet6_dev_conf_members v

-- the record of the fields by number
abbrev pub inet6_dev_conf_by : (ℕ → ℤ) → Inet6DevConf
inet6_dev_conf_by field = record {
  forwarding = field 0;
  hoplimit = field 1;
  mtu6 = field 2;
  accept_ra = field 3;
  accept_redirects = field 4;
  autoconf = field 5;
  dad_transmits = field 6;
  rtr_solicits = field 7;
  rtr_solicit_interval = field 8;
  rtr_solicit_delay = field 9;
  use_tempaddr = field 10;
  temp_valid_lft = field 11;
  temp_prefered_lft = field 12;
  regen_max_retry = field 13;
  max_desync_factor = field 14;
  max_addresses = field 15;
  force_mld_version = field 16;
  accept_ra_defrtr = field 17;
  accept_ra_pinfo = field 18;
  accept_ra_rtr_pref = field 19;
  rtr_probe_interval = field 20;
  accept_ra_rt_info_max_plen = field 21;
  proxy_ndp = field 22;
  optimistic_dad = field 23;
  accept_source_route = field 24;
  mc_forwarding = field 25;
  disable_ipv6 = field 26;
  accept_dad = field 27;
  force_tllao = field 28;
  ndisc_notify = field 29;
  mldv1_unsolicited_report_interval = field 30;
  mldv2_unsolicited_report_interval = field 31;
  suppress_frag_ndisc = field 32;
  accept_ra_from_local = field 33;
  use_optimistic = field 34;
  accept_ra_mtu = field 35;
  stable_secret = field 36;
  use_oif_addrs_only = field 37;
  accept_ra_min_hop_limit = field 38;
  ignore_routes_with_linkdown = field 39;
  drop_unicast_in_l2_multicast = field 40;
  drop_unsolicited_na = field 41;
  keep_addr_on_down = field 42;
  rtr_solicit_max_interval = field 43;
  seg6_enabled = field 44;
  seg6_require_hmac = field 45;
  enhanced_dad = field 46;
  addr_gen_mode = field 47;
  disable_policy = field 48;
  accept_ra_rt_info_min_plen = field 49;
  ndisc_tclass = field 50;
  rpl_seg_enabled = field 51;
  ra_defrtr_metric = field 52;
  ioam6_enabled = field 53;
  ioam6_id = field 54;
  ioam6_id_wide = field 55;
  ndisc_evict_nocarrier = field 56;
  accept_untracked_na = field 57;
  accept_ra_min_lft = field 58;
  force_forwarding = field 59;
}

-- what a payload means, with zeros after it
unfoldable pub inet6_dev_conf_of : List ℕ → Inet6DevConf
inet6_dev_conf_of payload = inet6_dev_conf_by (λ i. signed_at w32 payload (4 * i))

-- the bytes of a record
unfoldable pub inet6_dev_conf_bytes : Inet6DevConf → List ℕ
inet6_dev_conf_bytes v = le_all_signed w32 (inet6_dev_conf_fields v)

-- the record of a list of fields
abbrev pub inet6_dev_conf_listed : List ℤ → Inet6DevConf
inet6_dev_conf_listed xs = inet6_dev_conf_by (λ i. slice_index_or xs i (pos 0))

pub inet6_dev_conf_of_table : (p : List ℕ)
    → inet6_dev_conf_listed (signed_from w32 p 0 INET6_DEV_CONF_COUNT) ≡ inet6_dev_conf_of p
unfolding inet6_dev_conf_of
inet6_dev_conf_of_table p = refl

pub inet6_dev_conf_table : (p : List ℕ)
    → inet6_dev_conf_fields (inet6_dev_conf_of p) ≡ signed_from w32 p 0 INET6_DEV_CONF_COUNT
unfolding inet6_dev_conf_fields inet6_dev_conf_of
inet6_dev_conf_table p = refl

pub inet6_dev_conf_decides : (v w : Inet6DevConf)
    → Decides (each_same int_eq (inet6_dev_conf_members v) (inet6_dev_conf_members w)) (v ≡ w)
inet6_dev_conf_decides v w =
    decides_by inet6_dev_conf_members inet6_dev_conf_listed int_eq signed_Decides (λ v. refl) v w refl

pub inet6_dev_conf_laws : WordLaws (FitsSigned w32) (signed_from w32) INET6_DEV_CONF_COUNT inet6_dev_conf_size
    inet6_dev_conf_fields inet6_dev_conf_of inet6_dev_conf_bytes
unfolding inet6_dev_conf_fields inet6_dev_conf_bytes
inet6_dev_conf_laws =
    word_laws (signed_words w32 writes_again_4) INET6_DEV_CONF_COUNT inet6_dev_conf_listed inet6_dev_conf_fields
    inet6_dev_conf_of (λ p. sym (inet6_dev_conf_of_table p)) inet6_dev_conf_table (λ v. refl) (λ v. refl)
