-- InetDevConf: its fields in order, its reading, its bytes and its laws.
use Rattle.std.specs.Prelude.{◌≡◌, ℕ, ℤ, pos, ◌*◌, List, [], ◌∷◌, slice_index_or}
use Rattle.std.proofs.Common.{refl, sym}
use Rattle.std.specs.Bool.{Decides}
use Rattle.std.specs.Cmp.{signed_Decides}
use Rattle.std.specs.Ordering.{int_eq}
use Rattle.std.specs.Int.RustNames.{FitsSigned}
use Rattle.std.specs.Int.{w32}
use Rattle.nla_wire.specs.Fields.{signed_at, signed_from, le_all_signed}
use Rattle.nla_wire.proofs.Again.{writes_again_4}
use Rattle.link_recs.specs.Laws.{WordLaws}
use Rattle.link_recs.specs.Words.{signed_words, word_laws}
use Rattle.link_recs.specs.Same.{each_same, decides_by}
use Rattle.link_recs.specs.declared.inet.InetDevConf.{InetDevConf}
use Rattle.link_recs.specs.declared.inet.TheConstants.{INET_DEV_CONF_COUNT, INET_DEV_CONF_SIZE}

-- how many bytes a record has
abbrev pub inet_dev_conf_size : ℕ
inet_dev_conf_size = INET_DEV_CONF_SIZE

-- the fields in order
abbrev pub inet_dev_conf_members : InetDevConf → List ℤ
inet_dev_conf_members v =
    v.forwarding ∷
    v.mc_forwarding ∷
    v.proxy_arp ∷
    v.accept_redirects ∷
    v.secure_redirects ∷
    v.send_redirects ∷
    v.shared_media ∷
    v.rp_filter ∷
    v.accept_source_route ∷
    v.bootp_relay ∷
    v.log_martians ∷
    v.tag ∷
    v.arpfilter ∷
    v.medium_id ∷
    v.noxfrm ∷
    v.nopolicy ∷
    v.force_igmp_version ∷
    v.arp_announce ∷
    v.arp_ignore ∷
    v.promote_secondaries ∷
    v.arp_accept ∷
    v.arp_notify ∷
    v.accept_local ∷
    v.src_vmark ∷
    v.proxy_arp_pvlan ∷
    v.route_localnet ∷
    v.igmpv2_unsolicited_report_interval ∷
    v.igmpv3_unsolicited_report_interval ∷
    v.ignore_routes_with_linkdown ∷
    v.drop_unicast_in_l2_multicast ∷
    v.drop_gratuitous_arp ∷
    v.bc_forwarding ∷
    v.arp_evict_nocarrier ∷
    v.reserved_34 ∷
    []

-- the same as one word, which clauses and their readers need not unfold
unfoldable pub inet_dev_conf_fields : InetDevConf → List ℤ
inet_dev_conf_fields v = inet_dev_conf_members v

-- the record of the fields by number
abbrev pub inet_dev_conf_by : (ℕ → ℤ) → InetDevConf
inet_dev_conf_by field = record {
  forwarding = field 0;
  mc_forwarding = field 1;
  proxy_arp = field 2;
  accept_redirects = field 3;
  secure_redirects = field 4;
  send_redirects = field 5;
  shared_media = field 6;
  rp_filter = field 7;
  accept_source_route = field 8;
  bootp_relay = field 9;
  log_martians = field 10;
  tag = field 11;
  arpfilter = field 12;
  medium_id = field 13;
  noxfrm = field 14;
  nopolicy = field 15;
  force_igmp_version = field 16;
  arp_announce = field 17;
  arp_ignore = field 18;
  promote_secondaries = field 19;
  arp_accept = field 20;
  arp_notify = field 21;
  accept_local = field 22;
  src_vmark = field 23;
  proxy_arp_pvlan = field 24;
  route_localnet = field 25;
  igmpv2_unsolicited_report_interval = field 26;
  igmpv3_unsolicited_report_interval = field 27;
  ignore_routes_with_linkdown = field 28;
  drop_unicast_in_l2_multicast = field 29;
  drop_gratuitous_arp = field 30;
  bc_forwarding = field 31;
  arp_evict_nocarrier = field 32;
  reserved_34 = field 33;
}

-- what a payload means, with zeros after it
unfoldable pub inet_dev_conf_of : List ℕ → InetDevConf
inet_dev_conf_of payload = inet_dev_conf_by (λ i. signed_at w32 payload (4 * i))

-- the bytes of a record
unfoldable pub inet_dev_conf_bytes : InetDevConf → List ℕ
inet_dev_conf_bytes v = le_all_signed w32 (inet_dev_conf_fields v)

-- the record of a list of fields
abbrev pub inet_dev_conf_listed : List ℤ → InetDevConf
inet_dev_conf_listed xs = inet_dev_conf_by (λ i. slice_index_or xs i (pos 0))

pub inet_dev_conf_of_table : (p : List ℕ)
    → inet_dev_conf_listed (signed_from w32 p 0 INET_DEV_CONF_COUNT) ≡ inet_dev_conf_of p
unfolding inet_dev_conf_of
inet_dev_conf_of_table p = refl

pub inet_dev_conf_table : (p : List ℕ)
    → inet_dev_conf_fields (inet_dev_conf_of p) ≡ signed_from w32 p 0 INET_DEV_CONF_COUNT
unfolding inet_dev_conf_fields inet_dev_conf_of
inet_dev_conf_table p = refl

pub inet_dev_conf_decides : (v w : InetDevConf)
    → Decides (each_same int_eq (inet_dev_conf_members v) (inet_dev_conf_members w)) (v ≡ w)
inet_dev_conf_decides v w =
    decides_by inet_dev_conf_members inet_dev_conf_listed int_eq signed_Decides (λ v. refl) v w refl

pub inet_dev_conf_laws : WordLaws (FitsSigned w32)
    (signed_from w32) INET_DEV_CONF_COUNT inet_dev_conf_size inet_dev_conf_fields inet_dev_conf_of inet_dev_conf_bytes
unfolding inet_dev_conf_fields inet_dev_conf_bytes
inet_dev_conf_laws =
    word_laws (signed_words w32 writes_again_4) INET_DEV_CONF_COUNT inet_dev_conf_listed inet_dev_conf_fields
    inet_dev_conf_of (λ p. sym (inet_dev_conf_of_table p)) inet_dev_conf_table (λ v. refl) (λ v. refl)
