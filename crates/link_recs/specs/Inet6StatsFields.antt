-- Inet6Stats: its fields in order, its reading, its bytes and its laws.
use Rattle.std.specs.Prelude.{◌≡◌, ℕ, ℤ, pos, ◌*◌, List, [], ◌∷◌, slice_index_or}
use Rattle.std.proofs.Common.{refl, sym}
use Rattle.std.specs.Bool.{Decides}
use Rattle.std.specs.Cmp.{signed_Decides}
use Rattle.std.specs.Ordering.{int_eq}
use Rattle.std.specs.Int.RustNames.{FitsSigned}
use Rattle.std.specs.Int.{w64}
use Rattle.nla_wire.specs.Fields.{signed_at, signed_from, le_all_signed}
use Rattle.nla_wire.proofs.Again.{writes_again_8}
use Rattle.link_recs.specs.Laws.{WordLaws}
use Rattle.link_recs.specs.Words.{signed_words, word_laws}
use Rattle.link_recs.specs.Same.{each_same, decides_by}
use Rattle.link_recs.specs.declared.inet6_stats.Inet6Stats.{Inet6Stats}
use Rattle.link_recs.specs.declared.inet6_stats.TheConstants.{INET6_STATS_COUNT, INET6_STATS_SIZE}

-- how many bytes a record has
abbrev pub inet6_stats_size : ℕ
inet6_stats_size = INET6_STATS_SIZE

-- the fields in order
abbrev pub inet6_stats_members : Inet6Stats → List ℤ
inet6_stats_members v =
    v.num ∷
    v.in_pkts ∷
    v.in_octets ∷
    v.in_delivers ∷
    v.out_forw_datagrams ∷
    v.out_requests ∷
    v.out_octets ∷
    v.in_hdr_errors ∷
    v.in_too_big_errors ∷
    v.in_no_routes ∷
    v.in_addr_errors ∷
    v.in_unknown_protos ∷
    v.in_truncated_pkts ∷
    v.in_discards ∷
    v.out_discards ∷
    v.out_no_routes ∷
    v.reasm_timeout ∷
    v.reasm_reqds ∷
    v.reasm_oks ∷
    v.reasm_fails ∷
    v.frag_oks ∷
    v.frag_fails ∷
    v.frag_creates ∷
    v.in_mcast_pkts ∷
    v.out_mcast_pkts ∷
    v.in_bcast_pkts ∷
    v.out_bcast_pkts ∷
    v.in_mcast_octets ∷
    v.out_mcast_octets ∷
    v.in_bcast_octets ∷
    v.out_bcast_octets ∷
    v.in_csum_errors ∷
    v.in_no_ect_pkts ∷
    v.in_ect1_pkts ∷
    v.in_ect0_pkts ∷
    v.in_ce_pkts ∷
    v.reasm_overlaps ∷
    v.out_pkts ∷
    v.reserved_39 ∷
    []

-- the same as one word, which clauses and their readers need not unfold
unfoldable pub inet6_stats_fields : Inet6Stats → List ℤ
inet6_stats_fields v = inet6_stats_members v

-- the record of the fields by number
abbrev pub inet6_stats_by : (ℕ → ℤ) → Inet6Stats
inet6_stats_by field = record {
  num = field 0;
  in_pkts = field 1;
  in_octets = field 2;
  in_delivers = field 3;
  out_forw_datagrams = field 4;
  out_requests = field 5;
  out_octets = field 6;
  in_hdr_errors = field 7;
  in_too_big_errors = field 8;
  in_no_routes = field 9;
  in_addr_errors = field 10;
  in_unknown_protos = field 11;
  in_truncated_pkts = field 12;
  in_discards = field 13;
  out_discards = field 14;
  out_no_routes = field 15;
  reasm_timeout = field 16;
  reasm_reqds = field 17;
  reasm_oks = field 18;
  reasm_fails = field 19;
  frag_oks = field 20;
  frag_fails = field 21;
  frag_creates = field 22;
  in_mcast_pkts = field 23;
  out_mcast_pkts = field 24;
  in_bcast_pkts = field 25;
  out_bcast_pkts = field 26;
  in_mcast_octets = field 27;
  out_mcast_octets = field 28;
  in_bcast_octets = field 29;
  out_bcast_octets = field 30;
  in_csum_errors = field 31;
  in_no_ect_pkts = field 32;
  in_ect1_pkts = field 33;
  in_ect0_pkts = field 34;
  in_ce_pkts = field 35;
  reasm_overlaps = field 36;
  out_pkts = field 37;
  reserved_39 = field 38;
}

-- what a payload means, with zeros after it
unfoldable pub inet6_stats_of : List ℕ → Inet6Stats
inet6_stats_of payload = inet6_stats_by (λ i. signed_at w64 payload (8 * i))

-- the bytes of a record
unfoldable pub inet6_stats_bytes : Inet6Stats → List ℕ
inet6_stats_bytes v = le_all_signed w64 (inet6_stats_fields v)

-- the record of a list of fields
abbrev pub inet6_stats_listed : List ℤ → Inet6Stats
inet6_stats_listed xs = inet6_stats_by (λ i. slice_index_or xs i (pos 0))

pub inet6_stats_of_table : (p : List ℕ) → inet6_stats_listed (signed_from w64 p 0 INET6_STATS_COUNT) ≡ inet6_stats_of p
unfolding inet6_stats_of
inet6_stats_of_table p = refl

pub inet6_stats_table : (p : List ℕ) → inet6_stats_fields (inet6_stats_of p) ≡ signed_from w64 p 0 INET6_STATS_COUNT
unfolding inet6_stats_fields inet6_stats_of
inet6_stats_table p = refl

pub inet6_stats_decides : (v w : Inet6Stats)
    → Decides (each_same int_eq (inet6_stats_members v) (inet6_stats_members w)) (v ≡ w)
inet6_stats_decides v w = decides_by inet6_stats_members inet6_stats_listed int_eq signed_Decides (λ v. refl) v w refl

pub inet6_stats_laws : WordLaws (FitsSigned w64)
    (signed_from w64) INET6_STATS_COUNT inet6_stats_size inet6_stats_fields inet6_stats_of inet6_stats_bytes
unfolding inet6_stats_fields inet6_stats_bytes
inet6_stats_laws = word_laws (signed_words w64 writes_again_8) INET6_STATS_COUNT inet6_stats_listed inet6_stats_fields
    inet6_stats_of (λ p. sym (inet6_stats_of_table p)) inet6_stats_table (λ v. refl) (λ v. refl)
