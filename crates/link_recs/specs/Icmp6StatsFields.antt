-- Icmp6Stats: its fields in order, its reading, its bytes and its laws.
use Rattle.std.specs.Prelude.{◌≡◌, ℕ, ℤ, pos, ◌*◌, List, [], ◌∷◌, slice_index_or}
use Rattle.std.proofs.Common.{refl, sym}
use Rattle.std.specs.Bool.{Decides}
use Rattle.std.specs.Cmp.{signed_Decides}
use Rattle.std.specs.Ordering.{int_eq}
use Rattle.std.specs.Int.RustNames.{FitsSigned}
use Rattle.std.specs.Int.{w64}
use Rattle.nla_wire.specs.Fields.{signed_at, signed_from, le_all_signed}
use Rattle.nla_wire.proofs.Again.{writes_again_8}
use Rattle.link_recs.specs.Laws.{WordLaws}
use Rattle.link_recs.specs.Words.{signed_words, word_laws}
use Rattle.link_recs.specs.Same.{each_same, decides_by}
use Rattle.link_recs.specs.declared.inet6_icmp.Icmp6Stats.{Icmp6Stats}
use Rattle.link_recs.specs.declared.inet6_icmp.TheConstants.{ICMP6_STATS_COUNT, ICMP6_STATS_SIZE}

-- how many bytes a record has
abbrev pub icmp6_stats_size : ℕ
icmp6_stats_size = ICMP6_STATS_SIZE

-- the fields in order
abbrev pub icmp6_stats_members : Icmp6Stats → List ℤ
icmp6_stats_members v =
    v.num ∷
    v.in_msgs ∷
    v.in_errors ∷
    v.out_msgs ∷
    v.out_errors ∷
    v.csum_errors ∷
    v.rate_limit_host ∷
    []

-- the same as one word, which clauses and their readers need not unfold
unfoldable pub icmp6_stats_fields : Icmp6Stats → List ℤ
icmp6_stats_fields v = icmp6_stats_members v

-- the record of the fields by number
abbrev pub icmp6_stats_by : (ℕ → ℤ) → Icmp6Stats
icmp6_stats_by field = record {
  num = field 0;
  in_msgs = field 1;
  in_errors = field 2;
  out_msgs = field 3;
  out_errors = field 4;
  csum_errors = field 5;
  rate_limit_host = field 6;
}

-- what a payload means, with zeros after it
unfoldable pub icmp6_stats_of : List ℕ → Icmp6Stats
icmp6_stats_of payload = icmp6_stats_by (λ i. signed_at w64 payload (8 * i))

-- the bytes of a record
unfoldable pub icmp6_stats_bytes : Icmp6Stats → List ℕ
icmp6_stats_bytes v = le_all_signed w64 (icmp6_stats_fields v)

-- the record of a list of fields
abbrev pub icmp6_stats_listed : List ℤ → Icmp6Stats
icmp6_stats_listed xs = icmp6_stats_by (λ i. slice_index_or xs i (pos 0))

pub icmp6_stats_of_table : (p : List ℕ) → icmp6_stats_listed (signed_from w64 p 0 ICMP6_STATS_COUNT) ≡ icmp6_stats_of p
unfolding icmp6_stats_of
icmp6_stats_of_table p = refl

pub icmp6_stats_table : (p : List ℕ) → icmp6_stats_fields (icmp6_stats_of p) ≡ signed_from w64 p 0 ICMP6_STATS_COUNT
unfolding icmp6_stats_fields icmp6_stats_of
icmp6_stats_table p = refl

pub icmp6_stats_decides : (v w : Icmp6Stats)
    → Decides (each_same int_eq (icmp6_stats_members v) (icmp6_stats_members w)) (v ≡ w)
icmp6_stats_decides v w = decides_by icmp6_stats_members icmp6_stats_listed int_eq signed_Decides (λ v. refl) v w refl

pub icmp6_stats_laws : WordLaws (FitsSigned w64)
    (signed_from w64) ICMP6_STATS_COUNT icmp6_stats_size icmp6_stats_fields icmp6_stats_of icmp6_stats_bytes
unfolding icmp6_stats_fields icmp6_stats_bytes
icmp6_stats_laws = word_laws (signed_words w64 writes_again_8) ICMP6_STATS_COUNT icmp6_stats_listed icmp6_stats_fields
    icmp6_stats_of (λ p. sym (icmp6_stats_of_table p)) icmp6_stats_table (λ v. refl) (λ v. refl)
