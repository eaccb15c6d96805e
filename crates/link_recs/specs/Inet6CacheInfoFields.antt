-- Inet6CacheInfo: its fields in order, its reading, its bytes and its laws.
use Rattle.std.specs.Prelude.{◌≡◌, ℕ, ℤ, pos, ◌*◌, List, [], ◌∷◌, slice_index_or}
use Rattle.std.proofs.Common.{refl, sym}
use Rattle.std.specs.Bool.{Decides}
use Rattle.std.specs.Cmp.{signed_Decides}
use Rattle.std.specs.Ordering.{int_eq}
use Rattle.std.specs.Int.RustNames.{FitsSigned}
use Rattle.std.specs.Int.{w32}
use Rattle.nla_wire.specs.Fields.{signed_at, signed_from, le_all_signed}
use Rattle.nla_wire.proofs.Again.{writes_again_4}
use Rattle.link_recs.specs.Laws.{WordLaws}
use Rattle.link_recs.specs.Words.{signed_words, word_laws}
use Rattle.link_recs.specs.Same.{each_same, decides_by}
use Rattle.link_recs.specs.declared.inet6_cache.Inet6CacheInfo.{Inet6CacheInfo}
use Rattle.link_recs.specs.declared.inet6_cache.TheConstants.{INET6_CACHE_INFO_COUNT, INET6_CACHE_INFO_SIZE}

-- how many bytes a record has
abbrev pub inet6_cache_info_size : ℕ
inet6_cache_info_size = INET6_CACHE_INFO_SIZE

-- the fields in order
abbrev pub inet6_cache_info_members : Inet6CacheInfo → List ℤ
inet6_cache_info_members v =
    v.max_reasm_len ∷
    v.tstamp ∷
    v.reachable_time ∷
    v.retrans_time ∷
    []

-- the same as one word, which clauses and their readers need not unfold
unfoldable pub inet6_cache_info_fields : Inet6CacheInfo → List ℤ
inet6_cache_info_fields v = inet6_cache_info_members v

-- the record of the fields by number
abbrev pub inet6_cache_info_by : (ℕ → ℤ) → Inet6CacheInfo
inet6_cache_info_by field = record {
  max_reasm_len = field 0;
  tstamp = field 1;
  reachable_time = field 2;
  retrans_time = field 3;
}

-- what a payload means, with zeros after it
unfoldable pub inet6_cache_info_of : List ℕ → Inet6CacheInfo
inet6_cache_info_of payload = inet6_cache_info_by (λ i. signed_at w32 payload (4 * i))

-- the bytes of a record
unfoldable pub inet6_cache_info_bytes : Inet6CacheInfo → List ℕ
inet6_cache_info_bytes v = le_all_signed w32 (inet6_cache_info_fields v)

-- the record of a list of fields
abbrev pub inet6_cache_info_listed : List ℤ → Inet6CacheInfo
inet6_cache_info_listed xs = inet6_cache_info_by (λ i. slice_index_or xs i (pos 0))

pub inet6_cache_info_of_table : (p : List ℕ)
    → inet6_cache_info_listed (signed_from w32 p 0 INET6_CACHE_INFO_COUNT) ≡ inet6_cache_info_of p
unfolding inet6_cache_info_of
inet6_cache_info_of_table p = refl

pub inet6_cache_info_table : (p : List ℕ)
    → inet6_cache_info_fields (inet6_cache_info_of p) ≡ signed_from w32 p 0 INET6_CACHE_INFO_COUNT
unfolding inet6_cache_info_fields inet6_cache_info_of
inet6_cache_info_table p = refl

pub inet6_cache_info_decides : (v w : Inet6CacheInfo)
    → Decides (each_same int_eq (inet6_cache_info_members v) (inet6_cache_info_members w)) (v ≡ w)
inet6_cache_info_decides v w =
    decides_by inet6_cache_info_members inet6_cache_info_listed int_eq signed_Decides (λ v. refl) v w refl

pub inet6_cache_info_laws : WordLaws (FitsSigned w32) (signed_from w32) INET6_CACHE_INFO_COUNT inet6_cache_info_size
    inet6_cache_info_fields inet6_cache_info_of inet6_cache_info_bytes
unfolding inet6_cache_info_fields inet6_cache_info_bytes
inet6_cache_info_laws =
    word_laws (signed_words w32 writes_again_4) INET6_CACHE_INFO_COUNT inet6_cache_info_listed inet6_cache_info_fields
    inet6_cache_info_of (λ p. sym (inet6_cache_info_of_table p)) inet6_cache_info_table (λ v. refl) (λ v. refl)
