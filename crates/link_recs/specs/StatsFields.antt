-- Stats: its fields in order, its reading, its bytes and its laws.
use Rattle.std.specs.Prelude.{◌≡◌, ℕ, ◌^◌, ◌<◌, ◌*◌, List, [], ◌∷◌, slice_index, nat_eq}
use Rattle.std.proofs.Common.{refl, sym}
use Rattle.std.specs.Bool.{Decides}
use Rattle.std.specs.Cmp.{unsigned_Decides}
use Rattle.std.specs.Int.{w32}
use Rattle.nla_wire.specs.Fields.{number_at, numbers_from, le_all}
use Rattle.nla_wire.proofs.Again.{writes_again_4}
use Rattle.link_recs.specs.Laws.{WordLaws}
use Rattle.link_recs.specs.Words.{unsigned_words, word_laws}
use Rattle.link_recs.specs.Same.{each_same, decides_by}
use Rattle.link_recs.specs.declared.stats.Stats.{Stats}
use Rattle.link_recs.specs.declared.stats.TheConstants.{STATS_COUNT, STATS_SIZE}

-- how many bytes a record has
abbrev pub stats_size : ℕ
stats_size = STATS_SIZE

-- the fields in order
abbrev pub stats_members : Stats → List ℕ
stats_members v =
    v.rx_packets ∷
    v.tx_packets ∷
    v.rx_bytes ∷
    v.tx_bytes ∷
    v.rx_errors ∷
    v.tx_errors ∷
    v.rx_dropped ∷
    v.tx_dropped ∷
    v.multicast ∷
    v.collisions ∷
    v.rx_length_errors ∷
    v.rx_over_errors ∷
    v.rx_crc_errors ∷
    v.rx_frame_errors ∷
    v.rx_fifo_errors ∷
    v.rx_missed_errors ∷
    v.tx_aborted_errors ∷
    v.tx_carrier_errors ∷
    v.tx_fifo_errors ∷
    v.tx_heartbeat_errors ∷
    v.tx_window_errors ∷
    v.rx_compressed ∷
    v.tx_compressed ∷
    v.rx_nohandler ∷
    []

-- the same as one word, which clauses and their readers need not unfold
unfoldable pub stats_fields : Stats → List ℕ
stats_fields v = stats_members v

-- the record of the fields by number
abbrev pub stats_by : (ℕ → ℕ) → Stats
stats_by field = record {
  rx_packets = field 0;
  tx_packets = field 1;
  rx_bytes = field 2;
  tx_bytes = field 3;
  rx_errors = field 4;
  tx_errors = field 5;
  rx_dropped = field 6;
  tx_dropped = field 7;
  multicast = field 8;
  collisions = field 9;
  rx_length_errors = field 10;
  rx_over_errors = field 11;
  rx_crc_errors = field 12;
  rx_frame_errors = field 13;
  rx_fifo_errors = field 14;
  rx_missed_errors = field 15;
  tx_aborted_errors = field 16;
  tx_carrier_errors = field 17;
  tx_fifo_errors = field 18;
  tx_heartbeat_errors = field 19;
  tx_window_errors = field 20;
  rx_compressed = field 21;
  tx_compressed = field 22;
  rx_nohandler = field 23;
}

-- what a payload means, with zeros after it
unfoldable pub stats_of : List ℕ → Stats
stats_of payload = stats_by (λ i. number_at w32 payload (4 * i))

-- the bytes of a record
unfoldable pub stats_bytes : Stats → List ℕ
stats_bytes v = le_all w32 (stats_fields v)

-- the record of a list of fields
abbrev pub stats_listed : List ℕ → Stats
stats_listed xs = stats_by (λ i. slice_index xs i)

pub stats_of_table : (p : List ℕ) → stats_listed (numbers_from w32 p 0 STATS_COUNT) ≡ stats_of p
unfolding stats_of
stats_of_table p = refl

pub stats_table : (p : List ℕ) → stats_fields (stats_of p) ≡ numbers_from w32 p 0 STATS_COUNT
unfolding stats_fields stats_of
stats_table p = refl

pub stats_decides : (v w : Stats) → Decides (each_same nat_eq (stats_members v) (stats_members w)) (v ≡ w)
stats_decides v w = decides_by stats_members stats_listed nat_eq unsigned_Decides (λ v. refl) v w refl

pub stats_laws : WordLaws (λ n. n < 2 ^ 32) (numbers_from w32) STATS_COUNT stats_size stats_fields stats_of stats_bytes
unfolding stats_fields stats_bytes
stats_laws = word_laws (unsigned_words w32 writes_again_4) STATS_COUNT stats_listed stats_fields stats_of
    (λ p. sym (stats_of_table p)) stats_table (λ v. refl) (λ v. refl)
