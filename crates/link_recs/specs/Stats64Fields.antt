-- Stats64: its fields in order, its reading, its bytes and its laws.
use Rattle.std.specs.Prelude.{◌≡◌, ℕ, ◌^◌, ◌<◌, ◌*◌, List, [], ◌∷◌, slice_index, nat_eq}
use Rattle.std.proofs.Common.{refl, sym}
use Rattle.std.specs.Bool.{Decides}
use Rattle.std.specs.Cmp.{unsigned_Decides}
use Rattle.std.specs.Int.{w64}
use Rattle.nla_wire.specs.Fields.{number_at, numbers_from, le_all}
use Rattle.nla_wire.proofs.Again.{writes_again_8}
use Rattle.link_recs.specs.Laws.{WordLaws}
use Rattle.link_recs.specs.Words.{unsigned_words, word_laws}
use Rattle.link_recs.specs.Same.{each_same, decides_by}
use Rattle.link_recs.specs.declared.stats64.Stats64.{Stats64}
use Rattle.link_recs.specs.declared.stats64.TheConstants.{STATS64_COUNT, STATS64_SIZE}

-- how many bytes a record has
abbrev pub stats64_size : ℕ
stats64_size = STATS64_SIZE

-- the fields in order
abbrev pub stats64_members : Stats64 → List ℕ
stats64_members v =
    v.rx_packets ∷
    v.tx_packets ∷
    v.rx_bytes ∷
    v.tx_bytes ∷
    v.rx_errors ∷
    v.tx_errors ∷
    v.rx_dropped ∷
    v.tx_dropped ∷
    v.multicast ∷
    v.collisions ∷
    v.rx_length_errors ∷
    v.rx_over_errors ∷
    v.rx_crc_errors ∷
    v.rx_frame_errors ∷
    v.rx_fifo_errors ∷
    v.rx_missed_errors ∷
    v.tx_aborted_errors ∷
    v.tx_carrier_errors ∷
    v.tx_fifo_errors ∷
    v.tx_heartbeat_errors ∷
    v.tx_window_errors ∷
    v.rx_compressed ∷
    v.tx_compressed ∷
    v.rx_nohandler ∷
    v.rx_otherhost_dropped ∷
    []

-- the same as one word, which clauses and their readers need not unfold
unfoldable pub stats64_fields : Stats64 → List ℕ
stats64_fields v = stats64_members v

-- the record of the fields by number
abbrev pub stats64_by : (ℕ → ℕ) → Stats64
stats64_by field = record {
  rx_packets = field 0;
  tx_packets = field 1;
  rx_bytes = field 2;
  tx_bytes = field 3;
  rx_errors = field 4;
  tx_errors = field 5;
  rx_dropped = field 6;
  tx_dropped = field 7;
  multicast = field 8;
  collisions = field 9;
  rx_length_errors = field 10;
  rx_over_errors = field 11;
  rx_crc_errors = field 12;
  rx_frame_errors = field 13;
  rx_fifo_errors = field 14;
  rx_missed_errors = field 15;
  tx_aborted_errors = field 16;
  tx_carrier_errors = field 17;
  tx_fifo_errors = field 18;
  tx_heartbeat_errors = field 19;
  tx_window_errors = field 20;
  rx_compressed = field 21;
  tx_compressed = field 22;
  rx_nohandler = field 23;
  rx_otherhost_dropped = field 24;
}

-- what a payload means, with zeros after it
unfoldable pub stats64_of : List ℕ → Stats64
stats64_of payload = stats64_by (λ i. number_at w64 payload (8 * i))

-- the bytes of a record
unfoldable pub stats64_bytes : Stats64 → List ℕ
stats64_bytes v = le_all w64 (stats64_fields v)

-- the record of a list of fields
abbrev pub stats64_listed : List ℕ → Stats64
stats64_listed xs = stats64_by (λ i. slice_index xs i)

pub stats64_of_table : (p : List ℕ) → stats64_listed (numbers_from w64 p 0 STATS64_COUNT) ≡ stats64_of p
unfolding stats64_of
stats64_of_table p = refl

pub stats64_table : (p : List ℕ) → stats64_fields (stats64_of p) ≡ numbers_from w64 p 0 STATS64_COUNT
unfolding stats64_fields stats64_of
stats64_table p = refl

pub stats64_decides : (v w : Stats64) → Decides (each_same nat_eq (stats64_members v) (stats64_members w)) (v ≡ w)
stats64_decides v w = decides_by stats64_members stats64_listed nat_eq unsigned_Decides (λ v. refl) v w refl

pub stats64_laws : WordLaws (λ n. n < 2 ^ 64)
    (numbers_from w64) STATS64_COUNT stats64_size stats64_fields stats64_of stats64_bytes
unfolding stats64_fields stats64_bytes
stats64_laws = word_laws (unsigned_words w64 writes_again_8) STATS64_COUNT stats64_listed stats64_fields stats64_of
    (λ p. sym (stats64_of_table p)) stats64_table (λ v. refl) (λ v. refl)
