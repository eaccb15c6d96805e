-- Records: what their calls return, and the laws of a record, over its reading `of` and its bytes `encoding`.
use Rattle.std.specs.Prelude.{◌≡◌, ℕ, ◌≤◌, List, ◌++◌, length, replicate, MatchResult, Result}
use Rattle.nla_wire.specs.Frames.{IsBytes}
use Rattle.nla_wire.specs.Fields.{zero_filled}
use Rattle.nla_wire.specs.Grammar.{Grammar}
use Rattle.nla_wire.specs.Gives.{without_place}
use Rattle.nla_wire.specs.declared.error.DecodeError.{DecodeError}
use Rattle.nla_wire.specs.declared.record.RecordBuffer.{RecordBuffer}

-- the result is what the grammar says, by its relations and by its reader
abbrev pub Parses : {A : Type 0} → Grammar (List ℕ) A → List ℕ → Result A DecodeError → Type 0
Parses g payload result =
    MatchResult result (g.means payload) (λ e. g.bad payload e.cause) × (without_place result ≡ g.reads payload)

-- the bytes that a buffer holds
abbrev pub buffer_bytes : {R : Type 0} {size : ℕ} → RecordBuffer R size → List ℕ
buffer_bytes b = b.bytes

-- zeros after a payload change nothing
abbrev pub ZerosAfter : {V : Type 0} → (List ℕ → V) → Type 0
ZerosAfter of = (p : List ℕ) (m : ℕ) → of (p ++ replicate m 0) ≡ of p

-- bytes after a payload that is long enough change nothing
abbrev pub BytesAfter : {V : Type 0} → ℕ → (List ℕ → V) → Type 0
BytesAfter size of = (p more : List ℕ) → size ≤ length p → of (p ++ more) ≡ of p

-- what was read from bytes, written and read again, is the same
abbrev pub ReadsAgain : {V : Type 0} → (List ℕ → V) → (V → List ℕ) → Type 0
ReadsAgain of encoding = (p : List ℕ) → IsBytes p → of (encoding (of p)) ≡ of p

-- what was read is written in so many bytes
abbrev pub HasSize : {V : Type 0} → ℕ → (List ℕ → V) → (V → List ℕ) → Type 0
HasSize size of encoding = (p : List ℕ) → length (encoding (of p)) ≡ size

-- what was read is written as the payload, cut to the record's size or filled up with zeros
abbrev pub WritesFilled : {V : Type 0} → ℕ → (List ℕ → V) → (V → List ℕ) → Type 0
WritesFilled size of encoding = (p : List ℕ) → IsBytes p → encoding (of p) ≡ zero_filled size p

pub record RecordLaws {V : Type 0} (size : ℕ) (of : List ℕ → V) (encoding : V → List ℕ) : Type 0 where
  pub zeros : ZerosAfter of
  pub longer : BytesAfter size of
  pub again : ReadsAgain of encoding
  pub sized : HasSize size of encoding
