-- The buffers of records: what one takes from the front of a slice, and the rest, with the place where it lies.
use Rattle.std.specs.Prelude.{◌≡◌, ◌≤◌, ◌+◌, ℕ, List, length, take, drop, Result, MatchResult}
use Rattle.std.specs.Borrow.{Bor}
use Rattle.nla_wire.specs.Fields.{IsShort}
use Rattle.nla_wire.specs.Records.{buffer_bytes}
use Rattle.nla_wire.specs.declared.error.DecodeError.{DecodeError}
use Rattle.nla_wire.specs.declared.record.RecordBuffer.{RecordBuffer}

-- the part of a slice that begins so many bytes after its start: it lies in the slice, and is no copy
abbrev pub after : ℕ → Bor (List ℕ) → Bor (List ℕ)
after n bytes = record { ref_ptr = (bytes.ref_ptr.0, bytes.ref_ptr.1 + n); now = drop n bytes.now }

-- a buffer is made of so many bytes, and beside it is the rest of the slice. Fewer bytes are refused
abbrev pub TakesFront : {R : Type 0} {held : ℕ} → ℕ → Bor (List ℕ)
    → Result (RecordBuffer R held × Bor (List ℕ)) DecodeError → Type 0
TakesFront size bytes result =
    MatchResult result
    (λ v. (size ≤ length bytes.now) × (buffer_bytes v.0 ≡ take size bytes.now) × (v.1 ≡ after size bytes))
    (IsShort bytes.now size)

-- the same, and the buffer is of the record that `of` reads
abbrev pub TakesRecord : {R : Type 0} {held : ℕ} → ℕ → (List ℕ → R) → Bor (List ℕ)
    → Result (RecordBuffer R held × Bor (List ℕ)) DecodeError → Type 0
TakesRecord size of bytes result = TakesFront size bytes result
