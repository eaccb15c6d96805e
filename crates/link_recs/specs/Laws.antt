-- Laws of a record of numbers of one width, over the list of its fields, its reading `of` and its bytes `text`.
use Rattle.std.specs.Prelude.{◌≡◌, ℕ, List, length}
use Rattle.std.specs.List.{AllByRecursion}
use Rattle.nla_wire.specs.Records.{RecordLaws, WritesFilled}
pub use Rattle.nla_wire.specs.Records.{ZerosAfter, BytesAfter}

-- a record whose fields fit is read back from its bytes
abbrev pub ReadsBack : {V N : Type 0} → (N → Type 0) → (V → List N) → (List ℕ → V) → (V → List ℕ) → Type 0
ReadsBack {V} Fits fields of text = (v : V) → AllByRecursion Fits (fields v) → of (text v) ≡ v

pub record WordLaws {V N : Type 0} (Fits : N → Type 0) (read : List ℕ → ℕ → ℕ → List N) (count size : ℕ)
    (fields : V → List N) (of : List ℕ → V) (text : V → List ℕ) : Type 0 where
  -- the fields are the numbers of the payload in order
  pub table : (p : List ℕ) → fields (of p) ≡ read p 0 count
  -- a record is given by them
  pub only : (v w : V) → fields v ≡ fields w → v ≡ w
  pub written : ReadsBack Fits fields of text
  pub size_is : (v : V) → length (text v) ≡ size
  pub plain : WritesFilled size of text
  pub laws : RecordLaws size of text
