-- Laws of places and of lists, over what frames and payloads mean and how values are written.
use Rattle.std.specs.Prelude.{ℕ, ◌+◌, ◌*◌, ◌/◌, ◌<◌, ◌≤◌, List, [], length}
use Rattle.nla_wire.specs.Frames.{Frame, IsBytes, IsFrame, Begins}
use Rattle.nla_wire.specs.Canon.{canon, canons, AllFit, total}

-- what was read from some frame here, if it fits, is read again from its canonical frame
abbrev pub ReadsBack : {V : Type 0} → (Frame → V → Type 0) → (V → Frame) → (V → Type 0) → Type 0
ReadsBack {V} means frame Fits = (f : Frame) (v : V) → IsFrame f → means f v → Fits v
    → Begins (canon (frame v)) (frame v) [] × means (frame v) v

-- values that some payload means as a list, and that fit, are what their canonical encodings, one after the other, mean
abbrev pub ListReadsBack : {V : Type 0} → (List ℕ → List V → Type 0) → (V → Frame) → (V → Type 0) → Type 0
ListReadsBack {V} means frame Fits = (p : List ℕ) (vs : List V) → IsBytes p → means p vs → AllFit Fits frame vs
    → means (canons frame vs) vs

-- how many values a list holds, members of members among them, and how long its canonical encoding is, against its
-- payload: at most `factor` bytes for each whole four, and so many fewer for each member
pub record IsBounded (factor fewer_bytes : ℕ) (p : List ℕ) (members values : ℕ) (encoding : List ℕ) : Type 0 where
  -- four bytes for each value
  pub counted : 4 * values ≤ length p
  pub grown : length encoding + fewer_bytes * members ≤ factor * (length p / 4)
  -- so that many fewer where there is anything
  pub fewer : 0 < length p → length encoding + fewer_bytes ≤ factor * (length p / 4)

-- each list of this meaning is so bounded
abbrev pub ListsBounded : {V : Type 0} → ℕ → ℕ → (List ℕ → List V → Type 0) → (V → ℕ) → (V → Frame) → Type 0
ListsBounded {V} factor fewer_bytes means count frame =
    (p : List ℕ) (vs : List V) → means p vs
    → IsBounded factor fewer_bytes p (length vs) (total count vs) (canons frame vs)
