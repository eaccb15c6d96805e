-- Tables of rows. A row says a number, what a payload of that number means, and how its value is written; a frame of no
-- row is kept as it is. Of the fields `reads`, and of `read_in`, the headline says nothing.
use Rattle.std.specs.Prelude.{◌≡◌, ◌↔◌, ◌==◌, ◌&&◌, ℕ, ◌+◌, ◌≤◌, Bool, List, [], ◌∷◌, length, Option, None, Some, true}
use Rattle.std.specs.Prelude.{Result, if◌then◌else◌}
use Rattle.nla_wire.specs.Frames.{Frame, number}
use Rattle.nla_wire.specs.Grammar as nla
use Rattle.nla_wire.specs.Grammar.{Grammar, as_a, by_payload, undecoded, if_true}
use Rattle.nla_wire.specs.Canon.{canons, total, AllFit}
use Rattle.nla_wire.specs.declared.error.Cause.{Cause}

-- ** payloads

-- a payload that holds an A: what bytes mean as one, how an A is written as one, what has to hold of it to fit beside
-- the length of the payload, and how many values it has inside
pub record Form (A : Type 0) : Type 1 where
  pub grammar : Grammar (List ℕ) A
  pub encoding : A → List ℕ
  pub Inside : A → Type 0
  pub count : A → ℕ

-- it has no values inside, and nothing but its length may keep it from fitting
abbrev pub plain : {A : Type 0} → Grammar (List ℕ) A → (A → List ℕ) → Form A
plain g encoding = record { grammar = g; encoding = encoding; Inside = λ a. Unit {0}; count = λ a. 0 }

-- the same, with its value wrapped as one of another type; `inner` is what was wrapped
abbrev pub as_form : {A B : Type 0} → (A → B) → (B → A) → Form A → Form B
as_form wrap inner form = record {
  grammar = as_a wrap form.grammar;
  encoding = λ b. form.encoding (inner b);
  Inside = λ b. form.Inside (inner b);
  count = λ b. form.count (inner b);
}

-- the same, where the empty payload is refused
abbrev pub not_empty : {A : Type 0} → Form A → Form A
not_empty form = record form { grammar = nla.not_empty form.grammar }

-- ** rows

-- of the values of a table: the frame that each is written as, whether it fits, and how many values it is, with those
-- inside
pub record Written (V : Type 0) : Type 1 where
  pub frame : V → Frame
  pub Fits : V → Type 0
  pub count : V → ℕ

-- v is written as f; it fits where the payload of f has at most 65531 bytes and what is inside fits; and it counts one,
-- and what is inside
pub record IsWritten {V : Type 0} (w : Written V) (v : V) (f : Frame) (Inside : Type 0) (inside : ℕ) : Type 0 where
  pub frame : w.frame v ≡ f
  pub fits : w.Fits v ↔ ((length f.payload ≤ 65531) × Inside)
  pub count : w.count v ≡ 1 + inside

pub record Row (V : Type 0) : Type 1 where
  pub number : ℕ
  -- if the row is for payloads of one size only, that size
  pub size : Option ℕ
  -- what frames of this number, and size, mean
  pub grammar : Grammar Frame V
  -- how the values of this row are written
  pub Writes : Written V → Type 0

-- a frame of this number has such a payload, whatever its flags, and means its value as this variant, which is written
-- with this kind: the number, with or without a flag
abbrev pub row_as : {V A : Type 0} (number kind : ℕ) (size : Option ℕ) → Form A → (A → V) → Row V
row_as {V} {A} number kind size form variant = record {
  number = number;
  size = size;
  grammar = by_payload (as_a variant form.grammar);
  Writes = λ w. (a : A) → IsWritten w (variant a) (record { kind = kind; payload = form.encoding a }) (form.Inside a)
      (form.count a);
}

-- it is written without flags
abbrev pub row : {V A : Type 0} (number : ℕ) → Form A → (A → V) → Row V
row number = row_as number number None

-- it is written with NLA_F_NESTED
abbrev pub nested_row : {V A : Type 0} (number : ℕ) → Form A → (A → V) → Row V
nested_row number = row_as number (number + 32768) None

-- only where the payload has so many bytes
abbrev pub row_of_size : {V A : Type 0} (size number : ℕ) → Form A → (A → V) → Row V
row_of_size size number = row_as number number (Some size)

-- values of this variant are frames, and are written as they are, with their flags
abbrev pub Keeps : {V : Type 0} → (Frame → V) → Written V → Type 0
Keeps variant w = (f : Frame) → IsWritten w (variant f) f (Unit {0}) 0

-- frames of this number are kept so
abbrev pub kept_row : {V : Type 0} (number : ℕ) → (Frame → V) → Row V
kept_row number variant =
    record { number = number; size = None; grammar = undecoded variant; Writes = Keeps variant }

-- ** tables

-- rows; the variant of frames of no row; and how the values are written, which is to be as the rows say
pub record Table (V : Type 0) : Type 1 where
  pub rows : List {1} (Row V)
  pub other : Frame → V
  pub written : Written V

abbrev pub has_size : Option ℕ → ℕ → Bool
has_size None size = true
has_size (Some s) size = size == s

-- the first row of this number and size, or `rest`
abbrev pub row_in : {V : Type 0} → ℕ → ℕ → List {1} (Row V) → Grammar Frame V → Grammar Frame V
row_in n size [] rest = rest
row_in n size (r ∷ rs) rest = if_true ((n == r.number) && has_size r.size size) r.grammar (row_in n size rs rest)

abbrev pub read_in : {V : Type 0} → ℕ → ℕ → List {1} (Row V) → (Frame → Result V Cause) → Frame → Result V Cause
read_in n size [] rest f = rest f
read_in n size (r ∷ rs) rest f =
    if (n == r.number) && has_size r.size size then r.grammar.reads f else read_in n size rs rest f

-- a frame means what its row says, and without one it is kept as it is; so all that frames can mean is the variant of a
-- row or `other`
abbrev pub place : {V : Type 0} → Table V → Grammar Frame V
place t = record {
  means = λ f. (row_in (number f) (length f.payload) t.rows (undecoded t.other)).means f;
  bad = λ f. (row_in (number f) (length f.payload) t.rows (undecoded t.other)).bad f;
  reads = λ f. read_in (number f) (length f.payload) t.rows (undecoded t.other).reads f;
}

-- each row says of w how its values are written
abbrev pub EachWrites : {V : Type 0} → List {1} (Row V) → Written V → Type 0
EachWrites [] w = Unit {0}
EachWrites (r ∷ rs) w = r.Writes w × EachWrites rs w

-- the values are written as the rows say, and frames of no row as they are. That is said of all that frames can mean by
-- t, so it leaves nothing open of how they are written
abbrev pub FollowsRows : {V : Type 0} → Table V → Type 0
FollowsRows t = EachWrites t.rows t.written × Keeps t.other t.written

-- ** lists

-- frames one after the other, each of which means a value by the table
abbrev pub list : {V : Type 0} → Table V → Form (List V)
list t = record {
  grammar = nla.list (place t);
  encoding = canons t.written.frame;
  Inside = AllFit t.written.Fits t.written.frame;
  count = total t.written.count;
}

-- an entry is written with the number 1
abbrev pub entry_frame : {A : Type 0} → Form A → A → Frame
entry_frame form a = record { kind = 1; payload = form.encoding a }

-- frames one after the other, each of which is an entry where its number is 1, and else dropped unread
abbrev pub entries : {A : Type 0} → Form A → Form (List A)
entries form = record {
  grammar = nla.picked (by_payload form.grammar);
  encoding = canons (entry_frame form);
  Inside = AllFit (λ a. (length (form.encoding a) ≤ 65531) × form.Inside a) (entry_frame form);
  count = total (λ a. 1 + form.count a);
}
