-- Tables of rows, and the fields of frames by them.
use Rattle.std.specs.Prelude.{ℕ, ◌==◌, Bool, List, [], ◌∷◌, map, Option, None, Some, Result, Ok, Err}
use Rattle.std.specs.List.{find, AllByRecursion}
use Rattle.nla_wire.specs.Frames.{Frame, number}
use Rattle.nla_wire.specs.Items.{Item}
use Rattle.nla_wire.specs.Canon.{IsSmall}
use Rattle.nla_wire.specs.declared.error.Cause.{Cause}
use Rattle.link_info.specs.declared.style.Row.{Row}
use Rattle.link_info.specs.declared.style.Style.{Style}
use Rattle.link_info.specs.declared.style.Style.TheVariants as S
use Rattle.link_info.specs.Meanings.{Meaning, read_as, payload_as}

-- a field: the row of its number, its kind, and what its payload means
pub record Known : Type 0 where
  pub row : Option Row
  pub kind : ℕ
  pub value : Meaning

abbrev pub is_of : ℕ → Row → Bool
is_of n row = row.0 == n

-- the first row of a number
abbrev pub row_at : List Row → ℕ → Option Row
row_at rows n = find (is_of n) rows

abbrev pub style_of : Option Row → Style
style_of None = S.Bytes
style_of (Some row) = row.2

-- what a frame says by a table
abbrev pub field_of : List Row → Frame → Known
field_of rows f = record {
  row = row_at rows (number f);
  kind = f.kind;
  value = read_as (style_of (row_at rows (number f))) f.payload;
}

-- a field, or the fault that ends them
abbrev pub FieldItem : Type 0
FieldItem = Result Known Cause

-- the field of a frame
abbrev pub read_field : List Row → Frame → FieldItem
read_field rows f = Ok (field_of rows f)

abbrev pub field_item : List Row → Item → FieldItem
field_item rows (Ok f) = read_field rows f
field_item rows (Err c) = Err c

-- one of each frame, in order
abbrev pub fields_of : List Row → List Item → List FieldItem
fields_of rows items = map (field_item rows) items

-- the frame that a field is written as
abbrev pub frame_of : Known → Frame
frame_of k = record { kind = k.kind; payload = payload_as (style_of k.row) k.value }

-- a frame that was read and is written
abbrev pub rewritten : List Row → Frame → Frame
rewritten rows f = frame_of (field_of rows f)

-- the frames of items, up to a fault
abbrev pub frames_in : List Item → List Frame
frames_in [] = []
frames_in ((Ok f) ∷ xs) = f ∷ frames_in xs
frames_in ((Err c) ∷ xs) = []

-- each of them fits when it is written
abbrev pub AllRewritten : List Row → List Frame → Type 0
AllRewritten rows fs = AllByRecursion (λ f. IsSmall (rewritten rows f)) fs
