-- Laws of styles, over what payloads mean and how values are written.
use Rattle.std.specs.Prelude.{◌≡◌, ◌↔◌, ℕ, List, map}
use Rattle.std.specs.List.{AllByRecursion}
use Rattle.nla_wire.specs.Frames.{Frame, Frames, IsBytes, number}
use Rattle.nla_wire.specs.Items.{items}
use Rattle.nla_wire.specs.Canon.{canons, IsWritable}
use Rattle.nla_wire.specs.Payloads.{EndsInNul}
use Rattle.link_info.specs.declared.style.Element.{Element}
use Rattle.link_info.specs.declared.style.Element.TheVariants as E
use Rattle.link_info.specs.declared.style.Style.{Style}
use Rattle.link_info.specs.declared.style.Style.TheVariants as S
use Rattle.link_info.specs.declared.style.Row.{Row}
use Rattle.link_info.specs.Tables.{row_at, style_of, fields_of, read_field, frames_in, rewritten}
use Rattle.link_info.specs.Meanings.{Meaning, read_as, payload_as}
use Rattle.link_info.specs.Built.{Holds}

-- there is one way to write what it means: a text has a NUL at its end
abbrev pub IsCanonical : Style → List ℕ → Type 0
IsCanonical S.Text p = EndsInNul p
IsCanonical S.Bytes p = Unit {0}
IsCanonical S.Flag p = Unit {0}
IsCanonical (S.Plain plain) p = Unit {0}
IsCanonical (S.Record members) p = Unit {0}
IsCanonical (S.Array plain) p = Unit {0}
IsCanonical (S.List plain) p = Unit {0}
IsCanonical (S.Nest place) p = Unit {0}
IsCanonical (S.Each element) p = Unit {0}

-- what was read and is written gives the same bytes
abbrev pub WrittenAsItWas : Type 0
WrittenAsItWas = (style : Style) (p : List ℕ) → IsBytes p → IsCanonical style p
    → payload_as style (read_as style p) ≡ p

-- and what is written is read as the same
abbrev pub ReadAgain : Type 0
ReadAgain = (style : Style) (p : List ℕ) → IsBytes p
    → read_as style (payload_as style (read_as style p)) ≡ read_as style p

-- the style of one value of a list
abbrev pub style_of_each : Element → Style
style_of_each (E.Plain plain) = S.Plain plain
style_of_each (E.Record members) = S.Record members
style_of_each (E.Nest place) = S.Nest place

-- a value of a list means, is written as, and can be what it is where it stands alone
pub record EachAsAlone : Type 0 where
  pub read : (element : Element) (p : List ℕ) → read_as (S.Each element) p ≡ read_as (style_of_each element) p
  pub written : (element : Element) (m : Meaning)
      → payload_as (S.Each element) m ≡ payload_as (style_of_each element) m
  pub held : (element : Element) (m : Meaning) → Holds (S.Each element) m ↔ Holds (style_of_each element) m

-- ** lists of attributes, by any table

-- each frame gives one field, in order
abbrev pub OneFieldEach : Type 0
OneFieldEach = (rows : List Row) (b : List ℕ) (fs : List Frame) → Frames b fs
    → fields_of rows (items b) ≡ map (read_field rows) fs

-- the payload is the one spelling of its meaning
abbrev pub IsCanonicalFrame : List Row → Frame → Type 0
IsCanonicalFrame rows f = IsBytes f.payload × IsCanonical (style_of (row_at rows (number f))) f.payload

-- what was read and is written gives the same bytes
abbrev pub ListAsItWas : Type 0
ListAsItWas = (rows : List Row) (fs : List Frame) → AllByRecursion (IsCanonicalFrame rows) fs
    → canons (rewritten rows) fs ≡ canons (λ f. f) fs

-- what was read is written, where it fits, so that it is read as the same fields
abbrev pub ListReadAgain : Type 0
ListReadAgain = (rows : List Row) (fs : List Frame) → AllByRecursion (λ f. IsBytes f.payload) fs
    → AllByRecursion (λ f. IsWritable (rewritten rows f)) fs
    → fields_of rows (items (canons (rewritten rows) fs)) ≡ map (read_field rows) fs

-- canonical encoding of frames that it can be had of is rewritten as it was
abbrev pub RewrittenAsItWas : Type 0
RewrittenAsItWas = (rows : List Row) (fs : List Frame) → AllByRecursion (λ f. IsWritable f) fs
    → AllByRecursion (IsCanonicalFrame rows) fs
    → canons (rewritten rows) (frames_in (items (canons (λ f. f) fs))) ≡ canons (λ f. f) fs
