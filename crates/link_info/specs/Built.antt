-- What is built of a kind, by names of rows.
use Rattle.std.specs.Prelude.{◌≡◌, ℕ, ◌==◌, ◌^◌, ◌*◌, ◌<◌, ◌≤◌, Bool, List, [], ◌∷◌, ◌++◌, length, IsTrue}
use Rattle.std.specs.Prelude.{if◌then◌else◌, map, Ok}
use Rattle.std.specs.Prelude.{FitsSigned, Option, None, Some, option_map, slice_set}
use Rattle.std.specs.Int.{byte_len}
use Rattle.std.specs.Int.RustNames.{bit_or}
use Rattle.std.specs.Borrow.{Bor}
use Rattle.std.specs.List.{find, position}
use lib.Pointwise.{pointwise}
use Rattle.nla_wire.specs.Frames.{Frame, number}
use Rattle.nla_wire.specs.Items.{items}
use Rattle.nla_wire.specs.Sizes.{most_payload}
use Rattle.nla_wire.specs.Canon.{canons, AllFit, IsSmall}
use Rattle.link_nest.specs.declared.link_info.LinkInfo.{LinkInfo}
use Rattle.link_nest.specs.declared.link_info.LinkInfo.TheVariants as infos
use Rattle.link_info.specs.declared.info.TheConstants.{IFLA_INFO_DATA}
use Rattle.link_info.specs.declared.style.Element.TheVariants as E
use Rattle.link_info.specs.declared.style.Row.{Row}
use Rattle.link_info.specs.declared.style.Style.{Style}
use Rattle.link_info.specs.declared.style.Style.TheVariants as S
use Rattle.link_info.specs.declared.style.Plain.{Plain}
use Rattle.link_info.specs.declared.style.Plain.TheVariants as P
use Rattle.link_info.specs.Styles.{Form, Host, Network, Twos, SixOctets, FourOctets, SixteenOctets, Octets, width, form}
use Rattle.link_info.specs.Styles.{plain_in, plain_size, record_size, is_multiple, are_frames, are_frames_of}
use Rattle.link_info.specs.Meanings.{Meaning, Raw, Present, Number, Signed, Words, Hardware, Four, Six}
use Rattle.link_info.specs.Meanings.{read_as, payload_as}
use Rattle.link_info.specs.declared.place.Place.{Place}

-- the text of a kind, the place of its data, if it has one, and the rows there, and the frames that were set
pub record Built : Type 0 where
  pub kind : List ℕ
  pub place : Option Place
  pub rows : List Row
  pub frames : List Frame

abbrev pub is_named : List ℕ → Row → Bool
is_named name row = pointwise ◌==◌ row.1.now name

-- the first row of a name
abbrev pub row_named : List Row → List ℕ → Option Row
row_named rows name = find (is_named name) rows

abbrev pub has_number : ℕ → Frame → Bool
has_number n f = number f == n

-- the frame stands at this place, or at the end
abbrev pub put_at : Option ℕ → List Frame → Frame → List Frame
put_at None fs f = fs ++ f ∷ []
put_at (Some i) fs f = slice_set fs i f

-- the frame takes the place of the first one of its number, or is added at the end
abbrev pub placed : List Frame → Frame → List Frame
placed fs f = put_at (position (has_number (number f)) fs) fs f

-- a value of a fixed size that has a spelling of this form
abbrev pub FormHolds : Form → Meaning → Type 0
FormHolds (Host size) (Number n) = n < 2 ^ (8 * byte_len (width size))
FormHolds (Network size) (Number n) = n < 2 ^ (8 * byte_len (width size))
FormHolds (Twos size) (Signed z) = FitsSigned (width size) z
FormHolds SixOctets (Hardware octets) = Unit {0}
FormHolds FourOctets (Four address) = Unit {0}
FormHolds SixteenOctets (Six address) = Unit {0}
FormHolds (Octets n) (Raw p) = length p ≡ n
FormHolds f m = ⊥

-- a value that an attribute of this style can have: what holds other values is given by its bytes
abbrev pub Holds : Style → Meaning → Type 0
Holds S.Bytes (Raw p) = Unit {0}
Holds S.Flag Present = Unit {0}
Holds S.Text (Words s) = Unit {0}
Holds (S.Plain plain) m = FormHolds (form plain) m
Holds (S.Record members) (Raw p) = record_size members.now ≡ length p
Holds (S.Array plain) (Raw p) = IsTrue (is_multiple (plain_size plain) (length p))
Holds (S.List plain) (Raw p) = IsTrue (are_frames_of (plain_size plain) (items p))
Holds (S.Nest place) (Raw p) = IsTrue (are_frames (items p))
Holds (S.Each (E.Plain plain)) m = FormHolds (form plain) m
Holds (S.Each (E.Record members)) (Raw p) = record_size members.now ≡ length p
Holds (S.Each (E.Nest place)) (Raw p) = IsTrue (are_frames (items p))
Holds style m = ⊥

-- ** values that are given by names

-- a number or bit, and its name
abbrev pub Name : Type 0
Name = ℕ × Bor (List ℕ)

abbrev pub has_name : List ℕ → Name → Bool
has_name name row = pointwise ◌==◌ row.1.now name

-- the first number of this name
abbrev pub number_named : List Name → List ℕ → Option ℕ
number_named names name = option_map (λ row. row.0) (find (has_name name) names)

abbrev pub plain_names : Plain → List Name
plain_names (P.Named size names) = names.now
plain_names (P.BigEndianNamed size names) = names.now
plain_names (P.Flags size names) = names.now
plain_names (P.BigEndianFlags size names) = names.now
plain_names plain = []

-- the names of numbers or bits of this style
abbrev pub names_of : Style → List Name
names_of style = plain_names (plain_in style)

abbrev pub number_or : Option ℕ → Meaning → Meaning
number_or None m = m
number_or (Some n) m = Number n

-- a name that the style has says its number; another value says what it is
abbrev pub by_name : Style → Meaning → Meaning
by_name style (Words s) = number_or (number_named (names_of style) s) (Words s)
by_name style m = m

abbrev pub bits_with : (ℕ → Option ℕ) → Option ℕ → Option ℕ
bits_with rest None = None
bits_with rest (Some bit) = rest bit

-- these bits and those of the names, if each has one
abbrev pub bits_named : List Name → ℕ → List (Bor (List ℕ)) → Option ℕ
bits_named names bits [] = Some bits
bits_named names bits (flag ∷ flags) =
    bits_with (λ bit. bits_named names (bit_or bits bit) flags) (number_named names flag.now)

abbrev pub plain_bits : Plain → List (Bor (List ℕ)) → Option ℕ
plain_bits (P.Flags size names) flags = bits_named names.now 0 flags
plain_bits (P.BigEndianFlags size names) flags = bits_named names.now 0 flags
plain_bits plain flags = None

-- the bits of these names, by a style of flags that has each
abbrev pub bits_of : Style → List (Bor (List ℕ)) → Option ℕ
bits_of style flags = plain_bits (plain_in style) flags

-- ** what is set

-- why a row cannot be set to a value
abbrev pub IsRefused : Option Row → Meaning → Type 0
IsRefused None m = ⊥
IsRefused (Some row) m = Holds row.2 (by_name row.2 m) → ⊥

-- why a row cannot be set to flags
abbrev pub AreRefused : Option Row → List (Bor (List ℕ)) → Type 0
AreRefused None flags = ⊥
AreRefused (Some row) flags = (bits : ℕ) → bits_of row.2 flags ≡ Some bits → Holds row.2 (Number bits) → ⊥

-- the frame that a row is set by
abbrev pub frame_of_row : Row → Meaning → Frame
frame_of_row row m = record { kind = row.0; payload = payload_as row.2 m }

-- this row was set to this value
abbrev pub IsSetTo : Row → Meaning → Built → Built → Type 0
IsSetTo row m old new = Holds row.2 m × (new ≡ record old { frames = placed old.frames (frame_of_row row m) })

-- a row of this name was set to this value
abbrev pub IsSet : List ℕ → Meaning → Built → Built → Type 0
IsSet name m old new = (row : Row) × (row_named old.rows name ≡ Some row) × IsSetTo row (by_name row.2 m) old new

-- a row of this name was set to these flags
abbrev pub AreSet : List ℕ → List (Bor (List ℕ)) → Built → Built → Type 0
AreSet name flags old new = (row : Row) × (bits : ℕ) × (row_named old.rows name ≡ Some row)
    × (bits_of row.2 flags ≡ Some bits) × IsSetTo row (Number bits) old new

-- what the row of this name was set to
abbrev pub value_by : Option Row → List Frame → Option Meaning
value_by None fs = None
value_by (Some row) fs = option_map (λ f. read_as row.2 f.payload) (find (has_number row.0) fs)

abbrev pub value_of : Built → List ℕ → Option Meaning
value_of b name = value_by (row_named b.rows name) b.frames

-- the frames of bytes that are whole frames
abbrev pub AreWhole : List ℕ → List Frame → Type 0
AreWhole b fs = items b ≡ map (λ f. Ok f) fs

-- the data fit into one attribute
abbrev pub DataFit : Built → Type 0
DataFit b = (length (canons (λ f. f) b.frames) ≤ most_payload) × AllFit (λ f. IsSmall f) (λ f. f) b.frames

-- frames as data in canonical encoding; without frames there are no data
abbrev pub data_of : List Frame → List LinkInfo
data_of [] = []
data_of (f ∷ fs) = infos.Other (record { kind = IFLA_INFO_DATA; payload = canons (λ g. g) (f ∷ fs) }) ∷ []

-- what IFLA_LINKINFO holds: the kind, and the data
abbrev pub list_of : Built → List LinkInfo
list_of b = infos.Kind b.kind ∷ data_of b.frames

-- the first kind, and the payload of the first data
abbrev pub kind_in : List LinkInfo → Option (List ℕ)
kind_in [] = None
kind_in ((infos.Kind kind) ∷ xs) = Some kind
kind_in ((infos.Other f) ∷ xs) = kind_in xs

abbrev pub data_in : List LinkInfo → List ℕ
data_in [] = []
data_in ((infos.Kind kind) ∷ xs) = data_in xs
data_in ((infos.Other f) ∷ xs) = if has_number IFLA_INFO_DATA f then f.payload else data_in xs
