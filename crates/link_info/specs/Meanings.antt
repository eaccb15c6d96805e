-- What payloads mean, by their style.
use Rattle.std.specs.Prelude.{FitsSigned, ℕ, ℤ, ◌==◌, List, [], ◌∷◌, ◌++◌, length, if◌then◌else◌, Result, Ok, Err}
use Rattle.std.specs.Int.{from_le_bytes, from_be_bytes, cast_signed, cast_unsigned, to_le_bytes, to_be_bytes}
use Rattle.std.specs.Net.Addr.{ipv4_octets, ipv6_octets}
use Rattle.std.specs.declared.net.ipv4_addr.Ipv4Addr.{Ipv4Addr}
use Rattle.std.specs.declared.net.ipv6_addr.Ipv6Addr.{Ipv6Addr}
use Rattle.nla_wire.specs.Payloads.{address_of_octets, text}
use Rattle.nla_wire.specs.Items.{items}
use Rattle.nla_wire.specs.declared.error.Cause.{Cause}
use Rattle.link_info.specs.declared.style.Style.{Style}
use Rattle.link_info.specs.declared.style.Style.TheVariants as S
use Rattle.link_info.specs.declared.style.Plain.{Plain}
use Rattle.link_info.specs.declared.style.Element.TheVariants as E
use Rattle.link_info.specs.declared.style.Member.{Member}
use Rattle.link_info.specs.declared.place.Place.{Place}
use Rattle.link_info.specs.declared.value.Value.{Value}
use Rattle.link_info.specs.declared.value.Value.TheVariants as V
use Rattle.link_info.specs.Styles.{Form, Host, Network, Twos, SixOctets, FourOctets, SixteenOctets, Octets}
use Rattle.link_info.specs.Styles.{width, form, plain_in, plain_size, is_multiple, record_size, are_frames}
use Rattle.link_info.specs.Styles.{are_frames_of}

-- a value, by the bytes that it refers to
pub data Meaning : Type 0 where
  Raw : List ℕ → Meaning
  Present : Meaning
  Number : ℕ → Meaning
  Signed : ℤ → Meaning
  Words : List ℕ → Meaning
  Hardware : List ℕ → Meaning
  Four : Ipv4Addr → Meaning
  Six : Ipv6Addr → Meaning
  Members : List Member → List ℕ → Meaning
  Elements : Plain → List ℕ → Meaning
  Listed : Plain → List ℕ → Meaning
  Nested : Place → List ℕ → Meaning

abbrev pub meaning : Value → Meaning
meaning (V.Bytes bytes) = Raw bytes.now
meaning V.Flag = Present
meaning (V.Unsigned n) = Number n
meaning (V.Signed z) = Signed z
meaning (V.Text text) = Words text.now
meaning (V.Mac octets) = Hardware octets
meaning (V.Ipv4 address) = Four address
meaning (V.Ipv6 address) = Six address
meaning (V.Record members bytes) = Members members.now bytes.now
meaning (V.Array plain bytes) = Elements plain bytes.now
meaning (V.List plain bytes) = Listed plain bytes.now
meaning (V.Nest place bytes) = Nested place bytes.now

-- bytes of this form's size
abbrev pub form_meaning : Form → List ℕ → Meaning
form_meaning (Host size) p = Number (from_le_bytes (width size) p)
form_meaning (Network size) p = Number (from_be_bytes (width size) p)
form_meaning (Twos size) p = Signed (cast_signed (width size) (from_le_bytes (width size) p))
form_meaning SixOctets p = Hardware p
form_meaning FourOctets p = Four (record { octets = p })
form_meaning SixteenOctets p = Six (address_of_octets p)
form_meaning (Octets n) p = Raw p

abbrev pub plain_meaning : Plain → List ℕ → Meaning
plain_meaning plain p = form_meaning (form plain) p

-- a payload that was read as a text
abbrev pub text_or_bytes : List ℕ → Result (List ℕ) Cause → Meaning
text_or_bytes p (Ok s) = Words s
text_or_bytes p (Err c) = Raw p

abbrev pub text_meaning : List ℕ → Meaning
text_meaning p = text_or_bytes p (text.reads p)

-- no bytes
abbrev pub flag_meaning : List ℕ → Meaning
flag_meaning [] = Present
flag_meaning (x ∷ p) = Raw (x ∷ p)

abbrev pub plain_or_bytes : Plain → List ℕ → Meaning
plain_or_bytes plain p = if length p == plain_size plain then plain_meaning plain p else Raw p

abbrev pub record_or_bytes : List Member → List ℕ → Meaning
record_or_bytes members p = if record_size members == length p then Members members p else Raw p

abbrev pub nest_or_bytes : Place → List ℕ → Meaning
nest_or_bytes place p = if are_frames (items p) then Nested place p else Raw p

-- what a payload means by its style; one that is not of its form is bytes
abbrev pub read_as : Style → List ℕ → Meaning
read_as S.Bytes p = Raw p
read_as S.Flag p = flag_meaning p
read_as S.Text p = text_meaning p
read_as (S.Plain plain) p = plain_or_bytes plain p
read_as (S.Record members) p = record_or_bytes members.now p
read_as (S.Array plain) p = if is_multiple (plain_size plain) (length p) then Elements plain p else Raw p
read_as (S.List plain) p = if are_frames_of (plain_size plain) (items p) then Listed plain p else Raw p
read_as (S.Nest place) p = nest_or_bytes place p
read_as (S.Each (E.Plain plain)) p = plain_or_bytes plain p
read_as (S.Each (E.Record members)) p = record_or_bytes members.now p
read_as (S.Each (E.Nest place)) p = nest_or_bytes place p

-- ** the payload that a value is written as

-- a number, in the form's order; a value of other forms has none
abbrev pub form_number : Form → ℕ → List ℕ
form_number (Host size) n = to_le_bytes (width size) n
form_number (Network size) n = to_be_bytes (width size) n
form_number (Twos size) n = []
form_number SixOctets n = []
form_number FourOctets n = []
form_number SixteenOctets n = []
form_number (Octets size) n = []

abbrev pub form_signed : Form → ℤ → List ℕ
form_signed (Twos size) z = to_le_bytes (width size) (cast_unsigned (width size) z)
form_signed (Host size) z = []
form_signed (Network size) z = []
form_signed SixOctets z = []
form_signed FourOctets z = []
form_signed SixteenOctets z = []
form_signed (Octets size) z = []

abbrev pub plain_of : Style → Form
plain_of style = form (plain_in style)

abbrev pub written_by : Form → Meaning → List ℕ
written_by f (Raw p) = p
written_by f Present = []
written_by f (Number n) = form_number f n
written_by f (Signed z) = form_signed f z
written_by f (Words s) = s ++ 0 ∷ []
written_by f (Hardware octets) = octets
written_by f (Four address) = ipv4_octets address
written_by f (Six address) = ipv6_octets address
written_by f (Members members p) = p
written_by f (Elements plain p) = p
written_by f (Listed plain p) = p
written_by f (Nested place p) = p

-- what a value of this style is written as
abbrev pub payload_as : Style → Meaning → List ℕ
payload_as style m = written_by (plain_of style) m

-- a signed number that this form has bytes for
abbrev pub SignedFits : Form → ℤ → Type 0
SignedFits (Twos size) z = FitsSigned (width size) z
SignedFits (Host size) z = Unit {0}
SignedFits (Network size) z = Unit {0}
SignedFits SixOctets z = Unit {0}
SignedFits FourOctets z = Unit {0}
SignedFits SixteenOctets z = Unit {0}
SignedFits (Octets size) z = Unit {0}

-- a value that this form has bytes for: of a number its lowest bytes are written
abbrev pub ValueFits : Form → Meaning → Type 0
ValueFits f (Signed z) = SignedFits f z
ValueFits f (Raw p) = Unit {0}
ValueFits f Present = Unit {0}
ValueFits f (Number n) = Unit {0}
ValueFits f (Words s) = Unit {0}
ValueFits f (Hardware octets) = Unit {0}
ValueFits f (Four address) = Unit {0}
ValueFits f (Six address) = Unit {0}
ValueFits f (Members members p) = Unit {0}
ValueFits f (Elements plain p) = Unit {0}
ValueFits f (Listed plain p) = Unit {0}
ValueFits f (Nested place p) = Unit {0}
