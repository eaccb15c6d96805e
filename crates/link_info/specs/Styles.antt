-- How many bytes values of a fixed size have.
use Rattle.std.specs.Prelude.{nat_lt, ◌%◌, ℕ, ◌==◌, ◌&&◌, Bool, true, false, List, [], ◌∷◌, length, Ok, Err}
use Rattle.std.specs.List.{sum_by}
use Rattle.std.specs.Int.{Width, w8, w16, w32, w64, byte_len}
use Rattle.nla_wire.specs.Items.{Item}
use Rattle.link_info.specs.declared.style.Size.{Size}
use Rattle.link_info.specs.declared.style.Size.TheVariants.{One, Two, Four, Eight}
use Rattle.link_info.specs.declared.style.Plain.{Plain}
use Rattle.link_info.specs.declared.style.Plain.TheVariants as P
use Rattle.link_info.specs.declared.style.Member.{Member}
use Rattle.link_info.specs.declared.style.Element.TheVariants as E
use Rattle.link_info.specs.declared.style.Style.{Style}
use Rattle.link_info.specs.declared.style.Style.TheVariants as S

abbrev pub width : Size → Width
width One = w8
width Two = w16
width Four = w32
width Eight = w64

-- how a value of a fixed size is spelled
pub data Form : Type 0 where
  Host : Size → Form
  Network : Size → Form
  Twos : Size → Form
  SixOctets : Form
  FourOctets : Form
  SixteenOctets : Form
  Octets : ℕ → Form

abbrev pub form : Plain → Form
form (P.Unsigned size) = Host size
form (P.BigEndian size) = Network size
form (P.Signed size) = Twos size
form (P.Named size names) = Host size
form (P.BigEndianNamed size names) = Network size
form (P.Flags size names) = Host size
form (P.BigEndianFlags size names) = Network size
form P.Mac = SixOctets
form P.Ipv4 = FourOctets
form P.Ipv6 = SixteenOctets
form (P.Octets n) = Octets n

abbrev pub form_size : Form → ℕ
form_size (Host size) = byte_len (width size)
form_size (Network size) = byte_len (width size)
form_size (Twos size) = byte_len (width size)
form_size SixOctets = 6
form_size FourOctets = 4
form_size SixteenOctets = 16
form_size (Octets n) = n

abbrev pub plain_size : Plain → ℕ
plain_size plain = form_size (form plain)

-- how the values of a style are spelled, where they are of a fixed size
abbrev pub plain_in : Style → Plain
plain_in S.Bytes = P.Octets 0
plain_in S.Flag = P.Octets 0
plain_in S.Text = P.Octets 0
plain_in (S.Plain plain) = plain
plain_in (S.Record members) = P.Octets 0
plain_in (S.Array plain) = P.Octets 0
plain_in (S.List plain) = P.Octets 0
plain_in (S.Nest place) = P.Octets 0
plain_in (S.Each (E.Plain plain)) = plain
plain_in (S.Each (E.Record members)) = P.Octets 0
plain_in (S.Each (E.Nest place)) = P.Octets 0

-- a number of values of this size; of none where the size is 0
abbrev pub is_multiple : ℕ → ℕ → Bool
is_multiple size n = nat_lt 0 size && (n % size == 0)

-- of a record
abbrev pub record_size : List Member → ℕ
record_size members = sum_by (λ m. plain_size m.1) members

-- no fault is among them
abbrev pub are_frames : List Item → Bool
are_frames [] = true
are_frames ((Ok f) ∷ xs) = are_frames xs
are_frames ((Err c) ∷ xs) = false

-- and each payload has this size
abbrev pub are_frames_of : ℕ → List Item → Bool
are_frames_of size [] = true
are_frames_of size ((Ok f) ∷ xs) = (length f.payload == size) && are_frames_of size xs
are_frames_of size ((Err c) ∷ xs) = false
