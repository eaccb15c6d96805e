-- What bytes mean a message, why they mean none, its canonical encoding, and what fits.
use Rattle.std.specs.Prelude.{◌≡◌, ℕ, ◌+◌, ◌-◌, ◌*◌, ◌<◌, ◌≤◌, ◌^◌, nat_lt, if◌then◌else◌, List, ◌++◌, ◌⊎◌, length}
use Rattle.std.specs.Prelude.{take, drop, Result, Ok, Err}
use Rattle.std.specs.List.{AllByRecursion}
use Rattle.nla_wire.specs.Sizes.{growth_per_byte, small_enough}
use Rattle.nla_wire.specs.Grammar.{Grammar, list, First}
use Rattle.nla_wire.specs.Canon.{canons, total}
use Rattle.nla_wire.specs.declared.error.Cause.{Cause}
use Rattle.nla_wire.specs.declared.error.Cause.TheVariants.{TooShort}
use Rattle.link_msg.specs.Header.{header_size, header_of, IsHeader, header_bytes}
use Rattle.link_msg.specs.Tables.{attribute_frame, AttributeFits, NotEmptyPorts, attribute_count, attribute_place}
use Rattle.link_msg.specs.declared.attribute.LinkAttribute.{LinkAttribute}
use Rattle.link_msg.specs.declared.header.LinkHeader.{LinkHeader}
use Rattle.link_msg.specs.declared.message.LinkMessage.{LinkMessage}

-- b is a header of sixteen bytes and then frames, of which each means the attribute at its place, under the header's
-- family
abbrev pub Means : List ℕ → LinkMessage → Type 0
Means b m =
    (h : List ℕ) × (c : List ℕ) × (b ≡ h ++ c) × IsHeader h m.header
    × (list (attribute_place m.header.interface_family)).means c m.attributes

-- b means no message, and this is the first fault: it is shorter than a header, or the attributes after its header
-- have it
abbrev pub FirstFault : List ℕ → Cause → Type 0
FirstFault b c =
    ((length b < header_size) × (c ≡ TooShort (length b) header_size))
    ⊎ ((h : List ℕ) × (d : List ℕ) × (v : LinkHeader) × (b ≡ h ++ d) × IsHeader h v
    × First (attribute_place v.interface_family) d c)

-- a header and what was read after it
abbrev pub with_header : LinkHeader → Result (List LinkAttribute) Cause → Result LinkMessage Cause
with_header v (Ok attributes) = Ok (record { header = v; attributes = attributes })
with_header v (Err c) = Err c

-- what a reader returns of the bytes after a header
abbrev pub read_after : LinkHeader → List ℕ → Result LinkMessage Cause
read_after v d = with_header v ((list (attribute_place v.interface_family)).reads d)

-- what a reader of messages returns
unfoldable pub read_message : List ℕ → Result LinkMessage Cause
read_message b =
    if nat_lt (length b) header_size then Err (TooShort (length b) header_size)
    else read_after (header_of (take header_size b)) (drop header_size b)

-- messages: what they mean, why bytes mean none, and what a reader returns
abbrev pub message : Grammar (List ℕ) LinkMessage
message = record { means = Means; bad = FirstFault; reads = read_message }

-- the canonical encoding: the header, and the canonical encoding of each attribute
abbrev pub message_text : LinkMessage → List ℕ
message_text m = header_bytes m.header ++ canons attribute_frame m.attributes

-- each attribute fits, and the text has a length that the machine can count
abbrev pub MessageFits : LinkMessage → Type 0
MessageFits m = AllByRecursion AttributeFits m.attributes × (length (message_text m) < 2 ^ 64)

-- no attribute is an empty list of ports
abbrev pub NoEmptyPorts : LinkMessage → Type 0
NoEmptyPorts m = AllByRecursion NotEmptyPorts m.attributes

-- some bytes mean it
abbrev pub Meant : LinkMessage → Type 0
Meant m = (b : List ℕ) × Means b m

-- how many attributes there are, at all levels
abbrev pub message_count : LinkMessage → ℕ
message_count m = total attribute_count m.attributes

-- b means no message
abbrev pub MeansNothing : List ℕ → Type 0
MeansNothing b = (m : LinkMessage) → Means b m → ⊥

-- how a message is bounded by the bytes that it was read from: four bytes at least for each attribute at any level,
-- canonical attributes at most `growth_per_byte` times as long, and it fits where there were at most `small_enough`
-- bytes of attributes
pub record IsBounded (b : List ℕ) (m : LinkMessage) : Type 0 where
  pub few : 4 * message_count m ≤ length b - header_size
  pub short : length (message_text m) ≤ header_size + growth_per_byte * (length b - header_size)
  pub small : length b ≤ header_size + small_enough → MessageFits m
