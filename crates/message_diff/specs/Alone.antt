-- A line that tells of an interface, and not of what changed of it.
use Rattle.std.specs.Prelude.{◌≡◌, ◌<◌, ℕ, List, [], ◌∷◌, ◌++◌, Option, None, Some, codes, length, map}
use Rattle.std.specs.List.{flat_map, fold}
use Rattle.json.specs.Token.{Token, string}
use Rattle.shown.specs.Print.{print}
use Rattle.std.specs.Int.{w32}
use Rattle.nla_wire.specs.Fields.{signed_at}
use Rattle.link_vals.specs.AddressFamilyTable.{address_family_number}
use Rattle.link_vals.specs.declared.address_family.AddressFamily.{AddressFamily}
use Rattle.link_msg.specs.Lenient.{MeansLeniently}
use Rattle.link_msg.specs.declared.message.LinkMessage.{LinkMessage}
use Rattle.link_msg.specs.declared.attribute.LinkAttribute.{LinkAttribute}
use Rattle.link_msg.specs.declared.attribute.LinkAttribute.TheVariants as Attributes
use Rattle.line_filter.specs.Lines.{with_lf}
use Rattle.line_filter.specs.Words.{value_in, words_of}
use Rattle.shown.specs.Drafts.{Members, object_of}
use Rattle.shown.specs.Values.{numbered}
use Rattle.message_shown.specs.Counters.{signed}
use Rattle.message_shown.specs.WordKeys.{answer_keys}
use Rattle.message_shown.specs.Worded.{word_text, AreNew}

-- the words that are told, as texts under their keys
abbrev pub word_member : List ℕ → Option (List ℕ) → Members
word_member name None = []
word_member name (Some value) = (name, string (word_text value) ∷ []) ∷ []

abbrev pub told_words : List ℕ → Members
told_words front =
    flat_map (λ name. word_member name (value_in name (words_of front)))
    (codes "type" ∷ codes "time" ∷ codes "host" ∷ [])

-- no word that is told has the key of another member of its line, or of an answer that is a fault
abbrev pub ToldAreApart : Type 0
ToldAreApart = (front : List ℕ)
    → AreNew (codes "change" ∷ codes "changes" ∷ answer_keys) (map (λ m. m.0) (told_words front))

-- what became of the interface
abbrev pub change_member : List ℕ → List ℕ × List Token
change_member change = (codes "change", string change ∷ [])

-- the last name among attributes
abbrev pub name_or : Option (List ℕ) → LinkAttribute → Option (List ℕ)
name_or last (Attributes.IfName name) = Some name
name_or last _ = last

abbrev pub last_name : List LinkAttribute → Option (List ℕ)
last_name attributes = fold name_or None attributes

abbrev pub name_members : Option (List ℕ) → Members
name_members None = []
name_members (Some name) = (codes "ifname", string name ∷ []) ∷ []

-- which interface it is: its family, its index and its name
abbrev pub interface_members : AddressFamily → Option (List ℕ) → List ℕ → Members
interface_members family name bytes =
    numbered (codes "ifi-family") (address_family_number family)
    ∷ signed (codes "ifi-index") (signed_at w32 bytes 4)
    ∷ name_members name

-- that of the message that has these bytes
abbrev pub head_in : List ℕ → LinkMessage → Members
head_in bytes m = interface_members m.header.interface_family (last_name m.attributes) bytes

-- the words that are told, what became of the interface, and which it is
unfoldable pub interface_line : List ℕ → List ℕ → Members → List ℕ
interface_line front change head = with_lf (print (object_of (told_words front ++ change_member change ∷ head)))

abbrev pub alone_line : List ℕ → List ℕ → List ℕ → LinkMessage → List ℕ
alone_line front change bytes m = interface_line front change (head_in bytes m)

-- the line that tells that this became of the interface whose encoding this is
pub record IsAlone (front change text line : List ℕ) : Type 0 where
  pub some : 0 < length line
  pub told : (m : LinkMessage) → MeansLeniently text m → line ≡ alone_line front change text m

-- it was added
abbrev pub AddsAlone : List ℕ → List ℕ → List ℕ → List ℕ → List ℕ → Type 0
AddsAlone front change text old new = (line : List ℕ) × IsAlone front change text line × (new ≡ old ++ line)

-- a line with one member beside its words
unfoldable pub member_line : List ℕ → List ℕ → List ℕ → List ℕ
member_line front name value = with_lf (print (object_of (told_words front ++ (name, string value ∷ []) ∷ [])))
