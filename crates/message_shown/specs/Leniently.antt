-- The answer to bytes of which some attributes are refused: the others as ever, and those last.
use Rattle.std.specs.Prelude.{◌≡◌, ◌⊎◌, ℕ, List, [], ◌∷◌, ◌++◌, codes, drop, map, Option, None, Some, Result, Ok, Err}
use Rattle.std.specs.Prelude.{Bool, MatchBool, bit_and, get_or}
use Rattle.std.specs.List.{AllZip, flat_map}
use Rattle.hex.specs.Hex.{encode_lower}
use Rattle.json.specs.Token.{Token, string}
use Rattle.shown.specs.Print.{print}
use Rattle.nla_wire.specs.Frames.{Frame}
use Rattle.nla_wire.specs.Items.{Item, items}
use Rattle.nla_wire.specs.declared.error.Cause.{Cause}
use Rattle.link_vals.specs.declared.address_family.AddressFamily.{AddressFamily}
use Rattle.link_msg.specs.FaultPath.{numbers_to}
use Rattle.link_msg.specs.Header.{header_size}
use Rattle.link_msg.specs.Lenient.{MeansLeniently, MeansNoneLeniently}
use Rattle.link_msg.specs.Messages.{FirstFault, MeansNothing}
use Rattle.link_msg.specs.Tables.{attribute_place}
use Rattle.link_msg.specs.Told.{Told, told_all, told_of, LeadsThere}
use Rattle.link_msg.specs.declared.attribute.LinkAttribute.{LinkAttribute}
use Rattle.link_msg.specs.declared.attribute.LinkAttribute.TheVariants as Attributes
use Rattle.link_msg.specs.declared.fault_path.FaultPath.{FaultPath}
use Rattle.link_msg.specs.declared.message.LinkMessage.{LinkMessage}
use Rattle.line_filter.specs.Lines.{with_lf}
use Rattle.shown.specs.Drafts.{Draft, Members, list_of, object_of, with_members, with_value}
use Rattle.shown.specs.Pages.{IsObject}
use Rattle.shown.specs.Values.{numbered}
use Rattle.frame_shown.specs.Accepted.{lenient_members}
use Rattle.frame_shown.specs.Items.{objects}
use Rattle.frame_shown.specs.declared.tables.link.TheConstants.{MESSAGE}
use Rattle.message_shown.specs.Causes.{cause_members, cause_text}
use Rattle.message_shown.specs.Lines.{TellsMessage, fault_head, message_head}
use Rattle.message_shown.specs.declared.context.Context.{Context}

-- ** the attributes that are accepted

abbrev pub taken : Result LinkAttribute Cause → List LinkAttribute → List LinkAttribute
taken (Ok v) vs = v ∷ vs
taken (Err c) vs = vs

-- what those frames mean that are accepted
abbrev pub accepted : AddressFamily → List Item → List LinkAttribute
accepted family [] = []
accepted family ((Ok f) ∷ xs) = taken ((attribute_place family).reads f) (accepted family xs)
accepted family ((Err c) ∷ xs) = []

-- a message that b means leniently, without the attributes that are refused
abbrev pub accepted_part : List ℕ → LinkMessage → LinkMessage
accepted_part b m = record {
  header = m.header;
  attributes = accepted m.header.interface_family (items (drop header_size b));
}

-- whether they are a header and frames that fit, and so mean a message leniently
abbrev pub Fits : List ℕ → Bool → Type 0
Fits b fits = MatchBool fits ((m : LinkMessage) × MeansLeniently b m) (MeansNoneLeniently b)

-- ** the attributes that are refused

-- the name of a kind, by its number, which is without its two flags
abbrev pub name_of : ℕ → List ℕ
name_of kind = get_or (map (λ row. row.0.now) MESSAGE) (bit_and kind 0x3fff) []

-- the name of the attribute, where the fault is in one that is inside of it
abbrev pub holder_members : List ℕ → ℕ → Members
holder_members [] kind = []
holder_members (n ∷ []) kind = []
holder_members (n ∷ inner ∷ more) kind = (codes "in", string (name_of kind) ∷ []) ∷ []

abbrev pub frame_told : List ℕ → Option Frame → Members
frame_told numbers None = []
frame_told numbers (Some f) =
    holder_members numbers f.kind ++ (codes "payload", string (encode_lower f.payload) ∷ []) ∷ []

-- the innermost attribute at fault by its name, why it is refused and where it is, and the payload of the outermost one
abbrev pub refusal_members : List ℕ → FaultPath → Told → Members
refusal_members place path t =
    (codes "at", string place ∷ [])
    ∷ (codes "fault", string (cause_text t.cause) ∷ [])
    ∷ cause_members t.cause
    ++ numbered (codes "offset") path.offset
    ∷ frame_told (numbers_to path) t.frame

-- these are its members, with some name
abbrev pub IsTold : Told → Members → Type 0
IsTold t ms = (place : List ℕ) × (path : FaultPath) × LeadsThere t path × (ms ≡ refusal_members place path t)

-- and of each of them, in order
abbrev pub AreTold : List Told → List Members → Type 0
AreTold ts told = AllZip IsTold ts told

-- ** answers

-- the attributes that are refused, as a list
abbrev pub refused_member : List Members → List ℕ × List Token
refused_member told = (codes "refused", list_of (flat_map (λ v. v) (map object_of told)))

-- the answer to bytes that mean a message leniently, of which these attributes are refused
unfoldable pub lenient_line : Members → Context → List ℕ → List Members → List ℕ
lenient_line words cx bytes told =
    print (object_of (words ++ (lenient_members cx.around bytes ++ refused_member told ∷ [])))

-- each attribute that is refused was told, behind all that are accepted
abbrev pub TellsRefused : Members → Context → List ℕ → List ℕ → List ℕ → Type 0
TellsRefused words cx bytes old new = (m : LinkMessage) → MeansLeniently bytes m → MeansNothing bytes
    → (told : List Members) × AreTold (told_all bytes) told
    × (new ≡ old ++ with_lf (lenient_line words cx bytes told))

-- what the bytes mean was told as ever; and what they mean leniently alone, with the attributes that are refused
abbrev pub TellsLeniently : Members → Context → List ℕ → List ℕ → List ℕ → Type 0
TellsLeniently words cx bytes old new = TellsMessage words cx bytes old new × TellsRefused words cx bytes old new

-- what a line is answered that is read leniently
pub data IsLenientAnswerTo (words : Members) (bytes answer : List ℕ) : Type 0 where
  fault : (c : Cause) → FirstFault bytes c → MeansNoneLeniently bytes → IsObject (fault_head words c) answer
      → IsLenientAnswerTo words bytes answer
  message : (m : LinkMessage) → MeansLeniently bytes m → IsObject (message_head words m) answer
      → IsLenientAnswerTo words bytes answer

-- ** nothing is left out

-- each of the attributes is the next one that is accepted, or what is kept of the next one that is refused
abbrev pub IsSplit : AddressFamily → List LinkAttribute → List LinkAttribute → List Told → Type 0
IsSplit family [] vs ts = (vs ≡ []) × (ts ≡ [])
IsSplit family (v ∷ all) vs ts =
    ((more : List LinkAttribute) × (vs ≡ v ∷ more) × IsSplit family all more ts)
    ⊎ ((f : Frame) × (at : ℕ) × (c : Cause) × (more : List Told) × (v ≡ Attributes.Other f)
    × (ts ≡ told_of family at (Some f) c ∷ more) × IsSplit family all vs more)

-- of a message that is read leniently each attribute is shown, or told under `refused`
abbrev pub EachIsTold : Type 0
EachIsTold = (b : List ℕ) (m : LinkMessage) → MeansLeniently b m
    → IsSplit m.header.interface_family m.attributes (accepted_part b m).attributes (told_all b)

-- ** for the calls that add to a page

-- an attribute that is refused was added to a list
abbrev pub AddsOne : Told → Draft → Draft → Type 0
AddsOne t old new = (ms : Members) × IsTold t ms × (new ≡ with_value [] (object_of ms) old)

-- all of them were
abbrev pub AddsTold : List Told → Draft → Draft → Type 0
AddsTold ts old new = (told : List Members) × AreTold ts told × (new ≡ with_members (objects told) old)

-- they were added as a list
abbrev pub AddsList : List Told → Draft → Draft → Type 0
AddsList ts old new =
    (told : List Members) × AreTold ts told × (new ≡ with_members (refused_member told ∷ []) old)
