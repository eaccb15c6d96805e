-- What values that hold no others are shown as, and attributes that are kept as they are.
use Rattle.std.specs.Prelude.{◌≡◌, ℕ, zero, suc, List, [], ◌∷◌, Bool, Option, None, Some, bit_and}
use Rattle.std.specs.Global.{Vec}
use Rattle.std.specs.Prelude.{decimal}
use Rattle.std.specs.List.{flat_map}
use Rattle.json.specs.Token.{Token, number as number_token, string}
use Rattle.nla_wire.specs.Frames.{Frame, number}
use Rattle.nla_wire.specs.Items.{items}
use Rattle.link_info.specs.Tables.{frames_in}
use Rattle.shown.specs.Drafts.{Members, list_of, object_of}
use Rattle.shown.specs.Values.{flags_of}
use Rattle.frame_shown.specs.Frames.{items_in, way_shown}
use Rattle.frame_shown.specs.Items.{named_ones, values_of, values_with}
use Rattle.frame_shown.specs.Kept.{frame_flags, frame_members}
use Rattle.frame_shown.specs.Messages.{link_flag_names}
use Rattle.frame_shown.specs.Tables.{entry_list, row_in}
use Rattle.frame_shown.specs.Values.{Nesting, field_shown, hexadecimal, number_tokens, signed_value, spelled}
use Rattle.frame_shown.specs.declared.form.Around.{Around}
use Rattle.frame_shown.specs.declared.form.Group.{Group}
use Rattle.frame_shown.specs.declared.form.List.{List as Shape}
use Rattle.frame_diff.specs.Counters.{is_passed}
use Rattle.frame_diff.specs.Forests.{Forest, Held}
use Rattle.frame_diff.specs.Labels.{keyed}
use Rattle.frame_diff.specs.Members.{as_object, kept_by, numbers_by}
use Rattle.frame_diff.specs.Vlans.{flags_shown, run_shown}
use Rattle.frame_diff.specs.declared.kept.Entry.{Entry}
use Rattle.frame_diff.specs.declared.kept.Entry.TheVariants as Entries
use Rattle.frame_diff.specs.declared.kept.Kept.{Kept}
use Rattle.frame_diff.specs.declared.keyed.Labelled.{Labelled}
use Rattle.frame_diff.specs.declared.keys.Key.TheVariants as Keys
use Rattle.frame_diff.specs.declared.leaf.Value.{Value}
use Rattle.frame_diff.specs.declared.leaf.Value.TheVariants as Values
use Rattle.frame_diff.specs.declared.walk.Attributes.{Attributes}

-- the values of the attributes of a list that have a name
abbrev pub listed_shown : Nesting → Around → Shape → List ℕ → List Token
listed_shown nest cx list p = list_of (flat_map values_of (named_ones (items_in nest cx list (items p))))

-- the values of the list of a number
abbrev pub array_shown : Nesting → Around → Shape → ℕ → List ℕ → List Token
array_shown nest cx list n p = list_of (flat_map (λ tokens. tokens) (values_with n (items_in nest cx list (items p))))

-- entries of a group
abbrev pub entries_shown : Nesting → Group → List (Vec ℕ) → List Token
entries_shown nest group es = list_of (flat_map (λ (e : Vec ℕ). nest (entry_list group) e.items) es)

-- attributes that are kept as they are, but for those that are passed over
abbrev pub other_shown : Option Kept → List Token
other_shown None = []
other_shown (Some k) = object_of (frame_members k.name.now k.kind k.payload.now)

abbrev pub others_shown : List (Labelled (Option Kept)) → List Token
others_shown ks = list_of (flat_map (λ (k : Labelled (Option Kept)). other_shown k.value) ks)

abbrev pub value_shown : Nesting → Around → Value → List Token
value_shown nest cx (Values.Payload way payload) = way_shown nest cx way payload.now
value_shown nest cx (Values.Number kind) = number_token (decimal (bit_and kind 0x3fff)) ∷ []
value_shown nest cx (Values.Name name) = string name.now ∷ []
value_shown nest cx (Values.Flags kind) = flags_of frame_flags (bit_and kind 0xc000)
value_shown nest cx (Values.Unsigned n) = number_tokens n
value_shown nest cx (Values.Signed z) = signed_value z
value_shown nest cx (Values.Spelled plain bytes) = spelled plain bytes.now
value_shown nest cx (Values.Field field bytes place) = field_shown cx field bytes.now place
value_shown nest cx (Values.Octets bytes) = hexadecimal bytes.now
value_shown nest cx (Values.LinkFlags bits) = flags_of link_flag_names bits
value_shown nest cx (Values.VlanFlags bits) = flags_shown bits
value_shown nest cx (Values.Vlans run) = run_shown run
value_shown nest cx (Values.Listed list p) = listed_shown nest cx list p.now
value_shown nest cx (Values.Array list n p) = array_shown nest cx list n p.now
value_shown nest cx (Values.Entries group es) = entries_shown nest group es.now
value_shown nest cx (Values.Others ks) = others_shown ks.now
value_shown nest cx (Values.Kept name kind p) = object_of (frame_members name.now kind p.now)

-- two values are shown as the same, whatever they are shown by
abbrev pub AreShownAlike : Value → Value → Type 0
AreShownAlike v w = (nest other : Nesting) (cx theirs : Around) → value_shown nest cx v ≡ value_shown other theirs w

-- ** an attribute that is kept as it is

abbrev pub kept_members : Kept → Members
kept_members k = frame_members k.name.now k.kind k.payload.now

-- another one says the same
abbrev pub IsSameKept : Kept → Kept → Type 0
IsSameKept own k = (k.kind ≡ own.kind) × (own.name.now ≡ k.name.now) × (own.payload.now ≡ k.payload.now)

-- ** the list of those that are kept

-- what an attribute is in it
abbrev pub entry_held : Entry → List (Option Held)
entry_held Entries.Named = []
entry_held Entries.Passed = None ∷ []
entry_held (Entries.Kept k) = Some (as_object (kept_members k)) ∷ []

-- one of them, unless it is passed over
abbrev pub kept_held : Option Kept → Option Held
kept_held None = None
kept_held (Some k) = Some (as_object (kept_members k))

abbrev pub kept_one : Bool → Around → Shape → Frame → List (Option Held)
kept_one is_state cx list f = kept_by (is_passed is_state list (number f)) cx (row_in cx list (number f)) f

abbrev pub kept_among : Bool → Around → Shape → List Frame → List (Option Held)
kept_among is_state cx list fs = flat_map (kept_one is_state cx list) fs

abbrev pub kept_at : Bool → Attributes → List (Option Held)
kept_at is_state list = kept_among is_state list.around.now list.list (frames_in (items list.bytes.now))

-- the number of each
abbrev pub numbers_among : Bool → Around → Shape → List Frame → List (Option ℕ)
numbers_among is_state cx list fs = numbers_by (λ f. Some (number f)) (kept_one is_state cx list) fs

abbrev pub kept_numbers : Bool → Attributes → List (Option ℕ)
kept_numbers is_state list = numbers_among is_state list.around.now list.list (frames_in (items list.bytes.now))

-- each by its number
abbrev pub kept_inside_at : Bool → Attributes → Forest
kept_inside_at is_state list = keyed Keys.Number (kept_numbers is_state list) (kept_at is_state list)

-- the one at a place
abbrev pub nth : ℕ → List (Option Held) → Option Held
nth n [] = None
nth zero (h ∷ hs) = h
nth (suc n) (h ∷ hs) = nth n hs
