-- The attributes that are accepted of bytes that are no message.
use Rattle.std.specs.Prelude.{ℕ, List, [], ◌∷◌, Bool, true, false, Result, Ok, Err}
use Rattle.std.specs.Prelude.{◌++◌, codes, cond, drop, not, slice_index}
use Rattle.std.specs.List.{filter}
use Rattle.std.specs.Int.{w32}
use Rattle.link_info.specs.Tables.{frames_in}
use Rattle.link_msg.specs.Tables.{attribute_place}
use Rattle.link_vals.specs.AddressFamilyTable.{address_family_of}
use Rattle.nla_wire.specs.Canon.{canons}
use Rattle.nla_wire.specs.Fields.{signed_at}
use Rattle.nla_wire.specs.Frames.{Frame}
use Rattle.nla_wire.specs.Items.{items}
use Rattle.shown.specs.Drafts.{Members, object_of}
use Rattle.shown.specs.Values.{numbered}
use Rattle.frame_shown.specs.Messages.{attribute_members, header_members}
use Rattle.frame_shown.specs.Values.{signed_value}
use Rattle.frame_shown.specs.declared.form.Around.{Around}

abbrev pub is_read : {A B : Type 0} → Result A B → Bool
is_read (Ok v) = true
is_read (Err c) = false

-- whether an attribute is accepted in a message of this family
unfoldable pub accepts : ℕ → Frame → Bool
accepts family f = is_read ((attribute_place (address_family_of family)).reads f)

-- all that are accepted, or those in front of the first one that is not
abbrev pub picked : Bool → (Frame → Bool) → List Frame → List Frame
picked is_all test [] = []
picked is_all test (f ∷ fs) =
    cond (test f) (f ∷ picked is_all test fs) (cond is_all (picked is_all test fs) [])

-- they alone, spelled one after the other
abbrev pub accepted : Bool → ℕ → List ℕ → List ℕ
accepted is_all family bytes = canons (λ f. f) (picked is_all (accepts family) (frames_in (items bytes)))

-- those that are not, spelled so
abbrev pub refused : ℕ → List ℕ → List ℕ
refused family bytes = canons (λ f. f) (filter (λ f. not (accepts family f)) (frames_in (items bytes)))

-- what is shown of bytes of which some attributes are refused: the header, and the others
abbrev pub lenient_members : Around → List ℕ → Members
lenient_members cx bytes = let family = slice_index bytes 0 in
    header_members bytes ++ attribute_members cx family (accepted true family (drop 16 bytes))

-- what is shown in front of a fault: family and index, and the attributes in front of the one that is refused
abbrev pub before_members : Around → List ℕ → Members
before_members cx bytes = let family = slice_index bytes 0 in
    numbered (codes "ifi-family") family
    ∷ (codes "ifi-index", signed_value (signed_at w32 bytes 4))
    ∷ (codes "before", object_of (attribute_members cx family (accepted false family (drop 16 bytes))))
    ∷ []
