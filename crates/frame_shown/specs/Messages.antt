-- What a message is shown as.
use Rattle.std.specs.Prelude.{ℕ, ◌==◌, List, [], ◌∷◌, ◌++◌, codes, cond, drop, length, map, slice_index}
use Rattle.std.specs.Int.{w16, w32}
use Rattle.std.specs.Fmt.{signed_decimal}
use Rattle.json.specs.Token.{number as number_token}
use Rattle.nla_wire.specs.Fields.{number_at, signed_at}
use Rattle.nla_wire.specs.Frames.{Frame, number}
use Rattle.nla_wire.specs.Items.{items}
use Rattle.link_info.specs.Tables.{frames_in}
use Rattle.shown.specs.Drafts.{Members}
use Rattle.shown.specs.Values.{BitNames, numbered, flags_of}
use Rattle.frame_shown.specs.Items.{members_of}
use Rattle.frame_shown.specs.Frames.{items_in, levels}
use Rattle.frame_shown.specs.Tables.{lists_in}
use Rattle.frame_shown.specs.declared.form.Around.{Around}
use Rattle.frame_shown.specs.declared.form.List.TheVariants as Shapes
use Rattle.frame_shown.specs.declared.tables.names.TheConstants.{LINK_FLAGS}

unfoldable pub link_flag_names : BitNames
link_flag_names = map (λ row. (row.0, row.1.now)) LINK_FLAGS

-- what the header says after its family
abbrev pub rest_members : List ℕ → Members
rest_members bytes =
    numbered (codes "ifi-type") (number_at w16 bytes 2)
    ∷ (codes "ifi-index", number_token (signed_decimal (signed_at w32 bytes 4)) ∷ [])
    ∷ (codes "ifi-flags", flags_of link_flag_names (number_at w32 bytes 8))
    ∷ numbered (codes "ifi-change") (number_at w32 bytes 12)
    ∷ []

abbrev pub header_members : List ℕ → Members
header_members bytes = numbered (codes "ifi-family") (slice_index bytes 0) ∷ rest_members bytes

-- how many bytes the first address has; 0 where there is none
abbrev pub address_len : List Frame → ℕ
address_len [] = 0
address_len (f ∷ fs) = cond (number f == 1) (length f.payload) (address_len fs)

abbrev pub with_address_len : Around → ℕ → Around
with_address_len cx len =
    record { tables = cx.tables; can_stats = cx.can_stats; order = cx.order; address_len = len }

-- the attributes by their rows, of a message of this family
unfoldable pub frames_shown : Around → ℕ → List ℕ → Members
frames_shown cx family bytes = members_of (lists_in cx (Shapes.Message family))
    (items_in (levels 5 cx) cx (Shapes.Message family) (items bytes))

abbrev pub attribute_members : Around → ℕ → List ℕ → Members
attribute_members cx family bytes =
    frames_shown (with_address_len cx (address_len (frames_in (items bytes)))) family bytes

abbrev pub message_members : Around → List ℕ → Members
message_members cx bytes = header_members bytes ++ attribute_members cx (slice_index bytes 0) (drop 16 bytes)
