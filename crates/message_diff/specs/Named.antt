-- The name of the interface that a list of attributes is of, by its frames: those with the number of a name are read,
-- and the last that is not refused has it.
use Rattle.std.specs.Prelude.{◌≡◌, ◌≤◌, ℕ, ◌==◌, List, [], Option, None, Result, Ok, Err, cond, drop, length, nat_lt}
use Rattle.std.specs.Prelude.{take}
use Rattle.std.specs.List.{fold}
use Rattle.nla_wire.specs.Frames.{number}
use Rattle.nla_wire.specs.Items.{Item, items}
use Rattle.nla_wire.specs.declared.error.Cause.{Cause}
use Rattle.link_vals.specs.declared.address_family.AddressFamily.{AddressFamily}
use Rattle.link_msg.specs.Header.{header_of, header_size}
use Rattle.link_msg.specs.Tables.{attribute_place}
use Rattle.link_msg.specs.declared.attribute.LinkAttribute.{LinkAttribute}
use Rattle.link_msg.specs.declared.numbers.TheConstants.{IFLA_IFNAME}
use Rattle.shown.specs.Drafts.{Members}
use Rattle.message_diff.specs.Alone.{interface_members, name_or}

abbrev pub name_read : Option (List ℕ) → Result LinkAttribute Cause → Option (List ℕ)
name_read last (Ok v) = name_or last v
name_read last (Err c) = last

abbrev pub name_after : AddressFamily → Option (List ℕ) → Item → Option (List ℕ)
name_after family last (Ok f) =
    cond (number f == IFLA_IFNAME) (name_read last ((attribute_place family).reads f)) last
name_after family last (Err c) = last

abbrev pub name_in : AddressFamily → List ℕ → Option (List ℕ)
name_in family bytes = fold (name_after family) None (items bytes)

-- a message with a header has this family, and these bytes of attributes
pub record IsSplit (text : List ℕ) (family : AddressFamily) (attributes : List ℕ) : Type 0 where
  pub long : header_size ≤ length text
  pub family_is : family ≡ (header_of (take header_size text)).interface_family
  pub behind : attributes ≡ drop header_size text

-- which interface an encoding is of, by its header and the last name among its attributes; one without a header is of
-- none
unfoldable pub head_of : List ℕ → Members
head_of text = let family = (header_of (take header_size text)).interface_family in
    cond (nat_lt (length text) header_size) []
    (interface_members family (name_in family (drop header_size text)) text)
