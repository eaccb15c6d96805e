-- Physical ids: what a payload means, and the bytes that are written.
use Rattle.std.specs.Prelude.{ℕ, List, length, take, min}
use Rattle.nla_wire.specs.Fields.{zero_filled}
use Rattle.link_vals.specs.declared.phys_id.LinkPhysId.{LinkPhysId}

-- the first 32 bytes of a payload, with zeros after them, and how many of them it has
unfoldable pub phys_id_of : List ℕ → LinkPhysId
phys_id_of payload = record { id = zero_filled 32 payload; len = min (length payload) 32 }

-- the bytes of an id
abbrev pub phys_id_bytes : LinkPhysId → List ℕ
phys_id_bytes v = take v.len v.id
