-- Map: its fields at their places, its bytes and its laws.
use Rattle.std.specs.Prelude.{ℕ, ◌^◌, ◌<◌, List, [], ◌∷◌, ◌++◌, slice_index}
use Rattle.std.specs.Int.{w16, w64, to_le_bytes}
use Rattle.std.proofs.Common.{refl}
use Rattle.nla_wire.specs.Fields.{number_at}
use Rattle.nla_wire.specs.Records.{RecordLaws}
use Rattle.nla_wire.proofs.RecordParts.{◌&◌, laws_of, number, byte, padding}
use Rattle.link_recs.specs.declared.map.Map.{Map}
use Rattle.link_recs.specs.declared.map.TheConstants.{MAP_SIZE}

-- how many bytes a record has
abbrev pub map_size : ℕ
map_size = MAP_SIZE

-- what a payload means, with zeros after it. The last four bytes are padding
unfoldable pub map_of : List ℕ → Map
map_of payload = record {
  memory_start = number_at w64 payload 0;
  memory_end = number_at w64 payload 8;
  base_address = number_at w64 payload 16;
  irq = number_at w16 payload 24;
  dma = slice_index payload 26;
  port = slice_index payload 27;
}

-- the bytes of a record
unfoldable pub map_bytes : Map → List ℕ
map_bytes v =
    to_le_bytes w64 v.memory_start ++ to_le_bytes w64 v.memory_end ++ to_le_bytes w64 v.base_address
    ++ to_le_bytes w16 v.irq
    ++ (v.dma ∷ v.port ∷ 0 ∷ 0 ∷ 0 ∷ 0 ∷ [])

-- each field fits its width
pub record MapFits (v : Map) : Type 0 where
  pub memory_start : v.memory_start < 2 ^ 64
  pub memory_end : v.memory_end < 2 ^ 64
  pub base_address : v.base_address < 2 ^ 64
  pub irq : v.irq < 2 ^ 16

pub map_laws : RecordLaws map_size map_of map_bytes
unfolding map_of map_bytes
map_laws = laws_of (number w64 & number w64 & number w64 & number w16 & byte & byte & padding 4)
    (λ v. record {
      memory_start = v.0;
      memory_end = v.1.0;
      base_address = v.1.1.0;
      irq = v.1.1.1.0;
      dma = v.1.1.1.1.0;
      port = v.1.1.1.1.1.0;
    }) map_of map_bytes (λ p. refl) (λ p. refl)
