-- The laws of Map that its function and other crates cite.
use Rattle.std.proofs.Common.{◌≡◌, length, refl}
use Rattle.std.specs.Int.{w16, w64}
use Rattle.nla_wire.specs.Fields.{number_at}
use Rattle.nla_wire.specs.Records.{BytesAfter}
use Rattle.nla_wire.proofs.FieldLemmas.{from_le_bytes-to_le_bytes}
use Rattle.link_recs.specs.declared.map.Map.{Map}
use Rattle.link_recs.specs.MapFields.{map_size, map_of, map_bytes, map_laws, MapFits}

pub map_written : (v : Map) → MapFits v → map_of (map_bytes v) ≡ v
unfolding map_of map_bytes number_at
map_written v fits = λ i. record {
  memory_start = from_le_bytes-to_le_bytes w64 v.memory_start fits.memory_start i;
  memory_end = from_le_bytes-to_le_bytes w64 v.memory_end fits.memory_end i;
  base_address = from_le_bytes-to_le_bytes w64 v.base_address fits.base_address i;
  irq = from_le_bytes-to_le_bytes w16 v.irq fits.irq i;
  dma = v.dma;
  port = v.port;
}

pub map_longer : BytesAfter map_size map_of
map_longer = map_laws.longer

pub length_map_bytes : (v : Map) → length (map_bytes v) ≡ map_size
unfolding map_bytes
length_map_bytes v = refl

-- what the law of short and long maps cites
pub ruleset map_lemmas = (map_laws, map_written, length_map_bytes)
