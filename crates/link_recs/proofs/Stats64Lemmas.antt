-- The laws of Stats64 that other crates cite.
use Rattle.std.proofs.Common.{◌≡◌, length}
use Rattle.nla_wire.specs.Records.{ZerosAfter, BytesAfter}
use Rattle.link_recs.specs.Stats64Fields.{stats64_size, stats64_of, stats64_bytes, stats64_laws}
use Rattle.link_recs.specs.declared.stats64.Stats64.{Stats64}

pub stats64_zeros : ZerosAfter stats64_of
stats64_zeros = stats64_laws.laws.zeros

pub stats64_longer : BytesAfter stats64_size stats64_of
stats64_longer = stats64_laws.laws.longer

pub length_stats64_bytes : (v : Stats64) → length (stats64_bytes v) ≡ stats64_size
length_stats64_bytes = stats64_laws.size_is
