-- The laws of Stats that other crates cite.
use Rattle.std.proofs.Common.{◌≡◌, length}
use Rattle.nla_wire.specs.Records.{ZerosAfter, BytesAfter}
use Rattle.link_recs.specs.StatsFields.{stats_size, stats_of, stats_bytes, stats_laws}
use Rattle.link_recs.specs.declared.stats.Stats.{Stats}

pub stats_zeros : ZerosAfter stats_of
stats_zeros = stats_laws.laws.zeros

pub stats_longer : BytesAfter stats_size stats_of
stats_longer = stats_laws.laws.longer

pub length_stats_bytes : (v : Stats) → length (stats_bytes v) ≡ stats_size
length_stats_bytes = stats_laws.size_is
