-- The laws of Inet6Stats that other crates cite.
use Rattle.std.proofs.Common.{◌≡◌, length}
use Rattle.nla_wire.specs.Records.{ZerosAfter, BytesAfter}
use Rattle.link_recs.specs.Inet6StatsFields.{inet6_stats_size, inet6_stats_of, inet6_stats_bytes, inet6_stats_laws}
use Rattle.link_recs.specs.declared.inet6_stats.Inet6Stats.{Inet6Stats}

pub inet6_stats_zeros : ZerosAfter inet6_stats_of
inet6_stats_zeros = inet6_stats_laws.laws.zeros

pub inet6_stats_longer : BytesAfter inet6_stats_size inet6_stats_of
inet6_stats_longer = inet6_stats_laws.laws.longer

pub length_inet6_stats_bytes : (v : Inet6Stats) → length (inet6_stats_bytes v) ≡ inet6_stats_size
length_inet6_stats_bytes = inet6_stats_laws.size_is
