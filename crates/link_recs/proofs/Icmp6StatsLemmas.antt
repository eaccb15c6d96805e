-- The laws of Icmp6Stats that other crates cite.
use Rattle.std.proofs.Common.{◌≡◌, length}
use Rattle.link_recs.specs.Icmp6StatsFields.{icmp6_stats_size, icmp6_stats_bytes, icmp6_stats_laws}
use Rattle.link_recs.specs.declared.inet6_icmp.Icmp6Stats.{Icmp6Stats}

pub length_icmp6_stats_bytes : (v : Icmp6Stats) → length (icmp6_stats_bytes v) ≡ icmp6_stats_size
length_icmp6_stats_bytes = icmp6_stats_laws.size_is
