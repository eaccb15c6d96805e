-- How long the settings are, in sets for `using`.
use Rattle.link_recs.proofs.InetDevConfLemmas.{length_inet_dev_conf_bytes}
use Rattle.link_recs.proofs.Inet6DevConfLemmas.{length_inet6_dev_conf_bytes}
use Rattle.link_recs.proofs.Inet6StatsLemmas.{length_inet6_stats_bytes}
use Rattle.link_recs.proofs.Icmp6StatsLemmas.{length_icmp6_stats_bytes}
use Rattle.link_recs.proofs.Inet6CacheInfoLemmas.{length_inet6_cache_info_bytes}
use Rattle.link_afspec.proofs.Requests.{request_short}

pub ruleset inet_lengths = (length_inet_dev_conf_bytes, request_short)

pub ruleset inet6_lengths =
    (length_inet6_dev_conf_bytes, length_inet6_stats_bytes, length_icmp6_stats_bytes, length_inet6_cache_info_bytes)
