-- How long the records are that stand in an attribute of a link, as a set for `using`.
use Rattle.link_recs.proofs.StatsLemmas.{length_stats_bytes}
use Rattle.link_recs.proofs.Stats64Lemmas.{length_stats64_bytes}
use Rattle.link_recs.proofs.MapLemmas.{length_map_bytes}

pub ruleset record_lengths = (length_stats_bytes, length_stats64_bytes, length_map_bytes)
