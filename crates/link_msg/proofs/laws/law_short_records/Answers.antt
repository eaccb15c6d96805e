use Rattle.link_msg.proofs.LawProofs.{stats_zeros_added, stats_longer_ignored, stats64_zeros_added}
use Rattle.link_msg.proofs.LawProofs.{stats64_longer_ignored, map_longer_ignored}
use Rattle.link_msg.proofs.laws.law_short_records.Goals as goal

pub returns-clause-stats_zeros : goal.returns-clause-stats_zeros
returns-clause-stats_zeros c = stats_zeros_added

pub returns-clause-stats_longer : goal.returns-clause-stats_longer
returns-clause-stats_longer c = stats_longer_ignored

pub returns-clause-stats64_zeros : goal.returns-clause-stats64_zeros
returns-clause-stats64_zeros c = stats64_zeros_added

pub returns-clause-stats64_longer : goal.returns-clause-stats64_longer
returns-clause-stats64_longer c = stats64_longer_ignored

pub returns-clause-map_longer : goal.returns-clause-map_longer
returns-clause-map_longer c = map_longer_ignored
