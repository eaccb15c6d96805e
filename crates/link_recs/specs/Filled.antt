-- How long the records are that are filled up with zeros. The bound on canonical encoding is counted from the longest.
use Rattle.std.specs.Prelude.{◌≡◌, ◌≤◌, ℕ, List, [], ◌∷◌}
use Rattle.std.specs.List.{AllByRecursion}
use Rattle.nla_wire.specs.Sizes.{longest_filled}
use Rattle.link_recs.specs.StatsFields.{stats_size}
use Rattle.link_recs.specs.Stats64Fields.{stats64_size}
use Rattle.link_recs.specs.InetDevConfFields.{inet_dev_conf_size}
use Rattle.link_recs.specs.Inet6DevConfFields.{inet6_dev_conf_size}
use Rattle.link_recs.specs.Inet6StatsFields.{inet6_stats_size}
use Rattle.link_recs.specs.Icmp6StatsFields.{icmp6_stats_size}

-- how many bytes each of them has
abbrev pub filled_sizes : List ℕ
filled_sizes =
    stats_size ∷ stats64_size ∷ inet_dev_conf_size ∷ inet6_dev_conf_size ∷ inet6_stats_size ∷ icmp6_stats_size ∷ []

abbrev pub NoneIsLonger : Type 0
NoneIsLonger = AllByRecursion (λ size. size ≤ longest_filled) filled_sizes

-- the counters of IPv6 are just as long
abbrev pub OneIsAsLong : Type 0
OneIsAsLong = inet6_stats_size ≡ longest_filled
