use Rattle.link_recs.specs.InetDevConfFields.{inet_dev_conf_laws}
use Rattle.link_recs.specs.Inet6DevConfFields.{inet6_dev_conf_laws}
use Rattle.link_recs.specs.Inet6StatsFields.{inet6_stats_laws}
use Rattle.link_recs.specs.Inet6CacheInfoFields.{inet6_cache_info_laws}
use Rattle.link_recs.specs.Icmp6StatsFields.{icmp6_stats_laws}
use Rattle.link_afspec.specs.Tables.{af_spec_inet_place, af_spec_inet6_place}
use Rattle.link_afspec.specs.declared.inet.AfSpecInet.TheVariants as inet
use Rattle.link_afspec.specs.declared.inet6.AfSpecInet6.TheVariants as inet6
use Rattle.link_afspec.proofs.Lawed.{filled_zeros, filled_longer, sized_longer}
use Rattle.link_afspec.proofs.laws.law_short_records.Goals as goal

pub returns-clause-inet_zeros : goal.returns-clause-inet_zeros
unfolding af_spec_inet_place
returns-clause-inet_zeros c kind p zeros v is = rw is (filled_zeros inet.DevConf inet_dev_conf_laws.laws p zeros v)

pub returns-clause-inet_longer : goal.returns-clause-inet_longer
unfolding af_spec_inet_place
returns-clause-inet_longer c kind p more v is long =
    rw is (filled_longer inet.DevConf inet_dev_conf_laws.laws p more long v)

pub returns-clause-inet6_zeros : goal.returns-clause-inet6_zeros
unfolding af_spec_inet6_place
returns-clause-inet6_zeros c kind p zeros v is = rw is (filled_zeros inet6.DevConf inet6_dev_conf_laws.laws p zeros v)

pub returns-clause-inet6_longer : goal.returns-clause-inet6_longer
unfolding af_spec_inet6_place
returns-clause-inet6_longer c kind p more v is long =
    rw is (filled_longer inet6.DevConf inet6_dev_conf_laws.laws p more long v)

pub returns-clause-stats_zeros : goal.returns-clause-stats_zeros
unfolding af_spec_inet6_place
returns-clause-stats_zeros c kind p zeros v is = rw is (filled_zeros inet6.Stats inet6_stats_laws.laws p zeros v)

pub returns-clause-stats_longer : goal.returns-clause-stats_longer
unfolding af_spec_inet6_place
returns-clause-stats_longer c kind p more v is long =
    rw is (filled_longer inet6.Stats inet6_stats_laws.laws p more long v)

pub returns-clause-cache_longer : goal.returns-clause-cache_longer
unfolding af_spec_inet6_place
returns-clause-cache_longer c kind p more v is long =
    rw is (sized_longer inet6.CacheInfo inet6_cache_info_laws.laws p more long v)

pub returns-clause-icmp_zeros : goal.returns-clause-icmp_zeros
unfolding af_spec_inet6_place
returns-clause-icmp_zeros c kind p zeros v is = rw is (filled_zeros inet6.Icmp6Stats icmp6_stats_laws.laws p zeros v)

pub returns-clause-icmp_longer : goal.returns-clause-icmp_longer
unfolding af_spec_inet6_place
returns-clause-icmp_longer c kind p more v is long =
    rw is (filled_longer inet6.Icmp6Stats icmp6_stats_laws.laws p more long v)
