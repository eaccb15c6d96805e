-- The laws of Inet6DevConf that other crates cite.
use Rattle.std.proofs.Common.{◌≡◌, length}
use Rattle.link_recs.specs.Inet6DevConfFields.{inet6_dev_conf_size, inet6_dev_conf_bytes, inet6_dev_conf_laws}
use Rattle.link_recs.specs.declared.inet6_devconf.Inet6DevConf.{Inet6DevConf}

pub length_inet6_dev_conf_bytes : (v : Inet6DevConf) → length (inet6_dev_conf_bytes v) ≡ inet6_dev_conf_size
length_inet6_dev_conf_bytes = inet6_dev_conf_laws.size_is
