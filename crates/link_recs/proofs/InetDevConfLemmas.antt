-- The laws of InetDevConf that other crates cite.
use Rattle.std.proofs.Common.{◌≡◌, length}
use Rattle.link_recs.specs.InetDevConfFields.{inet_dev_conf_size, inet_dev_conf_bytes, inet_dev_conf_laws}
use Rattle.link_recs.specs.declared.inet.InetDevConf.{InetDevConf}

pub length_inet_dev_conf_bytes : (v : InetDevConf) → length (inet_dev_conf_bytes v) ≡ inet_dev_conf_size
length_inet_dev_conf_bytes = inet_dev_conf_laws.size_is
