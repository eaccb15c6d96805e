-- The laws of Inet6CacheInfo that other crates cite.
use Rattle.std.proofs.Common.{◌≡◌, length}
use Rattle.link_recs.specs.Inet6CacheInfoFields.{inet6_cache_info_size, inet6_cache_info_bytes, inet6_cache_info_laws}
use Rattle.link_recs.specs.declared.inet6_cache.Inet6CacheInfo.{Inet6CacheInfo}

pub length_inet6_cache_info_bytes : (v : Inet6CacheInfo) → length (inet6_cache_info_bytes v) ≡ inet6_cache_info_size
length_inet6_cache_info_bytes = inet6_cache_info_laws.size_is
