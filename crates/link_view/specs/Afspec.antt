-- What members of the lists of link_afspec stand for over borrowed bytes,
-- made by scripts/erase/borrowed.py of the rows of its enums: do not edit.
use Rattle.std.specs.Prelude.{Result, Ok}
use Rattle.nla_wire.specs.declared.error.Cause.{Cause}
use Rattle.nla_wire.specs.Reading.{◌>>=◌}
use Rattle.nla_wire.specs.Grammar.{list, not_empty}
use Rattle.link_afspec.specs.Tables.{af_spec_mctp_place, af_spec_inet_place, af_spec_inet6_place}
use Rattle.link_afspec.specs.declared.inet.AfSpecInet.{AfSpecInet}
use Rattle.link_afspec.specs.declared.inet.AfSpecInet.TheVariants as AfSpecInetOf
use Rattle.link_view.specs.declared.afspec.af_spec_inet.BorrowedAfSpecInet.{BorrowedAfSpecInet}
use Rattle.link_view.specs.declared.afspec.af_spec_inet.BorrowedAfSpecInet.TheVariants as BorrowedAfSpecInetOf
use Rattle.link_afspec.specs.declared.inet6.AfSpecInet6.{AfSpecInet6}
use Rattle.link_afspec.specs.declared.inet6.AfSpecInet6.TheVariants as AfSpecInet6Of
use Rattle.link_view.specs.declared.afspec.af_spec_inet6.BorrowedAfSpecInet6.{BorrowedAfSpecInet6}
use Rattle.link_view.specs.declared.afspec.af_spec_inet6.BorrowedAfSpecInet6.TheVariants as BorrowedAfSpecInet6Of
use Rattle.link_afspec.specs.declared.mctp.AfSpecMctp.{AfSpecMctp}
use Rattle.link_afspec.specs.declared.mctp.AfSpecMctp.TheVariants as AfSpecMctpOf
use Rattle.link_view.specs.declared.afspec.af_spec_mctp.BorrowedAfSpecMctp.{BorrowedAfSpecMctp}
use Rattle.link_view.specs.declared.afspec.af_spec_mctp.BorrowedAfSpecMctp.TheVariants as BorrowedAfSpecMctpOf
use Rattle.link_afspec.specs.declared.proto_inet6.LinkProtoInfoInet6.{LinkProtoInfoInet6}
use Rattle.link_afspec.specs.declared.proto_inet6.LinkProtoInfoInet6.TheVariants as LinkProtoInfoInet6Of
use Rattle.link_view.specs.declared.afspec.link_proto_info_inet6.BorrowedLinkProtoInfoInet6 as proto_inet6
use proto_inet6.{BorrowedLinkProtoInfoInet6}
use proto_inet6.TheVariants as BorrowedLinkProtoInfoInet6Of
use Rattle.link_afspec.specs.declared.unspec.AfSpecUnspec.{AfSpecUnspec}
use Rattle.link_afspec.specs.declared.unspec.AfSpecUnspec.TheVariants as AfSpecUnspecOf
use Rattle.link_view.specs.declared.afspec.af_spec_unspec.BorrowedAfSpecUnspec.{BorrowedAfSpecUnspec}
use Rattle.link_view.specs.declared.afspec.af_spec_unspec.BorrowedAfSpecUnspec.TheVariants as BorrowedAfSpecUnspecOf

-- what `parse` reads of it: the same variant with the same value; of a list what its payload is read as, or its fault
abbrev pub owned_af_spec_inet : BorrowedAfSpecInet → Result AfSpecInet Cause
owned_af_spec_inet (BorrowedAfSpecInetOf.DevConf v) = Ok (AfSpecInetOf.DevConf v)
owned_af_spec_inet (BorrowedAfSpecInetOf.Other v) = Ok (AfSpecInetOf.Other v)

-- what `parse` reads of it: the same variant with the same value; of a list what its payload is read as, or its fault
abbrev pub owned_af_spec_inet6 : BorrowedAfSpecInet6 → Result AfSpecInet6 Cause
owned_af_spec_inet6 (BorrowedAfSpecInet6Of.Flags v) = Ok (AfSpecInet6Of.Flags v)
owned_af_spec_inet6 (BorrowedAfSpecInet6Of.CacheInfo v) = Ok (AfSpecInet6Of.CacheInfo v)
owned_af_spec_inet6 (BorrowedAfSpecInet6Of.DevConf v) = Ok (AfSpecInet6Of.DevConf v)
owned_af_spec_inet6 (BorrowedAfSpecInet6Of.Stats v) = Ok (AfSpecInet6Of.Stats v)
owned_af_spec_inet6 (BorrowedAfSpecInet6Of.Icmp6Stats v) = Ok (AfSpecInet6Of.Icmp6Stats v)
owned_af_spec_inet6 (BorrowedAfSpecInet6Of.Token v) = Ok (AfSpecInet6Of.Token v)
owned_af_spec_inet6 (BorrowedAfSpecInet6Of.AddrGenMode v) = Ok (AfSpecInet6Of.AddrGenMode v)
owned_af_spec_inet6 (BorrowedAfSpecInet6Of.RaMtu v) = Ok (AfSpecInet6Of.RaMtu v)
owned_af_spec_inet6 (BorrowedAfSpecInet6Of.Other v) = Ok (AfSpecInet6Of.Other v)

-- what `parse` reads of it: the same variant with the same value; of a list what its payload is read as, or its fault
abbrev pub owned_af_spec_mctp : BorrowedAfSpecMctp → Result AfSpecMctp Cause
owned_af_spec_mctp (BorrowedAfSpecMctpOf.Net v) = Ok (AfSpecMctpOf.Net v)
owned_af_spec_mctp (BorrowedAfSpecMctpOf.PhysBinding v) = Ok (AfSpecMctpOf.PhysBinding v)
owned_af_spec_mctp (BorrowedAfSpecMctpOf.Other v) = Ok (AfSpecMctpOf.Other v)

-- what `parse` reads of it: the same variant with the same value; of a list what its payload is read as, or its fault
abbrev pub owned_link_proto_info_inet6 : BorrowedLinkProtoInfoInet6 → Result LinkProtoInfoInet6 Cause
owned_link_proto_info_inet6 (BorrowedLinkProtoInfoInet6Of.Other v) = Ok (LinkProtoInfoInet6Of.Other v)

-- what `parse` reads of it: the same variant with the same value; of a list what its payload is read as, or its fault
abbrev pub owned_af_spec_unspec : BorrowedAfSpecUnspec → Result AfSpecUnspec Cause
owned_af_spec_unspec (BorrowedAfSpecUnspecOf.Inet v) =
    (not_empty (list af_spec_inet_place.grammar)).reads v.now >>= λ vs. Ok (AfSpecUnspecOf.Inet vs)
owned_af_spec_unspec (BorrowedAfSpecUnspecOf.Inet6 v) =
    (not_empty (list af_spec_inet6_place.grammar)).reads v.now >>= λ vs. Ok (AfSpecUnspecOf.Inet6 vs)
owned_af_spec_unspec (BorrowedAfSpecUnspecOf.Mctp v) =
    (not_empty (list af_spec_mctp_place.grammar)).reads v.now >>= λ vs. Ok (AfSpecUnspecOf.Mctp vs)
owned_af_spec_unspec (BorrowedAfSpecUnspecOf.Other v) = Ok (AfSpecUnspecOf.Other v)
