-- What members of the lists of link_vf stand for over borrowed bytes,
-- made by scripts/erase/borrowed.py of the rows of its enums: do not edit.
use Rattle.std.specs.Prelude.{Result, Ok}
use Rattle.nla_wire.specs.declared.error.Cause.{Cause}
use Rattle.nla_wire.specs.Reading.{◌>>=◌}
use Rattle.nla_wire.specs.Grammar.{list}
use Rattle.link_vf.specs.Tables.{vf_stats_place, vf_vlan_place}
use Rattle.link_vf.specs.declared.stats.VfStats.{VfStats}
use Rattle.link_vf.specs.declared.stats.VfStats.TheVariants as VfStatsOf
use Rattle.link_view.specs.declared.vf.vf_stats.BorrowedVfStats.{BorrowedVfStats}
use Rattle.link_view.specs.declared.vf.vf_stats.BorrowedVfStats.TheVariants as BorrowedVfStatsOf
use Rattle.link_vf.specs.declared.vf_info.VfInfo.{VfInfo}
use Rattle.link_vf.specs.declared.vf_info.VfInfo.TheVariants as VfInfoOf
use Rattle.link_view.specs.declared.vf.vf_info.BorrowedVfInfo.{BorrowedVfInfo}
use Rattle.link_view.specs.declared.vf.vf_info.BorrowedVfInfo.TheVariants as BorrowedVfInfoOf
use Rattle.link_vf.specs.declared.vf_port.VfPort.{VfPort}
use Rattle.link_vf.specs.declared.vf_port.VfPort.TheVariants as VfPortOf
use Rattle.link_view.specs.declared.vf.vf_port.BorrowedVfPort.{BorrowedVfPort}
use Rattle.link_view.specs.declared.vf.vf_port.BorrowedVfPort.TheVariants as BorrowedVfPortOf
use Rattle.link_vf.specs.declared.vf_vlan.VfVlan.{VfVlan}
use Rattle.link_vf.specs.declared.vf_vlan.VfVlan.TheVariants as VfVlanOf
use Rattle.link_view.specs.declared.vf.vf_vlan.BorrowedVfVlan.{BorrowedVfVlan}
use Rattle.link_view.specs.declared.vf.vf_vlan.BorrowedVfVlan.TheVariants as BorrowedVfVlanOf

-- what `parse` reads of it: the same variant with the same value; of a list what its payload is read as, or its fault
abbrev pub owned_vf_stats : BorrowedVfStats → Result VfStats Cause
owned_vf_stats (BorrowedVfStatsOf.RxPackets v) = Ok (VfStatsOf.RxPackets v)
owned_vf_stats (BorrowedVfStatsOf.TxPackets v) = Ok (VfStatsOf.TxPackets v)
owned_vf_stats (BorrowedVfStatsOf.RxBytes v) = Ok (VfStatsOf.RxBytes v)
owned_vf_stats (BorrowedVfStatsOf.TxBytes v) = Ok (VfStatsOf.TxBytes v)
owned_vf_stats (BorrowedVfStatsOf.Broadcast v) = Ok (VfStatsOf.Broadcast v)
owned_vf_stats (BorrowedVfStatsOf.Multicast v) = Ok (VfStatsOf.Multicast v)
owned_vf_stats (BorrowedVfStatsOf.RxDropped v) = Ok (VfStatsOf.RxDropped v)
owned_vf_stats (BorrowedVfStatsOf.TxDropped v) = Ok (VfStatsOf.TxDropped v)
owned_vf_stats (BorrowedVfStatsOf.Other v) = Ok (VfStatsOf.Other v)

-- what `parse` reads of it: the same variant with the same value; of a list what its payload is read as, or its fault
abbrev pub owned_vf_info : BorrowedVfInfo → Result VfInfo Cause
owned_vf_info (BorrowedVfInfoOf.Mac v) = Ok (VfInfoOf.Mac v)
owned_vf_info (BorrowedVfInfoOf.Vlan v) = Ok (VfInfoOf.Vlan v)
owned_vf_info (BorrowedVfInfoOf.TxRate v) = Ok (VfInfoOf.TxRate v)
owned_vf_info (BorrowedVfInfoOf.SpoofCheck v) = Ok (VfInfoOf.SpoofCheck v)
owned_vf_info (BorrowedVfInfoOf.LinkState v) = Ok (VfInfoOf.LinkState v)
owned_vf_info (BorrowedVfInfoOf.Rate v) = Ok (VfInfoOf.Rate v)
owned_vf_info (BorrowedVfInfoOf.RssQueryEn v) = Ok (VfInfoOf.RssQueryEn v)
owned_vf_info (BorrowedVfInfoOf.Stats v) = (list vf_stats_place.grammar).reads v.now >>= λ vs. Ok (VfInfoOf.Stats vs)
owned_vf_info (BorrowedVfInfoOf.Trust v) = Ok (VfInfoOf.Trust v)
owned_vf_info (BorrowedVfInfoOf.IbNodeGuid v) = Ok (VfInfoOf.IbNodeGuid v)
owned_vf_info (BorrowedVfInfoOf.IbPortGuid v) = Ok (VfInfoOf.IbPortGuid v)
owned_vf_info (BorrowedVfInfoOf.VlanList v) =
    (list vf_vlan_place.grammar).reads v.now >>= λ vs. Ok (VfInfoOf.VlanList vs)
owned_vf_info (BorrowedVfInfoOf.Broadcast v) = Ok (VfInfoOf.Broadcast v)
owned_vf_info (BorrowedVfInfoOf.Other v) = Ok (VfInfoOf.Other v)

-- what `parse` reads of it: the same variant with the same value; of a list what its payload is read as, or its fault
abbrev pub owned_vf_port : BorrowedVfPort → Result VfPort Cause
owned_vf_port (BorrowedVfPortOf.Other v) = Ok (VfPortOf.Other v)

-- what `parse` reads of it: the same variant with the same value; of a list what its payload is read as, or its fault
abbrev pub owned_vf_vlan : BorrowedVfVlan → Result VfVlan Cause
owned_vf_vlan (BorrowedVfVlanOf.Info v) = Ok (VfVlanOf.Info v)
owned_vf_vlan (BorrowedVfVlanOf.Other v) = Ok (VfVlanOf.Other v)
