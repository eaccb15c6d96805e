use Rattle.std.proofs.Common.{◌≡◌, cond}
use Rattle.std.specs.Prelude.{None}
use Rattle.link_info.specs.Styles.{are_frames}
use Rattle.link_info.specs.Tables.{frames_in}
use Rattle.link_vlans.specs.Runs.{take_fields, tunnel, tunnel_by}
use Rattle.link_vlans.proofs.vlan.tunnel.Given as goal

abbrev pub invariant-loop-item : goal.invariant-loop-item
invariant-loop-item l =
    cond (are_frames l.item-iterator) (tunnel_by (take_fields l.parts (frames_in l.item-iterator))) None
    ≡ tunnel l.bytes
