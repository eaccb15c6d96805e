use Rattle.std.proofs.Common.{◌≡◌}
use Rattle.nla_wire.specs.Items.{items}
use Rattle.link_info.specs.Tables.{frames_in}
use Rattle.link_vlans.specs.Reading.{AreSmall}
use Rattle.link_vlans.specs.Runs.{runs_in, vlans_with}
use Rattle.link_vlans.proofs.Rest.{EndAt, whole}
use Rattle.link_vlans.proofs.run.runs_in.Given as goal

abbrev pub invariant-loop-item : goal.invariant-loop-item
invariant-loop-item l = record {
  small : AreSmall l.runs.items;
  ends : EndAt l.runs.items l.reader.last;
  whole : whole l.runs.items l.reader.begun (vlans_with l.number (frames_in l.item-iterator))
      ≡ runs_in l.number (frames_in (items l.bytes));
}
