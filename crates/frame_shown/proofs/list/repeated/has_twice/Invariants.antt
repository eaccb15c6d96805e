use Rattle.std.proofs.Common.{◌≡◌, length, map}
use Rattle.nla_wire.specs.Items.{items}
use Rattle.link_info.specs.Tables.{frames_in}
use Rattle.frame_shown.specs.Frames.{are_twice, by_number}
use Rattle.frame_shown.proofs.Items.{repeats}
use Rattle.frame_shown.proofs.list.repeated.has_twice.Given as goal

abbrev pub invariant-loop-item : goal.invariant-loop-item
invariant-loop-item l = record {
  size : length l.seen ≡ 256;
  left : repeats l.seen (map by_number (frames_in l.item-iterator)) ≡ are_twice (items l.bytes);
}
