use Rattle.std.proofs.Common.{◌≡◌, None, drop}
use Rattle.nla_wire.specs.Items.{items}
use Rattle.link_info.specs.Tables.{frames_in}
use Rattle.frame_diff.specs.Arrays.{last_array}
use Rattle.frame_diff.proofs.arrays.find_array.Given as goal

abbrev pub invariant-loop-row : goal.invariant-loop-row
invariant-loop-row l =
    let fs = frames_in (items l.list.bytes.now) in
    last_array l.list.around.now l.list.list fs l.name l.last (drop l.row-index l.rows)
    ≡ last_array l.list.around.now l.list.list fs l.name None l.rows
