use Rattle.std.proofs.Common.{rules}
use Rattle.nla_wire.specs.Items.{items}
use Rattle.link_info.specs.Tables.{frames_in}
use Rattle.shown.specs.Drafts.{with_members}
use Rattle.frame_shown.specs.Items.{objects}
use Rattle.frame_shown.specs.Tables.{lists_of}
use Rattle.frame_diff.specs.Arrays.{arrays_at}
use Rattle.frame_diff.specs.Forests.{forest}
use Rattle.frame_diff.specs.Items.{items_told}
use Rattle.frame_diff.specs.Members.{arrays_of}
use Rattle.frame_diff.specs.Walked.{reading_at}
use Rattle.frame_diff.proofs.ArraysTold.{rows_step}
use Rattle.frame_diff.proofs.arrays.tell_rows.Goals as goal

pub loop-row-preserved : goal.loop-row-preserved
loop-row-preserved g c =
    let nest = g.W.Depth.nest in
    let inner = g.W.Walk.inner in
    let is_state = c.args.pass.is_state in
    let own = c.args.own in
    let r = reading_at nest inner is_state own.around.now in
    let fs = frames_in (items own.bytes.now) in
    let others = forest (arrays_at nest inner is_state c.args.others) in
    let side = c.args.pass.side in
    let text = c.args.path.now in
    let all = with_members (objects (items_told side text (forest (arrays_of r own.list (lists_of c.args.rows.now) fs))
    others)) c.args.page.now in
    let step = rows_step side text r own.list fs others c.args.rows.now c.loop-row.row-index _ c.loop-row.page
    c.tell_array.new.page all (search rules) c.loop-row.invariant.apart c.in_ok-tell_array.ensures
    c.loop-row.invariant.told in
    record { apart = step.1; told = step.0 }
