use Rattle.std.proofs.Common.{ap, sym, subst}
use Rattle.std.proofs.lemmas.Result.{on_ok_weaker}
use Rattle.nla_wire.specs.Items.{items}
use Rattle.link_info.specs.Tables.{frames_in}
use Rattle.shown.specs.Drafts.{with_members}
use Rattle.frame_shown.specs.Items.{objects}
use Rattle.frame_shown.specs.Tables.{data_rows, lists_of}
use Rattle.frame_diff.specs.Arrays.{arrays_at}
use Rattle.frame_diff.specs.Forests.{forest}
use Rattle.frame_diff.specs.Items.{items_told}
use Rattle.frame_diff.specs.Members.{arrays_of}
use Rattle.frame_diff.specs.Shown.{AreListsApart}
use Rattle.frame_diff.specs.Walked.{reading_at}
use Rattle.frame_diff.proofs.ArraysTold.{rows_are}
use Rattle.frame_diff.proofs.arrays.tell_arrays.Goals as goal

pub returns-then-not-has_data : goal.returns-then-not-has_data
returns-then-not-has_data g c =
    let nest = g.W.Depth.nest in
    let inner = g.W.Walk.inner in
    let is_state = c.args.pass.is_state in
    let own = c.args.own in
    let r = reading_at nest inner is_state own.around.now in
    let fs = frames_in (items own.bytes.now) in
    let others = forest (arrays_at nest inner is_state c.args.others) in
    sym (ap (λ lists. with_members (objects (items_told c.args.pass.side c.args.path.now
    (forest (arrays_of r own.list lists fs)) others)) c.args.page.now)
    (c.has_data.ensures.none c.if-not-has_data.true own.around.now))

pub returns : goal.returns
returns g c =
    let nest = g.W.Depth.nest in
    let inner = g.W.Walk.inner in
    let is_state = c.args.pass.is_state in
    let own = c.args.own in
    let r = reading_at nest inner is_state own.around.now in
    let fs = frames_in (items own.bytes.now) in
    let others = forest (arrays_at nest inner is_state c.args.others) in
    on_ok_weaker c.tell_rows.result (rows_are c.args.pass.side c.args.path.now r own.list fs others
    c.data_rows-rows.result.now (data_rows own.around.now own.list) c.args.page.now c.tell_rows.new.page
    c.data_rows-rows.ensures) c.tell_rows.ensures

pub tell_rows-requires-clause-apart : goal.tell_rows-requires-clause-apart
tell_rows-requires-clause-apart g c =
    subst (λ rows. AreListsApart (lists_of rows)) (sym c.data_rows-rows.ensures)
    (c.requires.names c.args.own.list).lists
