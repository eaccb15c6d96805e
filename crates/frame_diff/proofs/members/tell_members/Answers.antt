use Rattle.std.proofs.Common.{◌++◌, ap, sym, ◌∙◌}
use Rattle.std.proofs.lemmas.Result.{on_ok_weaker}
use Rattle.std.specs.Prelude.{codes}
use Rattle.nla_wire.specs.Items.{items}
use Rattle.link_info.specs.Tables.{frames_in}
use Rattle.shown.specs.Drafts.{with_members}
use Rattle.frame_shown.specs.Items.{objects}
use Rattle.frame_diff.specs.Arrays.{arrays_at}
use Rattle.frame_diff.specs.Forests.{forest}
use Rattle.frame_diff.specs.Items.{items_told, joined}
use Rattle.frame_diff.specs.Keyed.{others_items}
use Rattle.frame_diff.specs.Members.{places}
use Rattle.frame_diff.specs.Repeated.{earlier_at}
use Rattle.frame_diff.specs.Walked.{named_at, reading_at}
use Rattle.frame_diff.proofs.Entries.{both_told}
use Rattle.frame_diff.proofs.Parts.{members_told}
use Rattle.frame_diff.proofs.members.tell_members.Goals as goal

pub returns : goal.returns
returns g c =
    let nest = g.W.Depth.nest in
    let inner = g.W.Walk.inner in
    let is_state = c.args.pass.is_state in
    let own = c.args.own in
    let others = c.args.others in
    let side = c.args.pass.side in
    let path = c.args.path.now in
    let named = items_told side path (forest (named_at nest inner is_state own))
    (forest (named_at nest inner is_state others)) in
    let lists = items_told side path (forest (arrays_at nest inner is_state own))
    (forest (arrays_at nest inner is_state others)) in
    let again = items_told side (joined path (codes "repeated")) (places (earlier_at nest inner is_state own))
    (places (earlier_at nest inner is_state others)) in
    let kept = others_items side (joined path (codes "other")) is_state own others in
    on_ok_weaker c.tell_others.result (λ last.
    both_told named (lists ++ (again ++ kept)) c.args.page.now c.tell_named.new.page c.tell_others.new.page
    c.in_ok-tell_named.ensures
    (both_told lists (again ++ kept) c.tell_named.new.page c.tell_arrays.new.page c.tell_others.new.page
    c.in_ok-tell_arrays.ensures
    (both_told again kept c.tell_arrays.new.page c.tell_again.new.page c.tell_others.new.page
    c.in_ok-tell_again.ensures last))
    ∙ ap (λ os. with_members (objects os) c.args.page.now)
    (sym (members_told (reading_at nest inner is_state own.around.now)
    (reading_at nest inner is_state others.around.now) own.list others.list (frames_in (items own.bytes.now))
    (frames_in (items others.bytes.now)) side path))) c.tell_others.ensures
