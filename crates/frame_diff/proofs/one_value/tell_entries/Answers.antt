use Rattle.std.proofs.Common.{◌∙◌, ap}
use Rattle.std.proofs.lemmas.Result.{on_ok_weaker}
use Rattle.frame_shown.specs.Frames.{list_shown}
use Rattle.frame_diff.specs.Groups.{group_held}
use Rattle.frame_diff.specs.Values.{entries_shown}
use Rattle.frame_diff.specs.declared.side.Side.TheVariants.{Old}
use Rattle.frame_diff.proofs.Grouped.{entries_are, leaf_written}
use Rattle.frame_diff.proofs.one_value.tell_entries.Goals as goal

pub returns : goal.returns
returns g c =
    let nest = g.W.Depth.nest in
    let inner = g.W.Walk.inner in
    let is_state = c.args.is_state in
    let old = c.args.old in
    let new = c.args.new in
    let cx = old.around.now in
    let theirs = new.around.now in
    let group = c.group_of-group.result in
    let other = c.group_of-other.result in
    on_ok_weaker c.tell_turned.result (leaf_written Old c.args.path.now
    (entries_shown (λ list p. list_shown (nest cx) cx list p) group c.as_slice.result.now)
    (entries_shown (λ list p. list_shown (nest theirs) theirs list p) other c.as_slice-2.result.now)
    (group_held nest inner is_state old).0 (group_held nest inner is_state new).0 c.args.page.now c.tell_turned.new.page
    (ap (entries_shown (λ list p. list_shown (nest cx) cx list p) group) c.as_slice.ensures.value
    ∙ entries_are nest inner is_state old group c.in_ok-own.own.items c.requires.number c.group_of-group.ensures
    c.in_ok-own.ensures)
    (ap (entries_shown (λ list p. list_shown (nest theirs) theirs list p) other) c.as_slice-2.ensures.value
    ∙ entries_are nest inner is_state new other c.in_ok-there.there.items c.requires.new_number
    c.group_of-other.ensures c.in_ok-there.ensures)) c.tell_turned.ensures
