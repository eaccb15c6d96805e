use Rattle.std.proofs.Common.{◌∙◌, ap, sym}
use Rattle.std.specs.Prelude.{None, Some, cond}
use Rattle.nla_wire.specs.Items.{items}
use Rattle.link_info.specs.Tables.{frames_in}
use Rattle.frame_diff.specs.Forests.{Held, find}
use Rattle.frame_diff.specs.Groups.{all_of, group_held, group_step}
use Rattle.frame_diff.specs.Inside.{above, inside_list}
use Rattle.frame_diff.specs.Walked.{reading_at}
use Rattle.frame_diff.proofs.Grouped.{group_beside}
use Rattle.frame_diff.proofs.groups.group_beside.Goals as goal

pub returns-else-is_same_group-clause-held : goal.returns-else-is_same_group-clause-held
returns-else-is_same_group-clause-held c nest inner is_state =
    let other = c.in-Some.other in
    let held : Held = group_held nest inner is_state (all_of other) in
    sym (group_beside (reading_at nest inner is_state other.around.now) c.args.own other.list
    (frames_in (items other.bytes.now)) c.requires
    ∙ ap (λ b. cond b (Some held) None) (sym c.is_same_group.ensures ∙ c.if-is_same_group.false))
    ∙ ap (λ b. find (group_step c.args.own) (inside_list (above nest inner) is_state b)) (sym c.in-Some.is)

pub returns-then-is_same_group-clause-held : goal.returns-then-is_same_group-clause-held
returns-then-is_same_group-clause-held c nest inner is_state =
    let other = c.in-Some.other in
    let held : Held = group_held nest inner is_state (all_of other) in
    ap (λ a. Some (group_held nest inner is_state a)) c.all_of.ensures
    ∙ sym (group_beside (reading_at nest inner is_state other.around.now) c.args.own other.list
    (frames_in (items other.bytes.now)) c.requires
    ∙ ap (λ b. cond b (Some held) None) (sym c.is_same_group.ensures ∙ c.if-is_same_group.true))
    ∙ ap (λ b. find (group_step c.args.own) (inside_list (above nest inner) is_state b)) (sym c.in-Some.is)
