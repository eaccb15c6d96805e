use Rattle.std.proofs.Common.{◌∙◌, ap, sym}
use Rattle.std.specs.Prelude.{option_map}
use Rattle.frame_diff.specs.Differences.{leaf_in}
use Rattle.frame_diff.specs.Groups.{group_held}
use Rattle.frame_diff.proofs.Grouped.{group_plain}
use Rattle.frame_diff.proofs.Inside.{leaf_here, leaf_not}
use Rattle.frame_diff.proofs.plain_lists.plain_beside.Goals as goal

pub returns-then-are_plain-clause-value : goal.returns-then-are_plain-clause-value
returns-then-are_plain-clause-value g c =
    let nest = g.W.Depth.nest in
    let inner = g.W.Walk.inner in
    let held = group_held nest inner c.args.is_state in
    leaf_here (held c.in-Some.other) (group_plain nest inner c.args.is_state c.in-Some.other
    ∙ c.are_plain.ensures ∙ c.if-are_plain.true)
    ∙ sym (ap (λ b. leaf_in (option_map held b)) c.in-Some.is)

pub returns-else-are_plain-clause-value : goal.returns-else-are_plain-clause-value
returns-else-are_plain-clause-value g c =
    let nest = g.W.Depth.nest in
    let inner = g.W.Walk.inner in
    let held = group_held nest inner c.args.is_state in
    leaf_not (held c.in-Some.other) (group_plain nest inner c.args.is_state c.in-Some.other
    ∙ c.are_plain.ensures ∙ c.if-are_plain.false)
    ∙ sym (ap (λ b. leaf_in (option_map held b)) c.in-Some.is)
