use Rattle.std.proofs.Common.{◌∙◌, ap, sym}
use Rattle.std.specs.Prelude.{option_map}
use Rattle.frame_diff.specs.Differences.{leaf_in}
use Rattle.frame_diff.specs.Walked.{held_at}
use Rattle.frame_diff.proofs.Inside.{leaf_here, leaf_not}
use Rattle.frame_diff.proofs.value.leaf_beside.Goals as goal

pub returns-then-branch : goal.returns-then-branch
returns-then-branch g c =
    let held = held_at g.W.Depth.nest g.W.Walk.inner c.args.is_state in
    leaf_here (held c.in-Some.other) (c.in_ok-is_leaf.ensures ∙ c.if-branch.true)
    ∙ sym (ap (λ b. leaf_in (option_map held b)) c.in-Some.is)

pub returns-else-branch : goal.returns-else-branch
returns-else-branch g c =
    let held = held_at g.W.Depth.nest g.W.Walk.inner c.args.is_state in
    leaf_not (held c.in-Some.other) (c.in_ok-is_leaf.ensures ∙ c.if-branch.false)
    ∙ sym (ap (λ b. leaf_in (option_map held b)) c.in-Some.is)
