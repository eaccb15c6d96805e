use Rattle.std.proofs.Common.{◌≡◌, ◌∷◌, ◌∙◌, Ok, ap}
use Rattle.std.specs.Prelude.{not}
use Rattle.frame_diff.specs.Groups.{group_at}
use Rattle.frame_diff.specs.Members.{are_plain}
use Rattle.frame_diff.proofs.Grouped.{not_plain, plain_next}
use Rattle.frame_diff.proofs.plain_lists.are_all_plain.Goals as goal

pub returns-then-is_deep : goal.returns-then-is_deep
returns-then-is_deep g c =
    let nest = g.W.Depth.nest in
    let inner = g.W.Walk.inner in
    let here : c.loop-item.item-iterator ≡ Ok c.in-Ok.frame ∷ c.next.new.self = rw c.in-Ok.is at
    c.in-Some.ensures.steps in
    let list = c.args.list in
    not_plain nest inner c.args.is_state list.number list.list list.around.now c.in-Ok.frame c.pick-value.result
    c.loop-item.item-iterator c.next.new.self (are_plain (group_at nest inner c.args.is_state list)) here
    (c.pick-value.ensures.values nest inner) (c.is_deep.ensures c.args.is_state ∙ ap not c.if-is_deep.true)
    c.loop-item.invariant

pub loop-item-preserved : goal.loop-item-preserved
loop-item-preserved g c =
    let nest = g.W.Depth.nest in
    let inner = g.W.Walk.inner in
    let here : c.loop-item.item-iterator ≡ Ok c.in-Ok.frame ∷ c.next.new.self = rw c.in-Ok.is at
    c.in-Some.ensures.steps in
    let list = c.args.list in
    plain_next nest inner c.args.is_state list.number list.list list.around.now c.in-Ok.frame c.pick-value.result
    c.loop-item.item-iterator c.next.new.self (are_plain (group_at nest inner c.args.is_state list)) here
    (c.pick-value.ensures.values nest inner) (c.is_deep.ensures c.args.is_state ∙ ap not c.if-is_deep.false)
    c.loop-item.invariant
