use Rattle.std.proofs.Common.{◌≡◌, ◌∷◌, ◌∙◌, Ok, sym}
use Rattle.nla_wire.specs.Items.{items}
use Rattle.frame_diff.specs.Groups.{group_at}
use Rattle.frame_diff.proofs.Grouped.{none_taken, none_there, rest_taken, value_taken}
use Rattle.frame_diff.proofs.picked.take.Goals as goal

pub returns-then-is_some-clause-value : goal.returns-then-is_some-clause-value
returns-then-is_some-clause-value c nest inner =
    let here : c.loop-item.item-iterator ≡ Ok c.in-Ok.frame ∷ c.next.new.self = rw c.in-Ok.is at
    c.in-Some.ensures.steps in
    let left : items c.behind-rest.result.now ≡ c.next.new.self =
    c.behind-rest.ensures c.next.new.self (c.loop-item.invariant.behind ∙ here) in
    let list = c.args.list in
    value_taken nest inner c.args.is_state list.number list.list list.around.now c.in-Ok.frame c.pick-value.result
    c.loop-item.item-iterator c.next.new.self (group_at nest inner c.args.is_state list) here
    (c.pick-value.ensures.values nest inner) (c.loop-item.invariant.same nest inner)
    (sym c.is_some.ensures ∙ c.if-is_some.true)

pub returns-then-is_some-clause-rest : goal.returns-then-is_some-clause-rest
returns-then-is_some-clause-rest c nest inner =
    let here : c.loop-item.item-iterator ≡ Ok c.in-Ok.frame ∷ c.next.new.self = rw c.in-Ok.is at
    c.in-Some.ensures.steps in
    let left : items c.behind-rest.result.now ≡ c.next.new.self =
    c.behind-rest.ensures c.next.new.self (c.loop-item.invariant.behind ∙ here) in
    let list = c.args.list in
    rest_taken nest inner c.args.is_state list.number list.list list.around.now c.in-Ok.frame c.pick-value.result
    c.loop-item.item-iterator c.next.new.self c.behind-rest.result.now (group_at nest inner c.args.is_state list) here
    (c.pick-value.ensures.values nest inner) (c.loop-item.invariant.same nest inner) left
    (sym c.is_some.ensures ∙ c.if-is_some.true)

pub loop-item-preserved : goal.loop-item-preserved
loop-item-preserved c =
    let here : c.loop-item.item-iterator ≡ Ok c.in-Ok.frame ∷ c.next.new.self = rw c.in-Ok.is at
    c.in-Some.ensures.steps in
    let left : items c.behind-rest.result.now ≡ c.next.new.self =
    c.behind-rest.ensures c.next.new.self (c.loop-item.invariant.behind ∙ here) in
    let list = c.args.list in
    record {
      behind = left;
      same = λ nest inner. none_taken nest inner c.args.is_state list.number list.list list.around.now c.in-Ok.frame
          c.pick-value.result c.loop-item.item-iterator c.next.new.self (group_at nest inner c.args.is_state list)
          here (c.pick-value.ensures.values nest inner)
          (none_there c.pick-value.result (sym c.is_some.ensures ∙ c.if-is_some.false))
          (c.loop-item.invariant.same nest inner);
    }
