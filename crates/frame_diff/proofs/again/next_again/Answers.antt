use Rattle.std.proofs.Common.{◌≡◌, [], ◌∷◌, ◌++◌, ◌∙◌, Ok, ap, sym}
use Rattle.nla_wire.specs.Items.{items}
use Rattle.link_info.specs.Tables.{frames_in}
use Rattle.frame_diff.specs.Members.{earlier, named_in}
use Rattle.frame_diff.specs.Repeated.{again_held, again_in, earlier_at}
use Rattle.frame_diff.specs.Walked.{reading_at}
use Rattle.frame_diff.proofs.Repeated.{none_in, not_again, split}
use Rattle.frame_diff.proofs.again.next_again.Goals.{in-None, in-Some+in_default}
use Rattle.frame_diff.proofs.again.next_again.Goals as goal

pub returns-then-is_some-clause-cut : goal.returns-then-is_some-clause-cut
returns-then-is_some-clause-cut c nest inner is_state =
    let list = c.args.list in
    let r = reading_at nest inner is_state list.around.now in
    let here : c.loop-item.item-iterator ≡ Ok c.in-Ok.frame ∷ c.next.new.self = rw c.in-Ok.is at
    c.in-Some.ensures.steps in
    let left : items c.behind-rest.result.now ≡ c.next.new.self =
    c.behind-rest.ensures c.next.new.self (c.loop-item.invariant.behind ∙ here) in
    sym (c.loop-item.invariant.left nest inner is_state)
    ∙ split nest inner is_state list.list c.in-Ok.frame r c.again-own.result c.loop-item.item-iterator
    c.next.new.self here
    (c.again-own.ensures.held nest inner is_state
    ∙ ap (λ xs. again_in r list.list (named_in r list.list (frames_in xs)) c.in-Ok.frame) left)
    ∙ ap (λ xs. again_held nest inner is_state c.again-own.result
    ++ earlier (named_in r list.list (frames_in xs))) (sym left)

pub loop-item-preserved : goal.loop-item-preserved
loop-item-preserved c =
    let list = c.args.list in
    let here : c.loop-item.item-iterator ≡ Ok c.in-Ok.frame ∷ c.next.new.self = rw c.in-Ok.is at
    c.in-Some.ensures.steps in
    let left : items c.behind-rest.result.now ≡ c.next.new.self =
    c.behind-rest.ensures c.next.new.self (c.loop-item.invariant.behind ∙ here) in
    record {
      behind = left;
      left = λ nest inner is_state.
          let r = reading_at nest inner is_state list.around.now in
          not_again nest inner is_state list.list c.in-Ok.frame r c.again-own.result c.loop-item.item-iterator
          c.next.new.self here
          (c.again-own.ensures.held nest inner is_state
          ∙ ap (λ xs. again_in r list.list (named_in r list.list (frames_in xs)) c.in-Ok.frame) left)
          (earlier_at nest inner is_state list) (sym c.is_some.ensures ∙ c.if-is_some.false)
          (c.loop-item.invariant.left nest inner is_state);
    }

pub returns-clause-cut : goal.returns-clause-cut
returns-clause-cut c nest inner is_state =
    let over : frames_in c.loop-item.item-iterator ≡ [] = elim c.match-next.branch [
      | in-None w ↦ ap frames_in w.in-None.ensures.steps.0
      | in-Some+in_default w ↦ ap frames_in (rw w.in_default.is at w.in-Some.ensures.steps)
    ] in
    sym (c.loop-item.invariant.left nest inner is_state)
    ∙ ap (λ fs. earlier (named_in (reading_at nest inner is_state c.args.list.around.now) c.args.list.list fs))
    over
    ∙ sym (none_in nest inner is_state c.args.list)

pub returns-clause-last : goal.returns-clause-last
returns-clause-last c nest inner is_state none = none_in nest inner is_state c.args.list
