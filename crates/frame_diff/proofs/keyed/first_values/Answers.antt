use Rattle.std.proofs.Common.{◌≡◌, [], ◌∷◌, Ok, ap}
use Rattle.link_info.specs.Tables.{frames_in}
use Rattle.frame_diff.specs.Groups.{group_at, numbers_at}
use Rattle.frame_diff.specs.Keyed.{helds_now, labels_now}
use Rattle.frame_diff.specs.Labels.{first_labels}
use Rattle.frame_diff.proofs.Labelled.{first_further, first_over, is_in, values_further, values_over}
use Rattle.frame_diff.proofs.keyed.first_values.Goals.{in-None, in-Some+in_default}
use Rattle.frame_diff.proofs.keyed.first_values.Goals as goal

pub loop-item-preserved : goal.loop-item-preserved
loop-item-preserved c =
    let here : c.loop-item.item-iterator ≡ Ok c.in-Ok.frame ∷ c.next.new.self = rw c.in-Ok.is at
    c.in-Some.ensures.steps in
    record {
      of = c.in_ok-push_first.ensures.list c.args.list c.loop-item.invariant.of
          (is_in c.args.list c.pick.result c.pick.ensures.list c.pick.ensures.around);
      labels = λ nest inner. first_further nest inner c.args.is_state c.args.key c.args.list c.in-Ok.frame
          c.pick.result c.loop-item.item-iterator c.next.new.self (labels_now c.loop-item.values.items)
          (labels_now c.push_first.new.values.items)
          (first_labels (numbers_at nest inner c.args.is_state c.args.list)) here
          (c.pick.ensures.values nest inner, c.pick.ensures.numbers nest inner c.args.key)
          c.in_ok-push_first.ensures.labels (c.loop-item.invariant.labels nest inner);
      values = λ nest inner. values_further nest inner c.args.is_state c.args.key c.args.list c.in-Ok.frame
          c.pick.result c.loop-item.item-iterator c.next.new.self
          (helds_now nest inner c.args.is_state c.loop-item.values.items)
          (helds_now nest inner c.args.is_state c.push_first.new.values.items)
          (group_at nest inner c.args.is_state c.args.list) here
          (c.pick.ensures.values nest inner, c.pick.ensures.numbers nest inner c.args.key)
          (c.in_ok-push_first.ensures.values nest inner c.args.is_state) (c.loop-item.invariant.values nest inner);
    }

pub returns : goal.returns
returns c =
    let over : frames_in c.loop-item.item-iterator ≡ [] = elim c.match-next.branch [
      | in-None w ↦ ap frames_in w.in-None.ensures.steps.0
      | in-Some+in_default w ↦ ap frames_in (rw w.in_default.is at w.in-Some.ensures.steps)
    ] in (
      c.loop-item.invariant.of,
      λ nest inner. (
        first_over nest inner c.args.is_state c.args.key c.args.list c.loop-item.item-iterator
            (labels_now c.loop-item.values.items) (first_labels (numbers_at nest inner c.args.is_state c.args.list))
            over (c.loop-item.invariant.labels nest inner),
        values_over nest inner c.args.is_state c.args.key c.args.list c.loop-item.item-iterator
            (helds_now nest inner c.args.is_state c.loop-item.values.items)
            (group_at nest inner c.args.is_state c.args.list) over (c.loop-item.invariant.values nest inner),
      ),
    )
