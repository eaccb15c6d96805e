use Rattle.std.proofs.Common.{◌≡◌, [], ◌∷◌, ◌++◌, ◌∙◌, Ok, ap, append-nil, map, sym}
use Rattle.std.specs.Prelude.{Option, Some}
use Rattle.nla_wire.specs.Frames.{number}
use Rattle.link_info.specs.Tables.{frames_in}
use Rattle.frame_diff.specs.Forests.{Held}
use Rattle.frame_diff.specs.Keyed.{labels_now, values_now}
use Rattle.frame_diff.specs.Labels.{first_labels}
use Rattle.frame_diff.specs.Values.{entry_held, kept_among, kept_at, kept_held, kept_numbers, numbers_among}
use Rattle.frame_diff.proofs.Entries.{kept_split, numbers_split}
use Rattle.frame_diff.proofs.Labelled.{labels_onward, values_onward}
use Rattle.frame_diff.proofs.kept.first_kept.Goals.{in-None, in-Some+in_default}
use Rattle.frame_diff.proofs.kept.first_kept.Goals as goal

pub loop-item-preserved : goal.loop-item-preserved
loop-item-preserved c =
    let here : c.loop-item.item-iterator ≡ Ok c.in-Ok.frame ∷ c.next.new.self = rw c.in-Ok.is at
    c.in-Some.ensures.steps in
    let list = c.args.list in
    let cx = list.around.now in
    let f = c.in-Ok.frame in
    let e = c.look_at-entry.result in
    let it = c.loop-item.item-iterator in
    let next = c.next.new.self in
    record {
      labels = labels_onward (map (λ (h : Option Held). Some (number f)) (entry_held e))
          (numbers_among c.args.is_state cx list.list (frames_in next))
          (numbers_among c.args.is_state cx list.list (frames_in it)) (labels_now c.loop-item.values.items)
          (labels_now c.push_entry.new.values.items) (first_labels (kept_numbers c.args.is_state list))
          (numbers_split c.args.is_state cx list.list f e it next here c.look_at-entry.ensures)
          (c.in_ok-push_entry.ensures.labels
          ∙ ap (λ n. labels_now c.loop-item.values.items
          ++ first_labels (map (λ (h : Option Held). Some n) (entry_held e))) c.kind.ensures)
          c.loop-item.invariant.labels;
      values = values_onward (entry_held e) (kept_among c.args.is_state cx list.list (frames_in next))
          (kept_among c.args.is_state cx list.list (frames_in it))
          (map kept_held (values_now c.loop-item.values.items))
          (map kept_held (values_now c.push_entry.new.values.items)) (kept_at c.args.is_state list)
          (kept_split c.args.is_state cx list.list f e it next here c.look_at-entry.ensures)
          c.in_ok-push_entry.ensures.values c.loop-item.invariant.values;
    }

pub returns : goal.returns
returns c =
    let list = c.args.list in
    let cx = list.around.now in
    let over : frames_in c.loop-item.item-iterator ≡ [] = elim c.match-next.branch [
      | in-None w ↦ ap frames_in w.in-None.ensures.steps.0
      | in-Some+in_default w ↦ ap frames_in (rw w.in_default.is at w.in-Some.ensures.steps)
    ] in (
      sym (ap (λ fs. labels_now c.loop-item.values.items
          ++ first_labels (numbers_among c.args.is_state cx list.list fs)) over
          ∙ append-nil (labels_now c.loop-item.values.items)) ∙ c.loop-item.invariant.labels,
      sym (ap (λ fs. map kept_held (values_now c.loop-item.values.items)
          ++ kept_among c.args.is_state cx list.list fs) over
          ∙ append-nil (map kept_held (values_now c.loop-item.values.items))) ∙ c.loop-item.invariant.values,
    )
