use Rattle.std.proofs.Common.{◌≡◌, ◌++◌, map}
use Rattle.link_info.specs.Tables.{frames_in}
use Rattle.frame_diff.specs.Keyed.{labels_now, values_now}
use Rattle.frame_diff.specs.Labels.{first_labels}
use Rattle.frame_diff.specs.Values.{kept_among, kept_at, kept_held, kept_numbers, numbers_among}
use Rattle.frame_diff.proofs.kept.first_kept.Given as goal

abbrev pub invariant-loop-item : goal.invariant-loop-item
invariant-loop-item l =
    let cx = l.list.around.now in
    record {
      labels : labels_now l.values.items
          ++ first_labels (numbers_among l.is_state cx l.list.list (frames_in l.item-iterator))
          ≡ first_labels (kept_numbers l.is_state l.list);
      values : map kept_held (values_now l.values.items)
          ++ kept_among l.is_state cx l.list.list (frames_in l.item-iterator)
          ≡ kept_at l.is_state l.list;
    }
