use Rattle.std.proofs.Common.{◌≡◌, List, codes, drop}
use Rattle.std.specs.Prelude.{Option}
use Rattle.shown.specs.Drafts.{with_members}
use Rattle.frame_shown.specs.Items.{objects}
use Rattle.frame_diff.specs.Items.{joined}
use Rattle.frame_diff.specs.Keyed.{AreKept, labels_now, others_items}
use Rattle.frame_diff.specs.Labels.{IsIndex, labels_of}
use Rattle.frame_diff.specs.Values.{kept_held}
use Rattle.frame_diff.specs.declared.kept.Kept.{Kept}
use Rattle.frame_diff.specs.declared.keyed.Labelled.{Labelled}
use Rattle.frame_diff.specs.declared.keys.Key.TheVariants as Keys
use Rattle.frame_diff.proofs.KeyedTold.{all_told}
use Rattle.frame_diff.proofs.kept.tell_others.Given as goal

abbrev pub invariant-loop-one : goal.invariant-loop-one
invariant-loop-one l =
    let is_state = l.pass.is_state in
    let text = joined l.path (codes "other") in
    record {
      place : l.place ≡ l.one-index;
      own : AreKept is_state l.own labels_of l.one-items;
      index : (others : List (Labelled (Option Kept))) → others ≡ l.theirs.items
          → IsIndex l.places (labels_now l.one-items) (labels_now others);
      told : with_members (objects (all_told Keys.Number kept_held l.pass.side text l.theirs.items
          (drop l.one-index l.one-items))) l.page
          ≡ with_members (objects (others_items l.pass.side text is_state l.own l.others)) l.fn.page;
    }
