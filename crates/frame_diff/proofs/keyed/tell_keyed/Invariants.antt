use Rattle.std.proofs.Common.{◌≡◌, List, drop}
use Rattle.shown.specs.Drafts.{with_members}
use Rattle.frame_shown.specs.Items.{objects}
use Rattle.frame_diff.specs.Groups.{labelled_inside}
use Rattle.frame_diff.specs.Items.{items_told}
use Rattle.frame_diff.specs.Keyed.{AreLabelled, labels_now}
use Rattle.frame_diff.specs.Labels.{IsIndex, labels_of}
use Rattle.frame_diff.specs.declared.keyed.Labelled.{Labelled}
use Rattle.frame_diff.specs.declared.walk.Attribute.{Attribute}
use Rattle.frame_diff.proofs.KeyedTold.{all_told, one_held}
use Rattle.frame_diff.proofs.keyed.tell_keyed.Given as goal

abbrev pub invariant-loop-one : goal.invariant-loop-one
invariant-loop-one g l =
    let nest = g.W.Depth.nest in
    let inner = g.W.Walk.inner in
    let is_state = l.pass.is_state in
    record {
      place : l.place ≡ l.one-index;
      own : AreLabelled is_state l.own labels_of l.one-items;
      others : AreLabelled is_state l.others labels_of l.theirs.items;
      index : (others : List (Labelled Attribute)) → others ≡ l.theirs.items
          → IsIndex l.places (labels_now l.one-items) (labels_now others);
      told : with_members (objects (all_told l.key (one_held nest inner is_state) l.pass.side l.path l.theirs.items
          (drop l.one-index l.one-items))) l.page
          ≡ with_members (objects (items_told l.pass.side l.path (labelled_inside nest inner is_state l.own)
          (labelled_inside nest inner is_state l.others))) l.fn.page;
    }
