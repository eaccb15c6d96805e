use Rattle.std.proofs.Common.{◌≡◌}
use Rattle.nla_wire.specs.Items.{items}
use Rattle.link_info.specs.Tables.{frames_in}
use Rattle.shown.specs.Drafts.{with_members}
use Rattle.frame_shown.specs.Items.{objects}
use Rattle.frame_diff.specs.Forests.{forest}
use Rattle.frame_diff.specs.Items.{items_told}
use Rattle.frame_diff.specs.Members.{named_in}
use Rattle.frame_diff.specs.Walked.{IsTail, named_at, reading_at}
use Rattle.frame_diff.proofs.list.tell_named.Given as goal

abbrev pub invariant-loop-item : goal.invariant-loop-item
invariant-loop-item g l =
    let nest = g.W.Depth.nest in
    let inner = g.W.Walk.inner in
    let r = reading_at nest inner l.pass.is_state l.own.around.now in
    let others = forest (named_at nest inner l.pass.is_state l.others) in
    record {
      left : items l.rest ≡ l.item-iterator;
      front : IsTail l.own.bytes.now l.rest;
      tail : IsTail l.others.bytes.now l.there;
      told : with_members (objects (items_told l.pass.side l.path
          (forest (named_in r l.own.list (frames_in l.item-iterator))) others)) l.page
          ≡ with_members (objects (items_told l.pass.side l.path
          (forest (named_at nest inner l.pass.is_state l.own)) others)) l.fn.page;
    }
