use Rattle.std.proofs.Common.{◌≡◌, List, drop, map}
use Rattle.json.specs.Token.{Token}
use Rattle.shown.specs.Drafts.{with_members}
use Rattle.frame_shown.specs.Items.{objects}
use Rattle.frame_diff.specs.Each.{each_shown, one_shown}
use Rattle.frame_diff.specs.Items.{each_items}
use Rattle.frame_diff.specs.Texts.{left_over, over_behind}
use Rattle.frame_diff.proofs.EachTold.{HasLeft}
use Rattle.frame_diff.proofs.each.tell_over.Given as goal

abbrev pub invariant-loop-value : goal.invariant-loop-value
invariant-loop-value g l =
    let f = one_shown g.D.Depth.nest l.own in
    let ws = each_shown g.D.Depth.nest l.other in
    (before : List (List Token)) × HasLeft l.counts before ws
    × (with_members (objects (each_items l.side l.path (over_behind before ws (map f (drop l.value-index
    l.value-items))))) l.page
    ≡ with_members (objects (each_items l.side l.path (left_over ws (map f l.value-items)))) l.fn.page)
