use Rattle.std.proofs.Common.{◌≡◌, ◌+◌, List, drop, map}
use Rattle.json.specs.Token.{Token}
use Rattle.frame_diff.specs.Differences.{text_of}
use Rattle.frame_diff.specs.Each.{one_shown}
use Rattle.frame_diff.specs.Texts.{times, times_in}
use Rattle.frame_diff.proofs.each.count_all.Given as goal

abbrev pub invariant-loop-value : goal.invariant-loop-value
invariant-loop-value g l =
    let nest = g.D.Depth.nest in
    (v : List Token)
    → times_in l.counts (text_of v) + times v (map (one_shown nest l.list) (drop l.value-index l.value-items))
    ≡ times v (map (one_shown nest l.list) l.value-items)
