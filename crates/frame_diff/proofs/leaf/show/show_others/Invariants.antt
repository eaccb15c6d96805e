use Rattle.std.proofs.Common.{◌≡◌, drop}
use Rattle.shown.specs.Drafts.{with_begun, with_members}
use Rattle.shown.specs.declared.page.Nest.TheVariants as Nests
use Rattle.frame_diff.proofs.EachTold.{other_members}
use Rattle.frame_diff.proofs.leaf.show.show_others.Given as goal

abbrev pub invariant-loop-one : goal.invariant-loop-one
invariant-loop-one l =
    with_members (other_members (drop l.one-index l.others)) l.page
    ≡ with_members (other_members l.others) (with_begun l.name Nests.List l.fn.page)
