use Rattle.std.proofs.Common.{◌≡◌, drop}
use Rattle.shown.specs.Drafts.{with_begun, with_members}
use Rattle.shown.specs.declared.page.Nest.TheVariants as Nests
use Rattle.frame_diff.proofs.EachTold.{entry_members}
use Rattle.frame_diff.proofs.leaf.show.show_entries.Given as goal

abbrev pub invariant-loop-entry : goal.invariant-loop-entry
invariant-loop-entry g l =
    with_members (entry_members (g.D.Depth.nest l.cx) l.group (drop l.entry-index l.entries)) l.page
    ≡ with_members (entry_members (g.D.Depth.nest l.cx) l.group l.entries) (with_begun l.name Nests.List l.fn.page)
