use Rattle.std.proofs.Common.{◌≡◌, ◌≤◌, ◌∙◌, ap, length, rules, sym}
use Rattle.std.proofs.lemmas.List.{drop_all}
use Rattle.std.proofs.lemmas.Result.{on_ok_weaker}
use Rattle.shown.specs.Drafts.{list_of, with_begun, with_members, with_value}
use Rattle.shown.specs.declared.page.Nest.TheVariants as Nests
use Rattle.shown.proofs.Drafts.{list_ended}
use Rattle.frame_diff.proofs.EachTold.{entries_values, entry_members}
use Rattle.frame_diff.proofs.leaf.show.show_entries.Goals as goal

pub returns : goal.returns
returns g c =
    let nest = g.D.Depth.nest c.args.cx.now in
    let es = c.args.entries.now in
    let past : length es ≤ c.loop-entry.entry-index = search rules in
    let filled : c.loop-entry.page
    ≡ with_members (entry_members nest c.args.group es) (with_begun c.args.name.now Nests.List c.args.page.now) =
    sym (ap (λ os. with_members (entry_members nest c.args.group os) c.loop-entry.page)
    (drop_all c.loop-entry.entry-index es past)) ∙ c.loop-entry.invariant in
    on_ok_weaker c.end.result (λ ends. list_ended c.args.name.now (entry_members nest c.args.group es) c.args.page.now
    _ _ filled ends
    ∙ ap (λ tokens. with_value c.args.name.now (list_of tokens) c.args.page.now)
    (entries_values nest c.args.group es)) c.end.ensures
