use Rattle.std.proofs.Common.{◌≡◌, ◌≤◌, ◌∙◌, ap, length, rules, sym}
use Rattle.std.proofs.lemmas.List.{drop_all}
use Rattle.std.proofs.lemmas.Result.{on_ok_weaker}
use Rattle.shown.specs.Drafts.{list_of, with_begun, with_members, with_value}
use Rattle.shown.specs.declared.page.Nest.TheVariants as Nests
use Rattle.shown.proofs.Drafts.{list_ended}
use Rattle.frame_diff.proofs.EachTold.{other_members, others_values}
use Rattle.frame_diff.proofs.leaf.show.show_others.Goals as goal

pub returns : goal.returns
returns c =
    let ks = c.args.others.now in
    let past : length ks ≤ c.loop-one.one-index = search rules in
    let filled : c.loop-one.page
    ≡ with_members (other_members ks) (with_begun c.args.name.now Nests.List c.args.page.now) =
    sym (ap (λ os. with_members (other_members os) c.loop-one.page) (drop_all c.loop-one.one-index ks past))
    ∙ c.loop-one.invariant in
    on_ok_weaker c.end.result (λ ends. list_ended c.args.name.now (other_members ks) c.args.page.now _ _ filled ends
    ∙ ap (λ tokens. with_value c.args.name.now (list_of tokens) c.args.page.now) (others_values ks)) c.end.ensures
