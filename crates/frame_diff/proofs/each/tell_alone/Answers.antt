use Rattle.std.proofs.Common.{◌∙◌, ap, rules, sym}
use Rattle.std.proofs.lemmas.Result.{on_ok_weaker}
use Rattle.shown.specs.Drafts.{with_members}
use Rattle.frame_shown.specs.Items.{objects}
use Rattle.frame_diff.specs.Each.{one_shown}
use Rattle.frame_diff.proofs.EachTold.{alone_none, alone_some}
use Rattle.frame_diff.proofs.each.tell_alone.Goals as goal

pub returns-then-is_empty : goal.returns-then-is_empty
returns-then-is_empty g c =
    let f = one_shown g.D.Depth.nest c.args.own.now in
    on_ok_weaker c.tell_leaf.result (λ is. is ∙ sym (ap (λ os. with_members (objects os) c.args.page.now)
    (alone_none f c.args.own.now.values.items c.args.side c.args.path.now (f c.args.own.now.whole) (search rules))))
    c.tell_leaf.ensures

pub returns : goal.returns
returns g c =
    let f = one_shown g.D.Depth.nest c.args.own.now in
    on_ok_weaker c.tell_all.result (λ is. is ∙ sym (ap (λ os. with_members (objects os) c.args.page.now)
    (alone_some f c.args.own.now.values.items c.args.side c.args.path.now (f c.args.own.now.whole) (search rules))))
    c.tell_all.ensures
