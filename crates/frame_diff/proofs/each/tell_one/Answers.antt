use Rattle.std.proofs.Common.{◌-◌, ◌∙◌, [], ap, sym}
use Rattle.std.proofs.lemmas.Result.{on_ok_weaker}
use Rattle.std.specs.Prelude.{None, cond, nat_lt}
use Rattle.shown.specs.Drafts.{with_members}
use Rattle.frame_shown.specs.Items.{objects}
use Rattle.frame_diff.specs.Each.{one_shown}
use Rattle.frame_diff.specs.Forests.{is_text}
use Rattle.frame_diff.specs.Items.{leaf_items}
use Rattle.frame_diff.specs.Texts.{times_in}
use Rattle.frame_diff.proofs.each.tell_one.Goals as goal

pub returns-then-taken-clause-told : goal.returns-then-taken-clause-told
returns-then-taken-clause-told g c =
    let v = one_shown g.D.Depth.nest c.args.own.now c.args.value in
    sym (ap (λ b. with_members (objects (cond b [] (leaf_items c.args.side c.args.path.now v None))) c.args.page.now)
    (ap (λ t. nat_lt 0 (times_in c.args.counts.now t)) (sym c.in_ok-text.ensures)
    ∙ sym c.in_ok-taken.ensures.there ∙ c.if-taken.true))

pub returns-then-taken-clause-left : goal.returns-then-taken-clause-left
returns-then-taken-clause-left g c = λ other.
    c.in_ok-taken.ensures.left other
    ∙ ap (λ t. times_in c.args.counts.now other - cond (is_text other t) 1 0) c.in_ok-text.ensures

pub returns-clause-told : goal.returns-clause-told
returns-clause-told g c =
    let v = one_shown g.D.Depth.nest c.args.own.now c.args.value in
    on_ok_weaker c.tell_leaf.result (λ is. is ∙ sym (ap (λ b. with_members (objects (cond b []
    (leaf_items c.args.side c.args.path.now v None))) c.args.page.now)
    (ap (λ t. nat_lt 0 (times_in c.args.counts.now t)) (sym c.in_ok-text.ensures)
    ∙ sym c.in_ok-taken.ensures.there ∙ c.if-taken.false))) c.tell_leaf.ensures

pub returns-clause-left : goal.returns-clause-left
returns-clause-left g c =
    on_ok_weaker c.tell_leaf.result (λ is other. c.in_ok-taken.ensures.left other
    ∙ ap (λ t. times_in c.args.counts.now other - cond (is_text other t) 1 0) c.in_ok-text.ensures) c.tell_leaf.ensures
