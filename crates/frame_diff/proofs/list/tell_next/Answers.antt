use Rattle.std.proofs.Common.{ap, sym, ◌∙◌}
use Rattle.std.specs.Prelude.{nat_lt}
use Rattle.frame_diff.proofs.There.{unnamed_page, large_unnamed}
use Rattle.frame_diff.proofs.list.tell_next.Goals as goal

pub returns-then-has_no_row-clause-told : goal.returns-then-has_no_row-clause-told
returns-then-has_no_row-clause-told g c =
    unnamed_page g.W.Depth.nest g.W.Walk.inner c.args.pass.is_state c.args.pass.side c.args.path.now c.args.behind
    c.args.others c.args.frame.now c.args.page.now
    (large_unnamed c.args.behind.around.now c.args.behind.list c.args.frame.now
    (ap (λ n. nat_lt n 256) (sym c.kind.ensures) ∙ c.has_no_row.ensures c.if-has_no_row.true))
