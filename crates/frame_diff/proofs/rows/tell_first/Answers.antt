use Rattle.std.proofs.Common.{sym, ◌∙◌}
use Rattle.frame_diff.proofs.Alike.{no_first}
use Rattle.frame_diff.proofs.rows.tell_first.Goals as goal

pub returns-in-None : goal.returns-in-None
returns-in-None c =
    absurd (no_first c.args.cx.now c.args.theirs.now c.args.own c.args.behind.now c.args.there.now
    (sym c.first.ensures ∙ c.in-None.is) c.requires)
