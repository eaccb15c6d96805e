use Rattle.std.specs.Prelude.{◌==◌}
use Rattle.std.proofs.Common.{sym, ap, ◌∙◌}
use lib.Pointwise.{pointwise}
use Rattle.line_filter.proofs.Text.{take_rest}
use Rattle.line_filter.proofs.Front.{value_in-later}
use Rattle.line_filter.proofs.words.value_of.Goals as goal

pub loop-word-preserved : goal.loop-word-preserved
loop-word-preserved c =
    simp (take_rest, c.in-Some.ensures.len)
    (c.loop-word.invariant ∙ value_in-later c.args.key.now c.loop-word.rest.now c.in-Some.ensures.none
    (ap (λ t. pointwise ◌==◌ t c.args.key.now) (sym c.in-Some.ensures.key) ∙ sym c.if-eq.ensures))
