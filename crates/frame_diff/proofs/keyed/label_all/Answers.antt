use Rattle.std.proofs.Common.{None, ap, sym, ◌∙◌}
use Rattle.frame_diff.specs.Keyed.{numbers_now}
use Rattle.frame_diff.specs.Labels.{are_ascending}
use Rattle.frame_diff.proofs.Labelled.{ascending}
use Rattle.frame_diff.proofs.keyed.label_all.Goals as goal

pub returns-then-are_ascending-clause-labels : goal.returns-then-are_ascending-clause-labels
returns-then-are_ascending-clause-labels g c =
    c.requires
    ∙ ascending (numbers_now c.args.values.now.items)
    (ap (λ vs. are_ascending None (numbers_now vs)) (sym c.as_slice.ensures.value)
    ∙ c.are_ascending.ensures ∙ c.if-are_ascending.true)
