use Rattle.std.proofs.Common.{ap, ◌∙◌, rules}
use Rattle.std.specs.Prelude.{unwrap_or}
use Rattle.frame_diff.proofs.Labelled.{counted}
use Rattle.frame_diff.proofs.labels.count.Goals as goal

pub returns-clause-now : goal.returns-clause-now
returns-clause-now c = λ other.
    ap (λ o. unwrap_or o 0) (c.in_ok-insert.ensures.updates.0 other)
    ∙ counted c.args.counts.now c.args.number other c.match-get.before (search rules)
