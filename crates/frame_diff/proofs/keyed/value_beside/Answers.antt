use Rattle.std.proofs.Common.{◌∙◌, subst}
use Rattle.frame_diff.specs.Keyed.{labels_now}
use Rattle.frame_diff.specs.Labels.{IsIndex}
use Rattle.frame_diff.proofs.Labelled.{found_along}
use Rattle.frame_diff.proofs.keyed.value_beside.Goals as goal

pub returns-in-Some : goal.returns-in-Some
returns-in-Some g c own place is =
    c.value_in.ensures own (subst (λ p. IsIndex p own (labels_now c.args.others.now)) c.in-Some.is is)

pub returns-in-None : goal.returns-in-None
returns-in-None g c own place is =
    c.value_there.ensures
    ∙ found_along c.args.label own c.args.others.now c.args.place place
    (subst (λ p. IsIndex p own (labels_now c.args.others.now)) c.in-None.is is)
