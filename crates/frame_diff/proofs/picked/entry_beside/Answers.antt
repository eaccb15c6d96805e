use Rattle.std.proofs.Common.{◌∙◌, Some, subst, sym}
use Rattle.frame_diff.specs.Walked.{HasNames, StandBeside}
use Rattle.frame_diff.proofs.picked.entry_beside.Goals as goal

pub returns-in-Some-clause-alike : goal.returns-in-Some-clause-alike
returns-in-Some-clause-alike c list a same stands =
    let there : StandBeside a (Some c.in-Some.other) = subst (StandBeside a) c.in-Some.is stands in
    (same ∙ there.0 ∙ sym c.entry_list.ensures.around, subst HasNames (sym same) there.1)
