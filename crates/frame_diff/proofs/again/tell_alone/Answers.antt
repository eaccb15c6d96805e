use Rattle.std.proofs.Common.{◌∙◌, sym}
use Rattle.frame_diff.proofs.Walked.{row_known}
use Rattle.frame_diff.proofs.again.tell_alone.Goals as goal

pub tell_value-requires-clause-alike : goal.tell_value-requires-clause-alike
tell_value-requires-clause-alike g c h =
    row_known c.args.own.attribute c.under_name-there.result c.args.pass.is_alike
    (λ k. c.under_name-there.ensures.row c.args.own.attribute (c.requires.rows k)) (sym c.is_alike-is_alike.ensures ∙ h)
