use Rattle.std.proofs.Common.{◌∙◌, sym}
use Rattle.frame_diff.proofs.Walked.{rows_same}
use Rattle.frame_diff.proofs.list.by_name.tell_last.Goals as goal

pub tell_unless_same-requires-clause-alike : goal.tell_unless_same-requires-clause-alike
tell_unless_same-requires-clause-alike g c h =
    rows_same c.args.behind c.args.others c.args.own c.find_attribute-beside.result c.args.pass.is_alike
    c.requires.row c.find_attribute-beside.ensures.row c.requires.rows (sym c.is_alike-is_alike.ensures ∙ h)
