use Rattle.std.proofs.Common.{◌∙◌}
use Rattle.frame_diff.proofs.Records.{comes_is}
use Rattle.frame_diff.proofs.rows.comes.Goals as goal

pub returns : goal.returns
returns c cx = c.is_any_under.ensures ∙ comes_is cx c.args.name.now c.args.rows.now
