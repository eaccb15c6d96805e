use Rattle.std.proofs.Common.{ap, ◌∙◌}
use Rattle.std.specs.Prelude.{not}
use Rattle.message_diff.proofs.Noted.{any_told}
use Rattle.message_diff.proofs.files.is_any.Goals as goal

pub returns : goal.returns
returns c = ap not c.is_empty.ensures ∙ any_told c.args.bytes.now
