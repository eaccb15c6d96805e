use Rattle.std.proofs.Common.{◌∙◌}
use Rattle.message_diff.proofs.Families.{family_read}
use Rattle.message_diff.proofs.reading.parse_family.Goals as goal

pub returns : goal.returns
returns c = c.ok.ensures.value ∙ family_read c.args.text.now c.parse.result c.parse.ensures.value.0
