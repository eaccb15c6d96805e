use Rattle.std.proofs.Common.{◌∙◌, ap}
use Rattle.shown.specs.Print.{print}
use Rattle.shown.proofs.Sheets.{says_tokens}
use Rattle.shown.proofs.sheet.Sheet.into_bytes.Goals as goal

pub returns-clause-text : goal.returns-clause-text
returns-clause-text c = says_tokens _ c.self.inside.after_value c.self.invariant.1 ∙ ap print c.self.view_is
