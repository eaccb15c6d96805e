use Rattle.std.proofs.Common.{ap, ◌∙◌}
use Rattle.shown.specs.Print.{ends_value}
use Rattle.shown.proofs.Sheets.{end_seen}
use Rattle.shown.proofs.sheet.Sheet.ends_value.Goals as goal

pub returns : goal.returns
returns c = end_seen _ c.self.inside.after_value c.self.invariant.1 ∙ ap ends_value c.self.view_is
