use Rattle.std.proofs.Common.{refl}
use Rattle.line_filter.proofs.Spelling.{IsTable-from_test}
use Rattle.line_filter.proofs.digits.values.Goals as goal

pub returns : goal.returns
returns c = IsTable-from_test _ refl
