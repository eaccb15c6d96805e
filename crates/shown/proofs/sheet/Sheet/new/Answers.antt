use Rattle.std.proofs.Common.{refl, arith}
use Rattle.json.specs.Lex.{lex, punctuate}
use Rattle.shown.proofs.Sheets.{none_said}
use Rattle.shown.proofs.sheet.Sheet.new.Goals as goal

pub invariant_of-result : goal.invariant_of-result
invariant_of-result c = (omega arith, none_said)

pub returns : goal.returns
unfolding lex punctuate
returns c = refl
