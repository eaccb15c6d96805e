use Rattle.shown.proofs.Printed.{document-print, tokens-print}
use Rattle.shown.proofs.laws.law_printed.Goals as goal

pub returns-clause-values : goal.returns-clause-values
returns-clause-values c = document-print

pub returns-clause-tokens : goal.returns-clause-tokens
returns-clause-tokens c = tokens-print
