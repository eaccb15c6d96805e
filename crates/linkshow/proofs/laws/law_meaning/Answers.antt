use Rattle.linkshow.proofs.Meant.{answers_meant, lenient_answers_meant}
use Rattle.linkshow.proofs.laws.law_meaning.Goals as goal

pub returns-clause-strict : goal.returns-clause-strict
returns-clause-strict c = answers_meant

pub returns-clause-lenient : goal.returns-clause-lenient
returns-clause-lenient c = lenient_answers_meant
