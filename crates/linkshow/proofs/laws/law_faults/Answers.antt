use Rattle.linkshow.proofs.Faults.{faults_are_refusals, lenient_faults_are_refusals}
use Rattle.linkshow.proofs.laws.law_faults.Goals as goal

pub returns-clause-strict : goal.returns-clause-strict
returns-clause-strict c = faults_are_refusals

pub returns-clause-lenient : goal.returns-clause-lenient
returns-clause-lenient c = lenient_faults_are_refusals
