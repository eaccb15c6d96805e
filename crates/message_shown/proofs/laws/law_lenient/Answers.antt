use Rattle.message_shown.proofs.AcceptedMeant.{accepted_are_meant}
use Rattle.message_shown.proofs.Leniently.{each_is_told}
use Rattle.message_shown.proofs.laws.law_lenient.Goals as goal

pub returns-clause-each : goal.returns-clause-each
returns-clause-each c = each_is_told

pub returns-clause-accepted : goal.returns-clause-accepted
returns-clause-accepted c = accepted_are_meant
