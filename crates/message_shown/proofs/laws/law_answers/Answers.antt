use Rattle.message_shown.proofs.Added.{begins_as, tells_as}
use Rattle.message_shown.proofs.Leniently.{begins_leniently, tells_leniently}
use Rattle.message_shown.proofs.laws.law_answers.Goals as goal

pub returns : goal.returns
returns c = record {
  begins = begins_as;
  begins_leniently = begins_leniently;
  tells = tells_as;
  tells_leniently = tells_leniently;
}
