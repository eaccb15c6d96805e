use Rattle.linkshow.proofs.Begun.{answers_begin, lenient_answers_begin}
use Rattle.linkshow.proofs.laws.law_begin.Goals as goal

pub returns : goal.returns
returns c = record { strict = answers_begin; lenient = lenient_answers_begin }
