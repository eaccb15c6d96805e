use Rattle.link_msg.proofs.Leniently.{strict_is_lenient, one_lenient, fitting_is_read, lenient_text}
use Rattle.link_msg.proofs.Leniently.{same_lenient_text, lenient_twice}
use Rattle.link_msg.proofs.Stays.{strict_answers_stay}
use Rattle.link_msg.proofs.laws.law_lenient.Goals as goal

pub returns : goal.returns
returns c = record {
  strict = strict_is_lenient;
  answers = strict_answers_stay;
  one_meaning = one_lenient;
  fitting = fitting_is_read;
  means_the_same = lenient_text;
  same_text = same_lenient_text;
  twice = lenient_twice;
}
