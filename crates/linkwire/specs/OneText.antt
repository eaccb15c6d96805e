-- What bytes mean has one canonical text.
use Rattle.std.proofs.Common.{refl}
use Rattle.link_msg.specs.Messages.{Means, message_text}
use Rattle.link_msg.proofs.Answering.{accepted_text}
use Rattle.link_msg.specs.Canonical.{HasText}
use Rattle.message_lines.specs.Answers.{IsEncoding}
use Rattle.message_lines.specs.OneAnswer.{one_meaning, text_once}

pub one_text : IsEncoding Means HasText
one_text = record {
  meaning = one_meaning;
  has = λ b m bytes means fits ports. (
    message_text m,
    accepted_text b (message_text m) m bytes (record { means = means; fits = fits; ports = ports }) refl,
  );
  accepts = λ b t h. (h.message, h.accepted.means, h.accepted.fits, h.accepted.ports);
  once = λ b s t bytes h k. text_once b s t h k;
}
