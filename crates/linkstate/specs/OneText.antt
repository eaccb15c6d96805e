-- What bytes mean has one state encoding.
use Rattle.std.proofs.Common.{refl, sym, ap, ◌∙◌}
use Rattle.link_msg.specs.Lenient.{MeansLeniently}
use Rattle.link_msg.specs.Messages.{Means, message_text}
use Rattle.link_msg.proofs.LawProofs.{one_message}
use Rattle.link_msg.proofs.Leniently.{means_or_not, one_lenient}
use Rattle.link_msg.specs.declared.message.LinkMessage.{LinkMessage}
use Rattle.link_state.specs.LenientState.{HasLenientState}
use Rattle.link_state.specs.State.{state, HasState}
use Rattle.message_lines.specs.Answers.{IsMeaning, IsEncoding}
use Rattle.message_lines.specs.OneAnswer.{one_meaning}

-- it is made of the one canonical text
pub one_text : IsEncoding Means HasState
one_text = record {
  meaning = one_meaning;
  has = λ b m bytes means fits ports. (
    state (message_text m),
    record {
      message = m;
      accepted = record { means = means; fits = fits; ports = ports };
      text = refl;
    },
  );
  accepts = λ b t h. (h.message, h.accepted.means, h.accepted.fits, h.accepted.ports);
  once = λ b s t bytes h k. h.text
      ∙ ap (λ (m : LinkMessage). state (message_text m))
      (one_message b h.message k.message h.accepted.means k.accepted.means)
      ∙ sym k.text;
}

-- ** what they mean leniently

one_lenient_meaning : IsMeaning MeansLeniently
one_lenient_meaning = record {
  once = one_lenient;
  decided = means_or_not;
}

pub one_lenient_text : IsEncoding MeansLeniently HasLenientState
one_lenient_text = record {
  meaning = one_lenient_meaning;
  has = λ b m bytes means fits ports. (
    state (message_text m),
    record {
      message = m;
      accepted = record { means = means; fits = fits; ports = ports };
      text = refl;
    },
  );
  accepts = λ b t h. (h.message, h.accepted.means, h.accepted.fits, h.accepted.ports);
  once = λ b s t bytes h k. h.text
      ∙ ap (λ (m : LinkMessage). state (message_text m))
      (one_lenient b h.message k.message h.accepted.means k.accepted.means)
      ∙ sym k.text;
}
