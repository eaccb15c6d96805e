-- What the strict calls return is what the lenient ones return.
use Rattle.std.proofs.Common.{ℕ, List, sym, ap, ◌∙◌}
use Rattle.link_msg.specs.Messages.{message_text}
use Rattle.link_msg.specs.Canonical.{IsAccepted, HasText, IsUnfit, HasEmptyPorts}
use Rattle.link_msg.specs.Lenient.{IsLenientlyAccepted, HasLenientText, IsLenientlyUnfit, HasLenientPorts}
use Rattle.link_msg.specs.Lenient.{StrictAnswersStay}
use Rattle.link_msg.specs.declared.message.LinkMessage.{LinkMessage}
use Rattle.link_msg.proofs.Leniently.{strict_is_lenient, one_lenient}

pub of_text : (b t : List ℕ) → HasText b t → HasLenientText b t
of_text b t h = record {
  message = h.message;
  accepted = record {
    means = strict_is_lenient b h.message h.accepted.means;
    fits = h.accepted.fits;
    ports = h.accepted.ports;
  };
  text = h.text;
  reads_back = strict_is_lenient t h.message h.reads_back;
  short = h.short;
}

pub is_unfit : (b : List ℕ) → IsUnfit b → IsLenientlyUnfit b
is_unfit b (m, means, unfit) = (m, strict_is_lenient b m means, unfit)

pub has_ports : (b : List ℕ) → HasEmptyPorts b → HasLenientPorts b
has_ports b (m, means, fits, ports) = (m, strict_is_lenient b m means, fits, ports)

pub of_accepted : (b : List ℕ) (m : LinkMessage) → IsAccepted b m → IsLenientlyAccepted b m
of_accepted b m h = record { means = strict_is_lenient b m h.means; fits = h.fits; ports = h.ports }

pub strict_answers_stay : StrictAnswersStay
strict_answers_stay b = record {
  accepted = of_accepted b;
  text = λ t u h k. h.text ∙ ap message_text (one_lenient b h.message k.message
      (strict_is_lenient b h.message h.accepted.means) k.accepted.means) ∙ sym k.text;
  unfit = is_unfit b;
  ports = has_ports b;
}
