-- Each byte string has one answer, and a fault is in one place.
use Rattle.std.proofs.Common.{◌≡◌, ℕ, ◌+◌, List, ◌++◌, length, inl, inr, refl, sym, ap, subst, ◌∙◌, arith, Result, Ok}
use Rattle.std.proofs.Common.{Err, length-append}
use Rattle.nla_wire.specs.Frames.{IsBytes}
use Rattle.nla_wire.specs.declared.error.Cause.{Cause}
use Rattle.nla_wire.proofs.Steps.{bytes_right}
use Rattle.link_msg.specs.Header.{header_size, header_of}
use Rattle.link_msg.specs.Tables.{attribute_place}
use Rattle.link_msg.specs.Messages.{Means, FirstFault, MessageFits, NoEmptyPorts, message_text, read_message}
use Rattle.link_msg.specs.Canonical.{HasText}
use Rattle.link_msg.specs.Nested.{in_attribute, outermost}
use Rattle.link_msg.specs.FaultAt.{FaultIn, FaultsAfter}
use Rattle.link_msg.specs.OneAnswer.{Answer, IsAnswer, EachHasOneAnswer, OneFault, FaultOrMeaning}
use Rattle.link_msg.specs.OneAnswer.{OneFaultPath, PathOfTheFault}
use Rattle.link_msg.specs.declared.message.LinkMessage.{LinkMessage}
use Rattle.link_msg.specs.declared.header.LinkHeader.{LinkHeader}
use Rattle.link_msg.proofs.Reading.{message_agrees}
use Rattle.link_msg.proofs.LawProofs.{one_message, after_same, front_same}
use Rattle.link_msg.proofs.Answering.{accepted_text}
use Rattle.link_msg.proofs.Decided.{fits_or_not, ports_or_not}
use Rattle.link_msg.proofs.Faults.{refused_means_none}
use Rattle.link_msg.proofs.Innermost.{one_fault}
use Rattle.link_msg.proofs.Sound.{first_of, sound_outermost}

-- ** one fault

pub fault_once : OneFault
fault_once b c d h k = let same = sym (message_agrees.refused b c h) ∙ message_agrees.refused b d k in cc

pub fault_or_meaning : FaultOrMeaning
fault_or_meaning b c m h = refused_means_none b c h m

-- ** one answer

answer_of : (b : List ℕ) → IsBytes b → (m : LinkMessage) → Means b m → (a : Answer) × IsAnswer b a
answer_of b bytes m means = elim (fits_or_not m) [
  | no not ↦ (Answer.Unfit, (m, means, not))
  | yes fits ↦
      elim (ports_or_not m) [
        | no not ↦ (Answer.EmptyPorts, (m, means, fits, not))
        | yes ports ↦ (
          Answer.Text (message_text m),
          accepted_text b (message_text m) m bytes (record { means = means; fits = fits; ports = ports }) refl,
        )
      ]
]

has_answer : (b : List ℕ) → IsBytes b → (r : Result LinkMessage Cause) → read_message b ≡ r
    → (a : Answer) × IsAnswer b a
has_answer b bytes (Ok m) is = answer_of b bytes m (message_agrees.found b m bytes is)
has_answer b bytes (Err c) is =
    let fault = message_agrees.fault b c bytes is in (Answer.Fault c, (fault, refused_means_none b c fault))

-- the message of a text, and whether it fits, are those of the bytes
one_text : (b s t : List ℕ) → HasText b s → HasText b t → s ≡ t
one_text b s t h k = h.text ∙ ap message_text (one_message b h.message k.message h.accepted.means k.accepted.means)
    ∙ sym k.text

fits_too : (b : List ℕ) (m n : LinkMessage) → Means b m → Means b n → MessageFits m → MessageFits n
fits_too b m n h k = subst MessageFits (one_message b m n h k)

ports_too : (b : List ℕ) (m n : LinkMessage) → Means b m → Means b n → NoEmptyPorts m → NoEmptyPorts n
ports_too b m n h k = subst NoEmptyPorts (one_message b m n h k)

only_answer : (b : List ℕ) (a other : Answer) → IsAnswer b a → IsAnswer b other → other ≡ a
only_answer b (Answer.Text s) (Answer.Text t) h k = ap Answer.Text (one_text b t s k h)
only_answer b (Answer.Text s) (Answer.Fault d) h k = absurd (k.1 h.message h.accepted.means)
only_answer b (Answer.Text s) Answer.Unfit h k =
    absurd (k.2 (fits_too b h.message k.0 h.accepted.means k.1 h.accepted.fits))
only_answer b (Answer.Text s) Answer.EmptyPorts h k =
    absurd (k.3 (ports_too b h.message k.0 h.accepted.means k.1 h.accepted.ports))
only_answer b (Answer.Fault c) (Answer.Text t) h k = absurd (h.1 k.message k.accepted.means)
only_answer b (Answer.Fault c) (Answer.Fault d) h k = ap Answer.Fault (fault_once b d c k.0 h.0)
only_answer b (Answer.Fault c) Answer.Unfit h k = absurd (h.1 k.0 k.1)
only_answer b (Answer.Fault c) Answer.EmptyPorts h k = absurd (h.1 k.0 k.1)
only_answer b Answer.Unfit (Answer.Text t) h k =
    absurd (h.2 (fits_too b k.message h.0 k.accepted.means h.1 k.accepted.fits))
only_answer b Answer.Unfit (Answer.Fault d) h k = absurd (k.1 h.0 h.1)
only_answer b Answer.Unfit Answer.Unfit h k = refl
only_answer b Answer.Unfit Answer.EmptyPorts h k = absurd (h.2 (fits_too b k.0 h.0 k.1 h.1 k.2))
only_answer b Answer.EmptyPorts (Answer.Text t) h k =
    absurd (h.3 (ports_too b k.message h.0 k.accepted.means h.1 k.accepted.ports))
only_answer b Answer.EmptyPorts (Answer.Fault d) h k = absurd (k.1 h.0 h.1)
only_answer b Answer.EmptyPorts Answer.Unfit h k = absurd (k.2 (fits_too b h.0 k.0 h.1 k.1 h.2))
only_answer b Answer.EmptyPorts Answer.EmptyPorts h k = refl

pub one_answer : EachHasOneAnswer
one_answer b bytes =
    let some = has_answer b bytes (read_message b) refl in
    record { answer = some.0; is = some.1; only = λ other h. only_answer b some.0 other some.1 h }

-- ** one place

after_fault : (b : List ℕ) (c : Cause) (at : ℕ) (numbers : List ℕ) → FaultsAfter b c at numbers → FirstFault b c
after_fault b c at numbers h =
    let place = attribute_place h.fields.interface_family in
    inr (
      h.header,
      h.attributes,
      h.fields,
      h.parts,
      h.says,
      first_of place (in_attribute h.fields.interface_family) h.attributes c h.inner numbers h.inside,
    )

pub path_of_fault : PathOfTheFault
path_of_fault b c at numbers (inl h) = inl (h.0, h.1)
path_of_fault b c at numbers (inr h) = after_fault b c at numbers h

-- the header of bytes, and what stands after it, are one
one_header : (b : List ℕ) (c d : Cause) (at there : ℕ) (numbers others : List ℕ) (h : FaultsAfter b c at numbers)
    (k : FaultsAfter b d there others) → (h.attributes ≡ k.attributes) × (h.fields ≡ k.fields)
one_header b c d at there numbers others h k =
    let size : length h.header ≡ length k.header = h.says.size ∙ sym k.says.size in
    let whole : h.header ++ h.attributes ≡ k.header ++ k.attributes = sym h.parts ∙ k.parts in
    let rest = after_same h.header k.header h.attributes k.attributes size whole in
    let front = front_same h.header k.header h.attributes k.attributes size whole in
    (sym rest, h.says.says ∙ ap header_of front ∙ sym k.says.says)

pub one_path : OneFaultPath
one_path b c d at there numbers others bytes (inl h) (inl k) = (h.1 ∙ sym k.1, h.2 ∙ sym k.2, h.3 ∙ sym k.3)
one_path b c d at there numbers others bytes (inl h) (inr k) =
    absurd (omega (arith, h.0, ap (λ (x : List ℕ). length x) k.parts, length-append k.header k.attributes, k.says.size))
one_path b c d at there numbers others bytes (inr h) (inl k) =
    absurd (omega (arith, k.0, ap (λ (x : List ℕ). length x) h.parts, length-append h.header h.attributes, h.says.size))
one_path b c d at there numbers others bytes (inr h) (inr k) =
    let same = one_header b c d at there numbers others h k in
    let family = h.fields.interface_family in
    let small = bytes_right h.header h.attributes (subst IsBytes h.parts bytes) in
    let other : FaultIn (outermost family) h.attributes d k.inner others =
    subst (λ x. FaultIn (outermost family) x d k.inner others) (sym same.0)
    (subst (λ (v : LinkHeader). FaultIn (outermost v.interface_family) k.attributes d k.inner others) (sym same.1)
    k.inside) in
    let once = one_fault (outermost family) (sound_outermost family) h.attributes small c d h.inner k.inner numbers
    others h.inside other in
    (once.0, h.place ∙ ap (λ n. header_size + n) once.1 ∙ sym k.place, once.2)
