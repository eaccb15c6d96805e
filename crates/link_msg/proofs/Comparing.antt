-- Two messages that were measured.
use Rattle.std.proofs.Common.{◌≡◌, ℕ, ◌+◌, List, [], ◌++◌, length, take, drop, ap, sym, ◌∙◌, append-nil, arith}
use Rattle.std.proofs.Common.{Ok}
use Rattle.std.proofs.Common.{subst}
use Rattle.std.proofs.lemmas.List.{append_cancel_left, drop_all, take_all, take_at}
use Rattle.std.specs.Prelude.{Bool, false, IsTrue, ◌↔◌}
use Rattle.nla_wire.specs.Frames.{IsBytes}
use Rattle.nla_wire.specs.Reading.{list_of, with_front}
use Rattle.nla_wire.specs.Grammar.{list}
use Rattle.nla_wire.specs.Canon.{canons, Rewrites}
use Rattle.nla_wire.proofs.Lists.{list_nil}
use Rattle.link_msg.specs.Header.{header_size, header_bytes}
use Rattle.link_msg.specs.Tables.{attribute_frame, attribute_place}
use Rattle.link_msg.specs.Messages.{message_text}
use Rattle.link_msg.specs.Canonical.{IsMeasured, HasText, AreSame}
use Rattle.link_msg.specs.Prefixes.{IsPrefix}
use Rattle.link_msg.specs.declared.attribute.LinkAttribute.{LinkAttribute}
use Rattle.link_msg.specs.declared.header.LinkHeader.{LinkHeader}
use Rattle.link_msg.specs.declared.message.LinkMessage.{LinkMessage}
use Rattle.link_msg.proofs.Answering.{accepted_text, encodings_compared}
use Rattle.link_msg.proofs.LawProofs.{same_text}
use Rattle.link_msg.proofs.Writing.{measured_message, measured_accepted, measured_length, measured_text, exact_text}

-- encodings of two lengths are two
pub lengths_compared : (a b : List ℕ) (v w : LinkHeader) (d e : List ℕ) (n k : ℕ) → IsMeasured a v d n
    → IsMeasured b w e k → (n ≡ k → ⊥) → AreSame a b false
lengths_compared a b v w d e n k first second differ =
    let one = measured_length a v d n first in
    let other = measured_length b w e k second in
    let apart : message_text (measured_message a v d n first) ≡ message_text (measured_message b w e k second) → ⊥ =
    λ same. differ (omega (arith, one, other, ap (λ (x : List ℕ). length x) same)) in (
      measured_message a v d n first,
      measured_message b w e k second,
      record {
        first = measured_accepted a v d n first;
        second = measured_accepted b w e k second;
        messages = (λ h. absurd cc, λ e. absurd (apart (ap message_text e)));
        texts = (λ h. absurd cc, λ e. absurd (apart e));
      },
    )

-- a buffer of just the text's length, and what stands after it
pub short_text : (old b : List ℕ) (v : LinkHeader) (d : List ℕ) (n : ℕ) → IsMeasured b v d n
    → (new rest : List ℕ) (k : ℕ) → IsBytes b
    → Rewrites (λ vs. header_bytes v ++ canons attribute_frame vs)
    ((list (attribute_place v.interface_family)).reads d) old new k
    → length old ≡ header_size + n → HasText b (take (header_size + n) (new ++ rest))
short_text old b v d n h new rest k bytes written exact =
    let has : HasText b new = measured_text b v d n h old new k bytes exact written in
    let size : length new ≡ header_size + n =
    ap (λ (t : List ℕ). length t) (exact_text b v d n h old new k exact written) ∙ sym (measured_length b v d n h) in
    subst (HasText b) (sym (take_at new rest (header_size + n) size)) has

-- the attributes are canonical as they are spelled: the text is that of the header and these bytes
spelled_text : (b : List ℕ) (v : LinkHeader) (d : List ℕ) (n : ℕ) (h : IsMeasured b v d n)
    → IsPrefix v.interface_family d (length d) → message_text (measured_message b v d n h) ≡ header_bytes v ++ d
unfolding measured_message
spelled_text b v d n h r =
    let read = (attribute_place v.interface_family).reads in
    let rest : drop (length d) d ≡ [] = drop_all (length d) d (omega arith) in
    let none : list_of read (drop (length d) d) ≡ Ok [] = ap (list_of read) rest ∙ list_nil read in
    let front : Ok (r.front ++ []) ≡ Ok h.attributes = sym (ap (with_front r.front) none) ∙ r.parts ∙ h.reads in
    let same : r.front ++ [] ≡ h.attributes = cc in
    let all : take (length d) d ≡ d = take_all (length d) d (omega arith) in
    ap (λ (t : List ℕ). header_bytes v ++ t)
    (ap (λ (vs : List LinkAttribute). canons attribute_frame vs) (sym same ∙ append-nil r.front) ∙ r.text_is ∙ all)

-- two messages whose attributes are canonical as they are spelled
module _ (a b : List ℕ) (v w : LinkHeader) (d e : List ℕ) (n k : ℕ) (bytes_a : IsBytes a) (bytes_b : IsBytes b)
    (first : IsMeasured a v d n) (second : IsMeasured b w e k) (of_v : IsPrefix v.interface_family d (length d))
    (of_w : IsPrefix w.interface_family e (length e)) where
  one_text : message_text (measured_message a v d n first) ≡ header_bytes v ++ d
  one_text = spelled_text a v d n first of_v

  other_text : message_text (measured_message b w e k second) ≡ header_bytes w ++ e
  other_text = spelled_text b w e k second of_w

  has_one : HasText a (header_bytes v ++ d)
  has_one =
      accepted_text a (header_bytes v ++ d) (measured_message a v d n first) bytes_a (measured_accepted a v d n first)
      (sym one_text)

  has_other : HasText b (header_bytes w ++ e)
  has_other =
      accepted_text b (header_bytes w ++ e) (measured_message b w e k second) bytes_b
      (measured_accepted b w e k second) (sym other_text)

  one_header : header_bytes v ++ d ≡ header_bytes w ++ e → v ≡ w
  unfolding measured_message
  one_header same =
      let one = measured_accepted a v d n first in
      let other = measured_accepted b w e k second in
      let texts = same_text a b (measured_message a v d n first) (measured_message b w e k second) bytes_a bytes_b
      one.means other.means one.fits other.fits one.ports other.ports in
      ap (λ (m : LinkMessage). m.header) (texts.0 (one_text ∙ same ∙ sym other_text))

  one_rest : v ≡ w → header_bytes v ++ d ≡ header_bytes w ++ e → d ≡ e
  one_rest same texts =
      append_cancel_left (header_bytes w) d e (ap (λ h. header_bytes h ++ d) (sym same) ∙ texts)

  pub spellings_compared : (answer : Bool) → (IsTrue answer ↔ ((v ≡ w) × (d ≡ e))) → AreSame a b answer
  spellings_compared answer same =
      encodings_compared a b (header_bytes v ++ d) (header_bytes w ++ e) answer bytes_a bytes_b has_one has_other (
        λ is. ap (λ h. header_bytes h ++ d) (same.0 is).0 ∙ ap (λ (t : List ℕ). header_bytes w ++ t) (same.0 is).1,
        λ texts. same.1 (one_header texts, one_rest (one_header texts) texts),
      )
