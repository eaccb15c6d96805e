-- Canonical encoding of what bytes mean leniently: measured, and written after its header.
use Rattle.std.proofs.Common.{◌≡◌, ◌≢◌, ℕ, ◌+◌, ◌-◌, ◌^◌, ◌<◌, ◌≤◌, List, [], ◌++◌, length, take, drop, refl, sym}
use Rattle.std.proofs.Common.{ap, ◌∙◌, subst, arith, inr, append-nil, Result, Ok, Err, Some, None}
use Rattle.std.proofs.Common.{Bool, false, true, MatchBool}
use Rattle.std.proofs.lemmas.List.{drop_all}
use Rattle.std.specs.List.{AllByRecursion}
use borrow.Rule.Slice.PartMut.{put_mid}
use Rattle.nla_wire.specs.Frames.{IsBytes}
use Rattle.nla_wire.specs.Grammar.{list}
use Rattle.nla_wire.specs.Canon.{canons, AllFit, HasRoom, Rewrites, Writes}
use Rattle.nla_wire.specs.declared.error.Cause.{Cause}
use Rattle.nla_wire.specs.declared.error.Cause.TheVariants.{OutOfMemory}
use Rattle.nla_wire.specs.declared.error.Cause.TheVariants as Causes
use Rattle.nla_wire.specs.declared.error.DecodeError.{DecodeError}
use Rattle.nla_wire.proofs.Meaning.{never_both}
use Rattle.nla_wire.proofs.Steps.{bytes_right}
use Rattle.link_msg.specs.Header.{header_size, header_of, IsHeader, header_bytes}
use Rattle.link_msg.specs.Tables.{attribute_frame, AttributeFits, NotEmptyPorts}
use Rattle.link_msg.specs.Messages.{message_text, MessageFits}
use Rattle.link_msg.specs.CanonErrors.{refusal_for, refusal_of}
use Rattle.link_msg.specs.Canonical.{ListWeighs}
use Rattle.link_msg.specs.Lenient.{MeansLeniently, MeansNoneLeniently, LenientFault, FaultBy, message_by, lenient_place}
use Rattle.link_msg.specs.Lenient.{IsLenientlyAccepted, HasLenientText, IsLenientRefusalAlone, IsLenientlyMeasured}
use Rattle.link_msg.specs.Lenient.{IsLenientlyUnfit, HasLenientPorts, IsLenientRefusal}
use Rattle.link_msg.specs.LenientTable.{lenient_lawful}
use Rattle.link_msg.specs.declared.encoding.CanonError.{CanonError}
use Rattle.link_msg.specs.declared.attribute.LinkAttribute.{LinkAttribute}
use Rattle.link_msg.specs.declared.header.LinkHeader.{LinkHeader}
use Rattle.link_msg.specs.declared.message.LinkMessage.{LinkMessage}
use Rattle.link_msg.specs.declared.encoding.CanonError.TheVariants as Refusals
use Rattle.link_msg.proofs.MessagesBy.{parts, is_header, agree_by, agrees_by, back_by, bounded_by}
use Rattle.link_msg.proofs.Leniently.{fault_of_frames}
use Rattle.nla_wire.proofs.Canonical.{write_on}
use Rattle.link_msg.proofs.Messaging.{header_length, text_length, attributes_counted}

-- ** refusals

decoded : (e : DecodeError) → Refusals.Decode e ≢ Refusals.OutOfMemory
decoded e same = absurd cc

refused_by : (b : List ℕ) (e : DecodeError) (c : Cause) → e.cause ≡ c → LenientFault b e.cause → e.cause ≢ OutOfMemory
    → MeansNoneLeniently b → IsLenientRefusalAlone b (refusal_for c e)
refused_by b e Causes.OutOfMemory is fault memory none = absurd (memory is)
refused_by b e (Causes.TooShort got need) is fault memory none = ((fault, memory, none), decoded e)
refused_by b e (Causes.FrameShort left) is fault memory none = ((fault, memory, none), decoded e)
refused_by b e (Causes.FrameOver len left) is fault memory none = ((fault, memory, none), decoded e)
refused_by b e (Causes.FrameUnder len) is fault memory none = ((fault, memory, none), decoded e)
refused_by b e Causes.EmptyList is fault memory none = ((fault, memory, none), decoded e)
refused_by b e (Causes.WrongLength got want) is fault memory none = ((fault, memory, none), decoded e)
refused_by b e Causes.NotUtf8 is fault memory none = ((fault, memory, none), decoded e)
refused_by b e Causes.InvalidState is fault memory none = ((fault, memory, none), decoded e)

-- the canonical encoding of an accepted message
lenient_accepted_text : (b t : List ℕ) (m : LinkMessage) → IsBytes b → IsLenientlyAccepted b m → t ≡ message_text m
    → HasLenientText b t
lenient_accepted_text b t m bytes h is = record {
  message = m;
  accepted = h;
  text = is;
  reads_back = subst (λ x. MeansLeniently x m) (sym is)
      (back_by lenient_place lenient_lawful b m bytes h.means h.fits h.ports);
  short = omega (
    arith,
    (bounded_by lenient_place lenient_lawful b m bytes h.means).short,
    ap (λ (x : List ℕ). length x) is,
  );
}

-- ** measured: a header and what stands after it

module _ (b : List ℕ) (v : LinkHeader) (d : List ℕ) (long : header_size ≤ length b)
    (v_is : v ≡ header_of (take header_size b)) (d_is : d ≡ drop header_size b) where
  whole : b ≡ take header_size b ++ d
  whole = parts b long ∙ ap (λ x. take header_size b ++ x) (sym d_is)

  header : IsHeader (take header_size b) v
  header = record { size = (is_header b long).size; says = v_is }

  after_means : (vs : List LinkAttribute) → (list (lenient_place v.interface_family)).means d vs
      → MeansLeniently b (record { header = v; attributes = vs })
  after_means vs means = (take header_size b, d, whole, header, means)

  -- the attributes are refused
  pub measured_refused : (e : DecodeError) → (list (lenient_place v.interface_family)).bad d e.cause
      → e.cause ≢ OutOfMemory → IsLenientRefusalAlone b (refusal_of e)
  measured_refused e fault memory =
      let refused : FaultBy lenient_place b e.cause = inr (take header_size b, d, v, whole, header, fault) in
      refused_by b e e.cause refl (fault_of_frames b e.cause refused) memory
      (λ m means. never_both IsBytes (message_by lenient_place) (agrees_by lenient_place lenient_lawful) b m e.cause
      means refused)

  -- not all of the attributes fit
  pub measured_none : (vs : List LinkAttribute) → (list (lenient_place v.interface_family)).means d vs
      → ListWeighs ((list (lenient_place v.interface_family)).reads d) None → IsLenientlyUnfit b
  measured_none vs means none =
      let m : LinkMessage = record { header = v; attributes = vs } in
      let unfit : AllFit AttributeFits attribute_frame vs → ⊥ =
      subst (λ r. ListWeighs r None)
      ((agree_by lenient_place lenient_lawful v.interface_family).only d vs means) none in
      (m, after_means vs means, λ fits. unfit (fits.0, attributes_counted m fits))

  weighed : (r : Result (List LinkAttribute) Cause) (w : ℕ × Bool) → ListWeighs r (Some w)
      → (vs : List LinkAttribute)
      × (r ≡ Ok vs) × AllFit AttributeFits attribute_frame vs × (w.0 ≡ length (canons attribute_frame vs))
      × MatchBool w.1 (AllByRecursion NotEmptyPorts vs → ⊥) (AllByRecursion NotEmptyPorts vs)
  weighed (Ok vs) w h = (vs, refl, h.0, h.1, h.2)
  weighed (Err c) w h = absurd h

  module _ (bytes : IsBytes b) (n : ℕ) (empty : Bool)
      (h : ListWeighs ((list (lenient_place v.interface_family)).reads d) (Some (n, empty))) where
    measured : (vs : List LinkAttribute) × ((list (lenient_place v.interface_family)).reads d ≡ Ok vs)
        × AllFit AttributeFits attribute_frame vs × (n ≡ length (canons attribute_frame vs))
        × MatchBool empty (AllByRecursion NotEmptyPorts vs → ⊥) (AllByRecursion NotEmptyPorts vs)
    measured = weighed ((list (lenient_place v.interface_family)).reads d) (n, empty) h

    after_bytes : IsBytes d
    after_bytes = bytes_right (take header_size b) d (subst IsBytes whole bytes)

    message_read : LinkMessage
    message_read = record { header = v; attributes = measured.0 }

    read_means : MeansLeniently b message_read
    unfolding message_read
    read_means =
        after_means measured.0
        ((agree_by lenient_place lenient_lawful v.interface_family).found d measured.0 after_bytes measured.1)

    -- the text is longer than the machine can count
    pub measured_long : (header_size + n < 2 ^ 64 → ⊥) → IsLenientlyUnfit b
    unfolding message_read
    measured_long over =
        (message_read, read_means, λ fits. over (omega (arith, text_length message_read, fits.1, measured.3)))

    read_fits : header_size + n < 2 ^ 64 → MessageFits message_read
    unfolding message_read
    read_fits counted = (measured.2.0, omega (arith, text_length message_read, measured.3, counted))

    -- an empty list of ports is among the attributes
    pub measured_empty : empty ≡ true → header_size + n < 2 ^ 64 → HasLenientPorts b
    unfolding message_read
    measured_empty is counted = (
      message_read,
      read_means,
      read_fits counted,
      subst (λ t. MatchBool t (AllByRecursion NotEmptyPorts measured.0 → ⊥)
          (AllByRecursion NotEmptyPorts measured.0)) is measured.4,
    )

    pub measured_whole : empty ≡ false → header_size + n < 2 ^ 64 → IsLenientlyMeasured b v d n
    unfolding message_read
    measured_whole is counted = record {
      attributes = measured.0;
      accepted = record {
        means = read_means;
        fits = read_fits counted;
        ports = subst (λ t. MatchBool t (AllByRecursion NotEmptyPorts measured.0 → ⊥)
            (AllByRecursion NotEmptyPorts measured.0)) is measured.4;
      };
      reads = measured.1;
      len = measured.3;
    }

-- ** written

module _ (b : List ℕ) (v : LinkHeader) (d : List ℕ) (n : ℕ) (h : IsLenientlyMeasured b v d n) where
  pub measured_message : LinkMessage
  measured_message = record { header = v; attributes = h.attributes }

  pub measured_accepted : IsLenientlyAccepted b measured_message
  unfolding measured_message
  measured_accepted = h.accepted

  pub measured_length : header_size + n ≡ length (message_text measured_message)
  unfolding measured_message
  measured_length = omega (arith, text_length (record { header = v; attributes = h.attributes }), h.len)

  pub measured_room : (room : ℕ) → n ≤ room → HasRoom (canons attribute_frame) (AllFit AttributeFits attribute_frame)
      ((list (lenient_place v.interface_family)).reads d) room
  measured_room room enough =
      subst (λ r. HasRoom (canons attribute_frame) (AllFit AttributeFits attribute_frame) r room) (sym h.reads) (
        (h.accepted.fits.0, attributes_counted (record { header = v; attributes = h.attributes }) h.accepted.fits),
        omega (arith, enough, h.len),
      )

  pub measured_writes : (old new : List ℕ) (k : ℕ)
      → Rewrites (λ vs. header_bytes v ++ canons attribute_frame vs)
      ((list (lenient_place v.interface_family)).reads d) old new k
      → Writes (message_text measured_message) old new k
  unfolding measured_message
  measured_writes old new k w =
      subst (λ r. Rewrites (λ vs. header_bytes v ++ canons attribute_frame vs) r old new k) h.reads w

  -- memory of exactly the text's length
  pub measured_text : (old new : List ℕ) (k : ℕ) → IsBytes b → length old ≡ header_size + n
      → Rewrites (λ vs. header_bytes v ++ canons attribute_frame vs)
      ((list (lenient_place v.interface_family)).reads d) old new k → HasLenientText b new
  measured_text old new k bytes exact w =
      let one = measured_writes old new k w in
      let rest : drop k old ≡ [] = drop_all k old (omega (arith, exact, one.length_is, measured_length)) in
      lenient_accepted_text b new measured_message bytes measured_accepted (one.new_is
      ∙ ap (λ (t : List ℕ). message_text measured_message ++ t) rest ∙ append-nil (message_text measured_message))

-- the header, and the attributes after it
pub written_after : (v : LinkHeader) (r : Result (List LinkAttribute) Cause) (old emitted part : List ℕ) (count n : ℕ)
    → emitted ≡ header_bytes v ++ drop header_size old → count ≡ length emitted - header_size
    → Rewrites (canons attribute_frame) r (take count (drop header_size emitted)) part n
    → Rewrites (λ vs. header_bytes v ++ canons attribute_frame vs) r old (put_mid header_size count emitted part)
    (header_size + n)
written_after v (Ok vs) old emitted part count n is counted w =
    subst (λ k. Writes (header_bytes v ++ canons attribute_frame vs) old (put_mid header_size k emitted part)
    (header_size + n)) (sym counted)
    (write_on (header_bytes v) (canons attribute_frame vs) old emitted part header_size n
    (record { length_is = sym (header_length v); new_is = is })
    (subst (λ k. Writes (canons attribute_frame vs) (take k (drop header_size emitted)) part n) counted w))
written_after v (Err c) old emitted part count n is counted w = tt

pub refused_any : (b : List ℕ) (e : CanonError) → IsLenientRefusalAlone b e → IsLenientRefusal b e
refused_any b e h = h.0
