-- Canonical encoding of a message: measured, and written after its header.
use Rattle.std.proofs.Common.{◌≡◌, ◌≢◌, ℕ, ◌+◌, ◌-◌, ◌^◌, ◌<◌, ◌≤◌, List, [], ◌++◌, length, take, drop, refl, sym}
use Rattle.std.proofs.Common.{ap, ◌∙◌, subst, arith, inr, append-nil, Result, Ok, Err, Some, None}
use Rattle.std.proofs.Common.{Bool, false, true, MatchBool}
use Rattle.std.proofs.Common.{append_assoc, length-append, drop-drop}
use Rattle.std.proofs.Common.{replicate}
use Rattle.std.proofs.lemmas.List.{drop_all, drop_at, take_at, length-take-le, length-replicate}
use Rattle.std.specs.List.{AllByRecursion}
use borrow.Rule.Slice.PartMut.{put_mid}
use Rattle.nla_wire.specs.Frames.{IsBytes}
use Rattle.nla_wire.specs.Grammar.{list}
use Rattle.nla_wire.specs.Canon.{canons, AllFit, HasRoom, Rewrites, Writes}
use Rattle.nla_wire.specs.declared.error.Cause.{Cause}
use Rattle.nla_wire.specs.declared.error.Cause.TheVariants.{OutOfMemory}
use Rattle.nla_wire.specs.declared.error.Cause.TheVariants as Causes
use Rattle.nla_wire.specs.declared.error.DecodeError.{DecodeError}
use Rattle.nla_wire.proofs.Meaning.{never_both}
use Rattle.nla_wire.proofs.Steps.{bytes_right}
use Rattle.link_msg.specs.Header.{header_size, header_of, IsHeader, header_bytes}
use Rattle.link_msg.specs.Tables.{attribute_frame, AttributeFits, NotEmptyPorts, attribute_place}
use Rattle.link_msg.specs.Messages.{Means, FirstFault, MeansNothing, message, message_text, MessageFits}
use Rattle.link_msg.specs.CanonErrors.{refusal_for, refusal_of}
use Rattle.link_msg.specs.Canonical.{IsAccepted, HasText, IsRefusalAlone, IsUnfit, HasEmptyPorts, ListWeighs}
use Rattle.link_msg.specs.Canonical.{IsMeasured}
use Rattle.link_msg.specs.Prefixes.{IsPrefix, attribute_text}
use Rattle.link_msg.specs.declared.attribute.LinkAttribute.{LinkAttribute}
use Rattle.link_msg.specs.declared.header.LinkHeader.{LinkHeader}
use Rattle.link_msg.specs.declared.message.LinkMessage.{LinkMessage}
use Rattle.link_msg.specs.declared.encoding.CanonError.TheVariants as Refusals
use Rattle.link_msg.proofs.MessagesBy.{parts, is_header}
use Rattle.link_msg.proofs.Reading.{message_agrees, attributes_agree}
use Rattle.link_msg.proofs.Messaging.{header_length, text_length, attributes_counted}
use Rattle.link_msg.proofs.Answering.{accepted_text}
use Rattle.link_msg.proofs.Prefixes.{prefix_within}

-- ** refusals

decoded : (e : DecodeError) → Refusals.Decode e ≢ Refusals.OutOfMemory
decoded e same = absurd cc

refused_by : (b : List ℕ) (e : DecodeError) (c : Cause) → e.cause ≡ c → FirstFault b e.cause → e.cause ≢ OutOfMemory
    → MeansNothing b → IsRefusalAlone b (refusal_for c e)
refused_by b e Causes.OutOfMemory is fault memory none = absurd (memory is)
refused_by b e (Causes.TooShort got need) is fault memory none = ((fault, memory, none), decoded e)
refused_by b e (Causes.FrameShort left) is fault memory none = ((fault, memory, none), decoded e)
refused_by b e (Causes.FrameOver len left) is fault memory none = ((fault, memory, none), decoded e)
refused_by b e (Causes.FrameUnder len) is fault memory none = ((fault, memory, none), decoded e)
refused_by b e Causes.EmptyList is fault memory none = ((fault, memory, none), decoded e)
refused_by b e (Causes.WrongLength got want) is fault memory none = ((fault, memory, none), decoded e)
refused_by b e Causes.NotUtf8 is fault memory none = ((fault, memory, none), decoded e)
refused_by b e Causes.InvalidState is fault memory none = ((fault, memory, none), decoded e)

-- ** measured: a header and what stands after it

module _ (b : List ℕ) (v : LinkHeader) (d : List ℕ) (long : header_size ≤ length b)
    (v_is : v ≡ header_of (take header_size b)) (d_is : d ≡ drop header_size b) where
  whole : b ≡ take header_size b ++ d
  whole = parts b long ∙ ap (λ x. take header_size b ++ x) (sym d_is)

  header : IsHeader (take header_size b) v
  header = record { size = (is_header b long).size; says = v_is }

  after_means : (vs : List LinkAttribute) → (list (attribute_place v.interface_family)).means d vs
      → Means b (record { header = v; attributes = vs })
  after_means vs means = (take header_size b, d, whole, header, means)

  -- the attributes are refused
  pub measured_refused : (e : DecodeError) → (list (attribute_place v.interface_family)).bad d e.cause
      → e.cause ≢ OutOfMemory → IsRefusalAlone b (refusal_of e)
  measured_refused e fault memory =
      let refused : FirstFault b e.cause = inr (take header_size b, d, v, whole, header, fault) in
      refused_by b e e.cause refl refused memory
      (λ m means. never_both IsBytes message message_agrees b m e.cause means refused)

  -- not all of the attributes fit
  pub measured_none : (vs : List LinkAttribute) → (list (attribute_place v.interface_family)).means d vs
      → ListWeighs ((list (attribute_place v.interface_family)).reads d) None → IsUnfit b
  measured_none vs means none =
      let m : LinkMessage = record { header = v; attributes = vs } in
      let unfit : AllFit AttributeFits attribute_frame vs → ⊥ =
      subst (λ r. ListWeighs r None) ((attributes_agree v.interface_family).only d vs means) none in
      (m, after_means vs means, λ fits. unfit (fits.0, attributes_counted m fits))

  weighed : (r : Result (List LinkAttribute) Cause) (w : ℕ × Bool) → ListWeighs r (Some w)
      → (vs : List LinkAttribute)
      × (r ≡ Ok vs) × AllFit AttributeFits attribute_frame vs × (w.0 ≡ length (canons attribute_frame vs))
      × MatchBool w.1 (AllByRecursion NotEmptyPorts vs → ⊥) (AllByRecursion NotEmptyPorts vs)
  weighed (Ok vs) w h = (vs, refl, h.0, h.1, h.2)
  weighed (Err c) w h = absurd h

  module _ (bytes : IsBytes b) (n : ℕ) (empty : Bool)
      (h : ListWeighs ((list (attribute_place v.interface_family)).reads d) (Some (n, empty))) where
    measured : (vs : List LinkAttribute) × ((list (attribute_place v.interface_family)).reads d ≡ Ok vs)
        × AllFit AttributeFits attribute_frame vs × (n ≡ length (canons attribute_frame vs))
        × MatchBool empty (AllByRecursion NotEmptyPorts vs → ⊥) (AllByRecursion NotEmptyPorts vs)
    measured = weighed ((list (attribute_place v.interface_family)).reads d) (n, empty) h

    after_bytes : IsBytes d
    after_bytes = bytes_right (take header_size b) d (subst IsBytes whole bytes)

    message_read : LinkMessage
    message_read = record { header = v; attributes = measured.0 }

    read_means : Means b message_read
    unfolding message_read
    read_means =
        after_means measured.0 ((attributes_agree v.interface_family).found d measured.0 after_bytes measured.1)

    -- the text is longer than the machine can count
    pub measured_long : (header_size + n < 2 ^ 64 → ⊥) → IsUnfit b
    unfolding message_read
    measured_long over =
        (message_read, read_means, λ fits. over (omega (arith, text_length message_read, fits.1, measured.3)))

    read_fits : header_size + n < 2 ^ 64 → MessageFits message_read
    unfolding message_read
    read_fits counted = (measured.2.0, omega (arith, text_length message_read, measured.3, counted))

    -- an empty list of ports is among the attributes
    pub measured_empty : empty ≡ true → header_size + n < 2 ^ 64 → HasEmptyPorts b
    unfolding message_read
    measured_empty is counted = (
      message_read,
      read_means,
      read_fits counted,
      subst (λ t. MatchBool t (AllByRecursion NotEmptyPorts measured.0 → ⊥)
          (AllByRecursion NotEmptyPorts measured.0)) is measured.4,
    )

    pub measured_whole : empty ≡ false → header_size + n < 2 ^ 64 → IsMeasured b v d n
    unfolding message_read
    measured_whole is counted = record {
      attributes = measured.0;
      accepted = record {
        means = read_means;
        fits = read_fits counted;
        ports = subst (λ t. MatchBool t (AllByRecursion NotEmptyPorts measured.0 → ⊥)
            (AllByRecursion NotEmptyPorts measured.0)) is measured.4;
      };
      reads = measured.1;
      len = measured.3;
    }

-- ** written

-- memory of so many bytes, which begins with the header and the prefix, and ends with zeros
pub begun_length : (v : LinkHeader) (prefix_bytes text : List ℕ) (n : ℕ) → header_size + length prefix_bytes ≤ n
    → text ≡ header_bytes v ++ prefix_bytes ++ replicate (n - (header_size + length prefix_bytes)) 0 → length text ≡ n
begun_length v prefix_bytes text n enough is =
    let count : ℕ = n - (header_size + length prefix_bytes) in
    let zeros : List ℕ = replicate count 0 in
    let size : length text ≡ length (header_bytes v ++ prefix_bytes ++ zeros) = ap (λ (t : List ℕ). length t) is in
    let cleared : length zeros ≡ count = length-replicate count 0 in
    omega (
      arith,
      size,
      length-append (header_bytes v ++ prefix_bytes) zeros,
      length-append (header_bytes v) prefix_bytes,
      header_length v,
      cleared,
      enough,
    )

module _ (b : List ℕ) (v : LinkHeader) (d : List ℕ) (n : ℕ) (h : IsMeasured b v d n) where
  unfoldable pub measured_message : LinkMessage
  measured_message = record { header = v; attributes = h.attributes }

  pub measured_accepted : IsAccepted b measured_message
  unfolding measured_message
  measured_accepted = h.accepted

  pub measured_length : header_size + n ≡ length (message_text measured_message)
  unfolding measured_message
  measured_length = omega (arith, text_length (record { header = v; attributes = h.attributes }), h.len)

  pub measured_room : (room : ℕ) → n ≤ room → HasRoom (canons attribute_frame) (AllFit AttributeFits attribute_frame)
      ((list (attribute_place v.interface_family)).reads d) room
  measured_room room enough =
      subst (λ r. HasRoom (canons attribute_frame) (AllFit AttributeFits attribute_frame) r room) (sym h.reads) (
        (h.accepted.fits.0, attributes_counted (record { header = v; attributes = h.attributes }) h.accepted.fits),
        omega (arith, enough, h.len),
      )

  pub measured_writes : (old new : List ℕ) (k : ℕ)
      → Rewrites (λ vs. header_bytes v ++ canons attribute_frame vs)
      ((list (attribute_place v.interface_family)).reads d) old new k
      → Writes (message_text measured_message) old new k
  unfolding measured_message
  measured_writes old new k w =
      subst (λ r. Rewrites (λ vs. header_bytes v ++ canons attribute_frame vs) r old new k) h.reads w

  -- memory of just that length, which begins with the header and the prefix
  pub measured_begun : (prefix : ℕ) (text : List ℕ) → IsPrefix v.interface_family d prefix
      → text ≡ header_bytes v ++ take prefix d ++ replicate (header_size + n - (header_size + length (take prefix d))) 0
      → length text ≡ header_size + n
  measured_begun prefix text r is =
      begun_length v (take prefix d) text (header_size + n)
      (omega (
        arith,
        length-take-le prefix d r.within,
        prefix_within (attribute_place v.interface_family).reads attribute_text AttributeFits d prefix r n
            (measured_room n (omega arith)),
      )) is

  -- a buffer of exactly the text's length
  pub exact_text : (old new : List ℕ) (k : ℕ) → length old ≡ header_size + n
      → Rewrites (λ vs. header_bytes v ++ canons attribute_frame vs)
      ((list (attribute_place v.interface_family)).reads d) old new k → new ≡ message_text measured_message
  exact_text old new k exact w =
      let one = measured_writes old new k w in
      let rest : drop k old ≡ [] = drop_all k old (omega (arith, exact, one.length_is, measured_length)) in
      one.new_is
      ∙ ap (λ (t : List ℕ). message_text measured_message ++ t) rest ∙ append-nil (message_text measured_message)

  pub measured_text : (old new : List ℕ) (k : ℕ) → IsBytes b → length old ≡ header_size + n
      → Rewrites (λ vs. header_bytes v ++ canons attribute_frame vs)
      ((list (attribute_place v.interface_family)).reads d) old new k → HasText b new
  measured_text old new k bytes exact w =
      accepted_text b new measured_message bytes measured_accepted (exact_text old new k exact w)

-- the header, and after it the prefix, which is copied
pub begun : (v : LinkHeader) (d : List ℕ) (prefix count : ℕ) (old emitted part : List ℕ) → prefix ≤ length d
    → count ≡ prefix
    → emitted ≡ header_bytes v ++ drop header_size old → part ≡ take prefix d
    → Writes (header_bytes v ++ take prefix d) old (put_mid header_size count emitted part) (header_size + prefix)
begun v d prefix count old emitted part within counts is copied =
    let front : take header_size emitted ≡ header_bytes v =
    ap (take header_size) is ∙ take_at (header_bytes v) (drop header_size old) header_size (header_length v) in
    let rest : drop header_size emitted ≡ drop header_size old =
    ap (drop header_size) is ∙ drop_at (header_bytes v) (drop header_size old) header_size (header_length v) in
    let after : drop count (drop header_size emitted) ≡ drop (header_size + prefix) old =
    ap (drop count) rest ∙ drop-drop count header_size old ∙ ap (λ k. drop k old) (omega (arith, counts)) in
    record {
      length_is =
          omega (
            arith,
            length-append (header_bytes v) (take prefix d),
            header_length v,
            length-take-le prefix d within,
          );
      new_is =
          ap (λ (t : List ℕ). t ++ (part ++ drop count (drop header_size emitted))) front
          ∙ ap (λ (t : List ℕ). header_bytes v ++ (t ++ drop count (drop header_size emitted))) copied
          ∙ ap (λ (t : List ℕ). header_bytes v ++ (take prefix d ++ t)) after
          ∙ sym (append_assoc (header_bytes v) (take prefix d) (drop (header_size + prefix) old));
    }

-- memory that begins with the header and the prefix, and goes on
pub began : (v : LinkHeader) (d prefix_bytes rest text : List ℕ) (prefix : ℕ) → prefix ≤ length d
    → prefix_bytes ≡ take prefix d
    → text ≡ header_bytes v ++ prefix_bytes ++ rest → Writes (header_bytes v ++ take prefix d) text text
    (header_size + prefix)
began v d prefix_bytes rest text prefix within same is =
    let front = header_bytes v ++ take prefix d in
    let size : length front ≡ header_size + prefix =
    omega (arith, length-append (header_bytes v) (take prefix d), header_length v, length-take-le prefix d within) in
    let whole : text ≡ front ++ rest = is ∙ ap (λ (t : List ℕ). header_bytes v ++ t ++ rest) same in
    record {
      length_is = sym size;
      new_is =
          whole
          ∙ ap (λ (t : List ℕ). front ++ t)
          (sym (ap (drop (header_size + prefix)) whole ∙ drop_at front rest (header_size + prefix) size));
    }
