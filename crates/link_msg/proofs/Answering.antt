-- What follows for a caller from the result of the reader of messages.
use Rattle.std.proofs.Common.{◌≡◌, ◌≢◌, ℕ, List, length, refl, sym, ap, ◌∙◌, subst, arith}
use Rattle.std.proofs.Common.{Result}
use Rattle.std.specs.Prelude.{IfOk, IsTrue, Bool, ◌↔◌}
use Rattle.nla_wire.specs.Frames.{IsBytes}
use Rattle.nla_wire.specs.Gives.{Gives}
use Rattle.nla_wire.specs.declared.error.Cause.{Cause}
use Rattle.nla_wire.specs.declared.error.Cause.TheVariants.{OutOfMemory}
use Rattle.nla_wire.specs.declared.error.Cause.TheVariants as Causes
use Rattle.nla_wire.specs.declared.error.DecodeError.{DecodeError}
use Rattle.link_msg.specs.Tables.{attribute_place, attribute_lawful}
use Rattle.link_msg.specs.Messages.{Means, FirstFault, MeansNothing, IsBounded, read_message, message_text}
use Rattle.link_msg.specs.declared.message.LinkMessage.{LinkMessage}
use Rattle.link_msg.specs.Lenient.{read_by}
use Rattle.link_msg.specs.CanonErrors.{refusal_for, refusal_of}
use Rattle.link_msg.specs.Canonical.{IsAccepted, HasText, IsRefusal, AreSame}
use Rattle.link_msg.proofs.MessagesBy.{bounded_by, gives_bounded_by, memory_by}
use Rattle.link_msg.proofs.ReadingBack.{message_back}
use Rattle.link_msg.proofs.LawProofs.{same_text}

pub message_bounded : (b : List ℕ) (m : LinkMessage) → IsBytes b → Means b m → IsBounded b m
message_bounded = bounded_by attribute_place attribute_lawful

pub gives_bounded : (b : List ℕ) (r : Result LinkMessage DecodeError) → IsBytes b → Gives r (read_message b)
    → IfOk r (IsBounded b)
unfolding read_message read_by
gives_bounded = gives_bounded_by attribute_place attribute_lawful

-- no byte string is refused for lack of memory
pub message_memory : (b : List ℕ) → FirstFault b OutOfMemory → ⊥
message_memory = memory_by attribute_place attribute_lawful

-- ** refusals

refused_as : (b : List ℕ) (e : DecodeError) (c : Cause) → e.cause ≡ c → (e.cause ≢ OutOfMemory → FirstFault b e.cause)
    → (e.cause ≢ OutOfMemory → MeansNothing b) → IsRefusal b (refusal_for c e)
refused_as b e Causes.OutOfMemory is fault none = tt
refused_as b e (Causes.TooShort got need) is fault none = let other : e.cause ≢ OutOfMemory = λ k.
    absurd cc in (fault other, other, none other)
refused_as b e (Causes.FrameShort left) is fault none = let other : e.cause ≢ OutOfMemory = λ k.
    absurd cc in (fault other, other, none other)
refused_as b e (Causes.FrameOver len left) is fault none = let other : e.cause ≢ OutOfMemory = λ k.
    absurd cc in (fault other, other, none other)
refused_as b e (Causes.FrameUnder len) is fault none = let other : e.cause ≢ OutOfMemory = λ k.
    absurd cc in (fault other, other, none other)
refused_as b e Causes.EmptyList is fault none = let other : e.cause ≢ OutOfMemory = λ k.
    absurd cc in (fault other, other, none other)
refused_as b e (Causes.WrongLength got want) is fault none = let other : e.cause ≢ OutOfMemory = λ k.
    absurd cc in (fault other, other, none other)
refused_as b e Causes.NotUtf8 is fault none = let other : e.cause ≢ OutOfMemory = λ k.
    absurd cc in (fault other, other, none other)
refused_as b e Causes.InvalidState is fault none = let other : e.cause ≢ OutOfMemory = λ k.
    absurd cc in (fault other, other, none other)

-- a fault of `parse` is a refusal
pub refused_for : (b : List ℕ) (e : DecodeError) → (e.cause ≢ OutOfMemory → FirstFault b e.cause)
    → (e.cause ≢ OutOfMemory → MeansNothing b) → IsRefusal b (refusal_of e)
refused_for b e fault none = refused_as b e e.cause refl fault none

-- the canonical encoding of an accepted message
pub accepted_text : (b t : List ℕ) (m : LinkMessage) → IsBytes b → IsAccepted b m → t ≡ message_text m → HasText b t
accepted_text b t m bytes h is = record {
  message = m;
  accepted = h;
  text = is;
  reads_back = subst (λ x. Means x m) (sym is) (message_back b m bytes h.means h.fits h.ports);
  short = omega (arith, (message_bounded b m bytes h.means).short, ap (λ (x : List ℕ). length x) is);
}

-- two canonical encodings, compared
pub encodings_compared : (a b s t : List ℕ) (answer : Bool) → IsBytes a → IsBytes b → HasText a s → HasText b t
    → (IsTrue answer ↔ (s ≡ t)) → AreSame a b answer
encodings_compared a b s t answer bytes_a bytes_b first second same =
    let m = first.message in
    let n = second.message in
    let one = first.accepted in
    let other = second.accepted in
    let texts = same_text a b m n bytes_a bytes_b one.means other.means one.fits other.fits one.ports other.ports in
    let equal : IsTrue answer ↔ (message_text m ≡ message_text n) =
    (λ e. sym first.text ∙ (same.0 e ∙ second.text), λ e. same.1 (first.text ∙ (e ∙ sym second.text))) in (
      m,
      n,
      record {
        first = one;
        second = other;
        messages = (λ e. texts.0 (equal.0 e), λ e. equal.1 (texts.1 e));
        texts = equal;
      },
    )
