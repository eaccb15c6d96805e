-- Each line has exactly one answer.
use Rattle.std.proofs.Common.{◌≡◌, ℕ, List, [], ◌∷◌, suc, inl, inr, ◌⊎◌, refl, sym, ap, ◌∙◌, subst}
use Rattle.std.specs.Prelude.{Result, Ok, Err, codes, ◌++◌}
use Rattle.hex.specs.Hex.{decode_of, encode_lower}
use Rattle.hex.specs.Hex as hex
use Rattle.hex.specs.declared.error.FromHexError.{FromHexError}
use Rattle.hex.proofs.HexLemmas.{decode_of-ok}
use Rattle.nla_wire.specs.Frames.{IsBytes}
use Rattle.nla_wire.specs.declared.error.Cause.{Cause}
use Rattle.link_msg.specs.Messages.{Means, MeansNothing, MessageFits, NoEmptyPorts, message_text, read_message}
use Rattle.link_msg.specs.Canonical.{HasText}
use Rattle.link_msg.specs.declared.message.LinkMessage.{LinkMessage}
use Rattle.link_msg.proofs.Decided.{fits_or_not, ports_or_not}
use Rattle.link_msg.proofs.Faults.{refused_means_none}
use Rattle.link_msg.proofs.LawProofs.{one_message}
use Rattle.link_msg.proofs.Reading.{message_agrees}
use Rattle.line_filter.specs.Lines as filter
use Rattle.message_lines.specs.Answers.{Meaning, IsMeaning, MeansNone, Encodes, IsEncoding, IsAnswerTo}
use Rattle.message_lines.specs.Answers.{IsAnswerToSpelled, IsAnswer, EachHasOneAnswer}

-- ** what bytes mean by the grammar

meant_or_not : (b : List ℕ) → IsBytes b → (r : Result LinkMessage Cause) → read_message b ≡ r
    → ((m : LinkMessage) × Means b m) ⊎ MeansNothing b
meant_or_not b bytes (Ok m) is = inl (m, message_agrees.found b m bytes is)
meant_or_not b bytes (Err c) is = inr (refused_means_none b c (message_agrees.fault b c bytes is))

pub one_meaning : IsMeaning Means
one_meaning = record { once = one_message; decided = λ b bytes. meant_or_not b bytes (read_message b) refl }

-- bytes have one canonical encoding
pub text_once : (b s t : List ℕ) → HasText b s → HasText b t → s ≡ t
text_once b s t h k =
    h.text ∙ ap message_text (one_message b h.message k.message h.accepted.means k.accepted.means) ∙ sym k.text

module _ (Means : Meaning) (Text : Encodes) (laws : IsEncoding Means Text) where
  -- ** an answer to bytes

  answer_of : (b : List ℕ) → IsBytes b → (m : LinkMessage) → Means b m
      → (answer : List ℕ) × IsAnswerTo Means Text b answer
  answer_of b bytes m means = elim (fits_or_not m) [
    | no not ↦ (codes "unfit", IsAnswerTo.unfit (m, means, not) refl)
    | yes fits ↦
        elim (ports_or_not m) [
          | no not ↦ (codes "empty-ports", IsAnswerTo.empty_ports (m, means, fits, not) refl)
          | yes ports ↦
              (let some = laws.has b m bytes means fits ports in
              (codes "ok " ++ encode_lower some.0, IsAnswerTo.ok some.0 some.1 refl))
        ]
  ]

  has_answer : (b : List ℕ) → ((m : LinkMessage) × Means b m) ⊎ MeansNone Means b → IsBytes b
      → (answer : List ℕ) × IsAnswerTo Means Text b answer
  has_answer b (inl meant) bytes = answer_of b bytes meant.0 meant.1
  has_answer b (inr none) bytes = (codes "refused", IsAnswerTo.refused none refl)

  -- what holds of a message that bytes mean holds of each that they mean
  too : (P : LinkMessage → Type 0) (b : List ℕ) (m n : LinkMessage) → Means b m → Means b n → P m → P n
  too P b m n h k = subst P (laws.meaning.once b m n h k)

  not_unfit : (b t : List ℕ) (m : LinkMessage) → Text b t → Means b m → (MessageFits m → ⊥) → ⊥
  not_unfit b t m h means unfit =
      let some = laws.accepts b t h in unfit (too MessageFits b some.0 m some.1 means some.2)

  not_empty : (b t : List ℕ) (m : LinkMessage) → Text b t → Means b m → (NoEmptyPorts m → ⊥) → ⊥
  not_empty b t m h means empty =
      let some = laws.accepts b t h in empty (too NoEmptyPorts b some.0 m some.1 means some.3)

  only_answer : (b : List ℕ) → IsBytes b → (answer other : List ℕ) → IsAnswerTo Means Text b answer
      → IsAnswerTo Means Text b other → other ≡ answer
  only_answer b bytes answer other (IsAnswerTo.refused none h) (IsAnswerTo.refused none_ k) = k ∙ sym h
  only_answer b bytes answer other (IsAnswerTo.refused none h) (IsAnswerTo.unfit it k) = absurd (none it.0 it.1)
  only_answer b bytes answer other (IsAnswerTo.refused none h) (IsAnswerTo.empty_ports it k) =
      absurd (none it.0 it.1)
  only_answer b bytes answer other (IsAnswerTo.refused none h) (IsAnswerTo.ok text it k) =
      let some = laws.accepts b text it in absurd (none some.0 some.1)
  only_answer b bytes answer other (IsAnswerTo.unfit it h) (IsAnswerTo.refused none k) = absurd (none it.0 it.1)
  only_answer b bytes answer other (IsAnswerTo.unfit it h) (IsAnswerTo.unfit it_ k) = k ∙ sym h
  only_answer b bytes answer other (IsAnswerTo.unfit it h) (IsAnswerTo.empty_ports full k) =
      absurd (it.2 (too MessageFits b full.0 it.0 full.1 it.1 full.2))
  only_answer b bytes answer other (IsAnswerTo.unfit it h) (IsAnswerTo.ok text some k) =
      absurd (not_unfit b text it.0 some it.1 it.2)
  only_answer b bytes answer other (IsAnswerTo.empty_ports it h) (IsAnswerTo.refused none k) =
      absurd (none it.0 it.1)
  only_answer b bytes answer other (IsAnswerTo.empty_ports it h) (IsAnswerTo.unfit full k) =
      absurd (full.2 (too MessageFits b it.0 full.0 it.1 full.1 it.2))
  only_answer b bytes answer other (IsAnswerTo.empty_ports it h) (IsAnswerTo.empty_ports it_ k) = k ∙ sym h
  only_answer b bytes answer other (IsAnswerTo.empty_ports it h) (IsAnswerTo.ok text some k) =
      absurd (not_empty b text it.0 some it.1 it.3)
  only_answer b bytes answer other (IsAnswerTo.ok text some h) (IsAnswerTo.refused none k) =
      let it = laws.accepts b text some in absurd (none it.0 it.1)
  only_answer b bytes answer other (IsAnswerTo.ok text some h) (IsAnswerTo.unfit it k) =
      absurd (not_unfit b text it.0 some it.1 it.2)
  only_answer b bytes answer other (IsAnswerTo.ok text some h) (IsAnswerTo.empty_ports it k) =
      absurd (not_empty b text it.0 some it.1 it.3)
  only_answer b bytes answer other (IsAnswerTo.ok text some h) (IsAnswerTo.ok again it k) =
      k ∙ ap (λ t. codes "ok " ++ encode_lower t) (laws.once b again text bytes it some) ∙ sym h

  -- ** an answer to a line

  -- the bytes that digits spell are bytes
  spelled_bytes : (b : List ℕ) → hex.IsBytes b → IsBytes b
  spelled_bytes [] h = tt
  spelled_bytes (x ∷ b) h = (h 0, spelled_bytes b (λ i. h (suc i)))

  one_spelled : (line : List ℕ) (r : Result (List ℕ) FromHexError) → decode_of line ≡ r
      → filter.HasOneAnswer (IsAnswer Means Text) line
  one_spelled line (Ok b) is =
      let bytes = spelled_bytes b (decode_of-ok line b is).3 in
      let some = has_answer b (laws.meaning.decided b bytes) bytes in
      record {
        answer = some.0;
        holds = subst (λ (t : Result (List ℕ) FromHexError). IsAnswerToSpelled Means Text t some.0) (sym is) some.1;
        only = λ other h. only_answer b bytes some.0 other some.1
            (subst (λ (t : Result (List ℕ) FromHexError). IsAnswerToSpelled Means Text t other) is h);
      }
  one_spelled line (Err e) is = record {
    answer = codes "nothex";
    holds = subst (λ (t : Result (List ℕ) FromHexError). IsAnswerToSpelled Means Text t (codes "nothex")) (sym is)
        refl;
    only = λ other h. subst (λ (t : Result (List ℕ) FromHexError). IsAnswerToSpelled Means Text t other) is h;
  }

  pub one_answer : EachHasOneAnswer Means Text
  one_answer line = one_spelled line (decode_of line) refl

  pub each_answered : filter.AnswersEach (IsAnswer Means Text)
  each_answered line = let one = one_answer line in (one.answer, one.holds)
