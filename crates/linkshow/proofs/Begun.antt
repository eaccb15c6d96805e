-- What a run writes, and how it begins.
use Rattle.std.proofs.Common.{◌≡◌, ℕ, List, subst}
use Rattle.std.specs.Prelude.{Option}
use Rattle.line_filter.specs.Runs.{RunsAll, Stops, answering}
use Rattle.line_filter.specs.declared.error.RunError.{RunError}
use Rattle.line_filter.proofs.Answered.{all_answered, first_answered, ran_too, stopped_too, stopped_due}
use Rattle.message_shown.specs.Answered as answered
use Rattle.message_shown.specs.Leniently.{IsLenientAnswerTo}
use Rattle.message_shown.specs.Lines.{Answering, AnswersAll, IsAnswer, IsAnswerTo}
use Rattle.message_shown.specs.Whole.{Whole, BeginsAs, IsWholeAnswer, IsWholeAnswerTo, IsWholeLenientAnswerTo}
use Rattle.frame_shown.specs.declared.form.Order.{Order}
use Rattle.message_shown.proofs.Added.{begins_as, line_begins}
use Rattle.message_shown.proofs.Leniently.{begins_leniently}
use Rattle.linkshow.specs.Laws.{RunsBegin, AnswersBegin, LenientAnswersBegin}
use Rattle.linkshow.specs.Lines.{RanToEnd, Stopped}

pub ran : (To : Whole) (first last order : Order) (l m u v : Option (List ℕ)) → first ≡ order
    → RunsAll (answering (IsWholeAnswer To) (λ o. o)) first last l m u v → RanToEnd To order l m u v
ran To first last order l m u v is h =
    subst (λ (o : Order). RanToEnd To o l m u v) is (all_answered (IsWholeAnswer To) (λ o. o) first last l m u v h)

pub stopped : (To : Whole) (first order : Order) (e : RunError) (l m u v : Option (List ℕ)) → first ≡ order
    → Stops (answering (IsWholeAnswer To) (λ o. o)) e first l m u v → Stopped To order e l m u v
stopped To first order e l m u v is h =
    subst (λ (o : Order). Stopped To o e l m u v) is
    (first_answered (IsWholeAnswer To) (λ o. o) e first l m u v h)

-- ** how it begins
begun : (To : Whole) (Head : Answering) → BeginsAs To Head → AnswersAll Head → RunsBegin To Head
begun To Head begin all = record {
  ran = λ order l m u v h. ran_too (IsWholeAnswer To order) (IsAnswer Head) (line_begins To Head begin order) l m u v
      h;
  stopped = λ order e l m u v h. stopped_due (IsAnswer Head) (answered.each_answered Head all) e l m u v
      (stopped_too (IsWholeAnswer To order) (IsAnswer Head) (line_begins To Head begin order) e l m u v h);
}

pub answers_begin : AnswersBegin
answers_begin = begun IsWholeAnswerTo IsAnswerTo begins_as answered.all_answered

pub lenient_answers_begin : LenientAnswersBegin
lenient_answers_begin =
    begun IsWholeLenientAnswerTo IsLenientAnswerTo begins_leniently answered.all_answered_leniently
