-- Lines that were taken by a filter's answers were answered.
use Rattle.std.proofs.Common.{◌≡◌, ℕ, List, [], ◌∷◌, ◌++◌, arith, length-append, sym, ap, ◌∙◌, subst, append_assoc}
use Rattle.std.specs.Prelude.{Option}
use Rattle.std.specs.List.{AllZip}
use Rattle.line_filter.specs.Lines.{Relation, AnswersEach, AreAnswers, RanToEnd, Stopped, WroteSome, complete_lines}
use Rattle.line_filter.specs.Lines.{lines_of, with_lf, StoppedAfter, WroteFirst}
use Rattle.line_filter.specs.Runs.{Runs, RunsAll, Stops, answering}
use Rattle.line_filter.specs.declared.error.RunError.{RunError}
use Rattle.line_filter.specs.declared.error.RunError.TheVariants as Errors
use Rattle.line_filter.proofs.Joined.{AreAnswers-none, AreAnswers-one, AreAnswers-join, answers_due}

-- ** by what a state keeps
module _ {S K : Type 0} (is : K → Relation) (kept : S → K) where
  runs_answered : (lines : List (List ℕ)) (a b : S) (added : List ℕ) → Runs (answering is kept) a lines b added
      → AreAnswers (is (kept a)) lines added
  runs_answered [] a b added h =
      subst (λ (t : List ℕ). AreAnswers (is (kept a)) [] t) (sym h.1) (AreAnswers-none (is (kept a)))
  runs_answered (line ∷ lines) a b added h =
      let first = h.3.0 in
      let joined : added ≡ with_lf first.0 ++ h.2 = h.5 ∙ ap (λ t. t ++ h.2) first.2 in
      let others : AreAnswers (is (kept a)) lines h.2 =
      subst (λ (k : K). AreAnswers (is k) lines h.2) h.3.1 (runs_answered lines h.0 b h.2 h.4) in
      subst (λ (t : List ℕ). AreAnswers (is (kept a)) (line ∷ lines) t) (sym joined)
      (AreAnswers-join (is (kept a)) (line ∷ []) lines (with_lf first.0) h.2
      (AreAnswers-one (is (kept a)) line first.0 first.1) others)

  pub all_answered : (a b : S) (l m u v : Option (List ℕ)) → RunsAll (answering is kept) a b l m u v
      → RanToEnd (is (kept a)) l m u v
  all_answered a b l m u v h = record {
    text = h.text;
    consumed = h.consumed;
    at_end = h.at_end;
    written = h.last.0;
    appended = h.last.1;
    answers = runs_answered (lines_of h.text) a b h.last.0 h.last.2;
  }

  pub first_answered : (e : RunError) (a : S) (l m u v : Option (List ℕ)) → Stops (answering is kept) e a l m u v
      → StoppedAfter (is (kept a)) e l m u v
  first_answered e a l m u v h = record {
    text = h.text;
    ended = h.ended;
    consumed = h.consumed;
    at_end = h.at_end;
    before_end = h.before_end;
    wrote = record {
      lines = h.wrote.lines;
      taken = h.wrote.taken;
      due = h.wrote.due;
      answers = runs_answered h.wrote.lines a h.wrote.last h.wrote.due h.wrote.runs;
      written = h.wrote.written;
      appended = h.wrote.appended;
      cut = h.wrote.cut;
    };
  }

-- ** the lines that were not taken have answers too
module _ (rel : Relation) (has : AnswersEach rel) where
  all_due : (lines more all : List (List ℕ)) (due later : List ℕ) → all ≡ lines ++ more → AreAnswers rel lines due
      → AreAnswers rel more later → AreAnswers rel all (due ++ later)
  all_due lines more all due later whole answers others =
      subst (λ (t : List (List ℕ)). AreAnswers rel t (due ++ later)) (sym whole)
      (AreAnswers-join rel lines more due later answers others)

  some_answered : (e : RunError) (u v : Option (List ℕ)) (all : List (List ℕ)) → WroteFirst rel e u v all
      → WroteSome rel e u v all
  some_answered Errors.Read u v all h = record {
    due = h.due;
    answers = subst (λ (t : List (List ℕ)). AreAnswers rel t h.due) h.taken h.answers;
    written = h.written;
    appended = h.appended;
    cut = h.cut;
  }
  some_answered Errors.Write u v all h =
      let later = answers_due rel has h.taken.0 in
      record {
        due = h.due ++ later.0;
        answers = all_due h.lines h.taken.0 all h.due later.0 h.taken.1 h.answers later.1;
        written = h.written;
        appended = h.appended;
        cut = (
          h.cut.0 ++ later.0,
          omega (arith, h.cut.1, length-append h.cut.0 later.0),
          ap (λ t. t ++ later.0) h.cut.2 ∙ append_assoc h.written h.cut.0 later.0,
        );
      }
  some_answered Errors.OutOfMemory u v all h =
      let later = answers_due rel has h.taken.0 in
      record {
        due = h.due ++ later.0;
        answers = all_due h.lines h.taken.0 all h.due later.0 h.taken.1 h.answers later.1;
        written = h.written;
        appended = h.appended;
        cut = (h.cut.0 ++ later.0, ap (λ t. t ++ later.0) h.cut.1 ∙ append_assoc h.written h.cut.0 later.0);
      }

  pub stopped_due : (e : RunError) (l m u v : Option (List ℕ)) → StoppedAfter rel e l m u v → Stopped rel e l m u v
  stopped_due e l m u v h = record {
    text = h.text;
    ended = h.ended;
    consumed = h.consumed;
    at_end = h.at_end;
    before_end = h.before_end;
    wrote = some_answered e u v (complete_lines h.ended h.text) h.wrote;
  }

-- ** answers that are others too
module _ (is other : Relation) (too : (line answer : List ℕ) → is line answer → other line answer) where
  each_too : (lines answers : List (List ℕ)) → AllZip is lines answers → AllZip other lines answers
  each_too [] [] h = tt
  each_too [] (answer ∷ answers) h = absurd h
  each_too (line ∷ lines) [] h = absurd h
  each_too (line ∷ lines) (answer ∷ answers) h = (too line answer h.0, each_too lines answers h.1)

  answers_too : (lines : List (List ℕ)) (written : List ℕ) → AreAnswers is lines written
      → AreAnswers other lines written
  answers_too lines written h =
      record { answers = h.answers; each = each_too lines h.answers h.each; joined = h.joined }

  pub ran_too : (l m u v : Option (List ℕ)) → RanToEnd is l m u v → RanToEnd other l m u v
  ran_too l m u v h = record {
    text = h.text;
    consumed = h.consumed;
    at_end = h.at_end;
    written = h.written;
    appended = h.appended;
    answers = answers_too (lines_of h.text) h.written h.answers;
  }

  pub stopped_too : (e : RunError) (l m u v : Option (List ℕ)) → StoppedAfter is e l m u v
      → StoppedAfter other e l m u v
  stopped_too e l m u v h = record {
    text = h.text;
    ended = h.ended;
    consumed = h.consumed;
    at_end = h.at_end;
    before_end = h.before_end;
    wrote = record {
      lines = h.wrote.lines;
      taken = h.wrote.taken;
      due = h.wrote.due;
      answers = answers_too h.wrote.lines h.wrote.due h.wrote.answers;
      written = h.wrote.written;
      appended = h.wrote.appended;
      cut = h.wrote.cut;
    };
  }
