-- How answers join.
use Rattle.std.proofs.Common.{ℕ, List, [], ◌∷◌, ◌++◌, refl, sym, ap, ◌∙◌, append_assoc}
use Rattle.std.specs.List.{flat_map, AllZip}
use Rattle.std.proofs.lemmas.List.{append-nil}
use Rattle.std.proofs.lemmas.List.Concat.{flat_map-append}
use Rattle.line_filter.specs.Lines.{Relation, AnswersEach, with_lf, AreAnswers, IsCut}
use Rattle.line_filter.specs.declared.error.RunError.{RunError}
use Rattle.line_filter.specs.declared.error.RunError.TheVariants as Errors

AllZip-join : {A B : Type 0} (R : A → B → Type 0) (xs more : List A) (ys later : List B) → AllZip R xs ys
    → AllZip R more later → AllZip R (xs ++ more) (ys ++ later)
AllZip-join R [] more [] later h k = k
AllZip-join R [] more (y ∷ ys) later h k = absurd h
AllZip-join R (x ∷ xs) more [] later h k = absurd h
AllZip-join R (x ∷ xs) more (y ∷ ys) later h k = (h.0, AllZip-join R xs more ys later h.1 k)

pub AreAnswers-none : (rel : Relation) → AreAnswers rel [] []
AreAnswers-none rel = record { answers = []; each = tt; joined = refl }

pub AreAnswers-one : (rel : Relation) (line answer : List ℕ) → rel line answer
    → AreAnswers rel (line ∷ []) (with_lf answer)
AreAnswers-one rel line answer h =
    record { answers = answer ∷ []; each = (h, tt); joined = sym (append-nil (with_lf answer)) }

pub AreAnswers-join : (rel : Relation) (lines more : List (List ℕ)) (done later : List ℕ) → AreAnswers rel lines done
    → AreAnswers rel more later → AreAnswers rel (lines ++ more) (done ++ later)
AreAnswers-join rel lines more done later h k = record {
  answers = h.answers ++ k.answers;
  each = AllZip-join rel lines more h.answers k.answers h.each k.each;
  joined = ap (λ t. t ++ later) h.joined ∙ ap (λ t. flat_map with_lf h.answers ++ t) k.joined
      ∙ sym (flat_map-append with_lf h.answers k.answers);
}

-- each line has an answer, so any lines have
pub answers_due : (rel : Relation) (has : AnswersEach rel) (lines : List (List ℕ))
    → (due : List ℕ) × AreAnswers rel lines due
answers_due rel has [] = ([], AreAnswers-none rel)
answers_due rel has (line ∷ lines) =
    let first = has line in
    let others = answers_due rel has lines in (
      with_lf first.0 ++ others.0,
      AreAnswers-join rel (line ∷ []) lines (with_lf first.0) others.0
          (AreAnswers-one rel line first.0 first.1) others.1,
    )

pub IsCut-after : (e : RunError) (done written due : List ℕ) → IsCut e written due → IsCut e (done ++ written)
    (done ++ due)
IsCut-after Errors.Read done written due h = ap (λ t. done ++ t) h
IsCut-after Errors.Write done written due h = (h.0, h.1, ap (λ t. done ++ t) h.2 ∙ sym (append_assoc done written h.0))
IsCut-after Errors.OutOfMemory done written due h = (h.0, ap (λ t. done ++ t) h.1 ∙ sym (append_assoc done written h.0))
