-- A line with words in front has an answer, and no other one, where each rest has.
use Rattle.std.proofs.Common.{◌≡◌, ℕ, Bool, true, false, List, [], ◌++◌, refl, ap, ◌∙◌}
use Rattle.std.specs.Prelude.{MatchBool}
use Rattle.line_filter.specs.Lines.{Relation, AnswersEach, EachHasOneAnswer}
use Rattle.line_filter.specs.Words.{are_alone, digits_of, front_of, rest_of, WithWords}

has_own : (b : Bool) (P : List ℕ → Type 0) → (own : List ℕ) × P own → (own : List ℕ) × MatchBool b (own ≡ []) (P own)
has_own true P some = ([], refl)
has_own false P some = some

pub each_worded : (is : Relation) → AnswersEach is → AnswersEach (WithWords is)
each_worded is has line =
    let digits : List ℕ = digits_of (rest_of line) in
    let own = has_own (are_alone (front_of line) (rest_of line)) (is digits) (has digits) in
    (front_of line ++ own.0, (own.0, own.1, refl))

same_own : (b : Bool) (P : List ℕ → Type 0) (own : List ℕ) → ((other : List ℕ) → P other → other ≡ own)
    → (s t : List ℕ) → MatchBool b (s ≡ []) (P s) → MatchBool b (t ≡ []) (P t) → t ≡ s
same_own true P own only s t h k = rw (h, k) refl
same_own false P own only s t h k = rw (only s h, only t k) refl

pub one_worded : (is : Relation) → EachHasOneAnswer is → EachHasOneAnswer (WithWords is)
one_worded is one line =
    let alone : Bool = are_alone (front_of line) (rest_of line) in
    let digits : List ℕ = digits_of (rest_of line) in
    let some = one digits in
    let own = has_own alone (is digits) (some.answer, some.holds) in
    record {
      answer = front_of line ++ own.0;
      holds = (own.0, own.1, refl);
      only = λ other h. h.2
          ∙ ap (λ t. front_of line ++ t) (same_own alone (is digits) some.answer some.only own.0 h.0 own.1 h.1);
    }
