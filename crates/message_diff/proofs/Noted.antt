-- What is noted of a run: whether its lines added anything.
use Rattle.std.proofs.Common.{◌≡◌, ℕ, Bool, true, false, List, [], ◌∷◌, ◌++◌, length, refl, sym, ap, ◌∙◌, arith}
use Rattle.std.specs.Prelude.{◌||◌, ◌==◌, not, nat_lt, Option}
use Rattle.std.proofs.lemmas.Bool.{lt-ltb}
use Rattle.std.proofs.lemmas.Bool.Decides.{nat_tests}
use Rattle.std.proofs.lemmas.List.{append-nil, length-append}
use Rattle.line_filter.specs.Lines.{lines_of}
use Rattle.line_filter.specs.Runs.{Runs, RunsAll, RunsShort, Stops}
use Rattle.line_filter.specs.declared.error.RunError.{RunError}
use Rattle.message_diff.specs.declared.files.Noted.{Noted}
use Rattle.message_diff.specs.Files.{is_any, notes_line}
use Rattle.message_diff.specs.Watched.{takes_line}

any_append : (xs ys : List ℕ) → is_any (xs ++ ys) ≡ (is_any xs || is_any ys)
any_append [] ys = refl
any_append (x ∷ xs) ys = refl

or_assoc : (a b c : Bool) → ((a || b) || c) ≡ (a || (b || c))
or_assoc true b c = refl
or_assoc false b c = refl

or_false : (a : Bool) → a ≡ (a || false)
or_false true = refl
or_false false = refl

noted_runs : (a b : Noted) (lines : List (List ℕ)) (added : List ℕ) → Runs notes_line a lines b added
    → Runs takes_line a.watch lines b.watch added × (b.is_told ≡ (a.is_told || is_any added))
noted_runs a b [] added h = (
  (ap (λ n. n.watch) h.0, h.1),
  ap (λ n. n.is_told) h.0 ∙ or_false a.is_told ∙ ap (λ t. a.is_told || is_any t) (sym h.1),
)
noted_runs a b (line ∷ lines) added h =
    let more = noted_runs h.0 b lines h.2 h.4 in (
      (h.0.watch, h.1, h.2, h.3.0, more.0, h.5),
      more.1
          ∙ ap (λ t. t || is_any h.2) h.3.1
          ∙ or_assoc a.is_told (is_any h.1) (is_any h.2)
          ∙ ap (λ t. a.is_told || t) (sym (any_append h.1 h.2))
          ∙ ap (λ t. a.is_told || is_any t) (sym h.5),
    )

pub noted_all : (a b : Noted) (l m u v : Option (List ℕ)) → RunsAll notes_line a b l m u v
    → (run : RunsAll takes_line a.watch b.watch l m u v) × (b.is_told ≡ (a.is_told || is_any run.last.0))
noted_all a b l m u v h =
    let runs = noted_runs a b (lines_of h.text) h.last.0 h.last.2 in (
      record {
        text = h.text;
        consumed = h.consumed;
        at_end = h.at_end;
        last = (h.last.0, h.last.1, runs.0);
      },
      runs.1,
    )

noted_short : (e : RunError) (a : Noted) (u v : Option (List ℕ)) (lines : List (List ℕ))
    → RunsShort notes_line e a u v lines → RunsShort takes_line e a.watch u v lines
noted_short e a u v lines h = record {
  lines = h.lines;
  taken = h.taken;
  last = h.last.watch;
  due = h.due;
  runs = (noted_runs a h.last h.lines h.due h.runs).0;
  written = h.written;
  appended = h.appended;
  cut = h.cut;
}

pub noted_stops : (e : RunError) (a : Noted) (l m u v : Option (List ℕ)) → Stops notes_line e a l m u v
    → Stops takes_line e a.watch l m u v
noted_stops e a l m u v h = record {
  text = h.text;
  ended = h.ended;
  consumed = h.consumed;
  at_end = h.at_end;
  before_end = h.before_end;
  wrote = noted_short e a u v _ h.wrote;
}

-- ** a line
not_less : (n : ℕ) → nat_lt n n ≡ false
not_less n = grind (arith, nat_tests)

pub grown : (xs added ys : List ℕ) → ys ≡ xs ++ added → nat_lt (length xs) (length ys) ≡ is_any added
grown xs [] ys is = ap (λ l. nat_lt (length xs) (length l)) (is ∙ append-nil xs) ∙ not_less (length xs)
grown xs (x ∷ more) ys is =
    ap (λ l. nat_lt (length xs) (length l)) is
    ∙ lt-ltb (length xs) (length (xs ++ x ∷ more)) (omega (arith, length-append xs (x ∷ more)))

not_none : {X : Type 0} (x : X) (xs : List X) → (length (x ∷ xs) == 0) ≡ false
not_none x xs = grind (arith, nat_tests)

pub any_told : (xs : List ℕ) → not (length xs == 0) ≡ is_any xs
any_told [] = refl
any_told (x ∷ xs) = ap not (not_none x xs)
