-- Runs that stop early.
use Rattle.std.proofs.Common.{◌≡◌, ℕ, ◌-◌, ◌^◌, ◌≤◌, true, false, List, [], ◌∷◌, ◌++◌, ◌<◌, arith, drop, length, take}
use Rattle.std.proofs.Common.{refl, sym, ap, ◌∙◌, subst, append_assoc}
use Rattle.std.specs.List.{flat_map}
use Rattle.std.specs.Prelude.{Option, None, Some}
use Rattle.std.specs.Io.KnownBytes.{Consumes, Appends, IsAtEnd, Keeps}
use Rattle.std.proofs.lemmas.List.{append-nil, take-append-drop}
use Rattle.line_filter.specs.Lines.{AreFirst, AreTaken, complete_lines, lines_of, with_lf}
use Rattle.line_filter.specs.Steps.{FailedWrite, Sends}
use Rattle.line_filter.specs.declared.error.RunError.{RunError}
use Rattle.line_filter.specs.declared.error.RunError.TheVariants as Errors
use Rattle.line_filter.proofs.Text.{complete_lines-cut, complete_lines-joined, complete_lines-none}
use Rattle.line_filter.proofs.Known.{Consumes-join, Consumes-keeps, Consumes-all, Consumes-none, Appends-none}
use Rattle.line_filter.proofs.Known.{Appends-join, Sends-short}
use Rattle.line_filter.specs.Runs.{NotEnded, Taking, Runs, RunsShort, StopsLast, Stops}
use Rattle.line_filter.proofs.Joined.{IsCut-after}
use Rattle.line_filter.proofs.Running.{Going, Reading, Runs-none, Runs-join}

-- the lines that an LF ends, those in the rest among them
going_lines : {S : Type 0} (takes : Taking S) (a b : S) (u v : Option (List ℕ)) (text waiting kept rest : List ℕ)
    → (h : Going takes a b u v text waiting kept rest) → AreFirst h.lines (complete_lines false text)
going_lines takes a b u v text waiting kept rest h = (
  complete_lines false (kept ++ rest),
  ap (complete_lines false) h.whole ∙ complete_lines-joined false h.lines (kept ++ rest) h.each,
)

-- ** writes
pub Keeps-appends : (a b : Option (List ℕ)) → Keeps a b → Appends a b []
Keeps-appends None b k = tt
Keeps-appends (Some xs) None k = absurd k
Keeps-appends (Some xs) (Some ys) k = k ∙ sym (append-nil xs)

-- one that took nothing
pub Sends-kept : (a b : Option (List ℕ)) (bytes : List ℕ) → Keeps a b → Sends a b bytes bytes
Sends-kept a b bytes k = ([], Keeps-appends a b k, refl)

-- one that took some
pub Sends-some : (a b : Option (List ℕ)) (bytes : List ℕ) (n : ℕ) → Appends a b (take n bytes)
    → Sends a b bytes (drop n bytes)
Sends-some a b bytes n h = (take n bytes, h, sym (take-append-drop n bytes))

-- the last of some, with nothing left
pub Sends-done : (a b : Option (List ℕ)) (bytes rest : List ℕ) → Sends a b bytes rest → length rest ≡ 0
    → Appends a b bytes
Sends-done a b bytes [] h none = subst (λ (t : List ℕ). Appends a b t) (sym (h.2 ∙ append-nil h.0)) h.1
Sends-done a b bytes (x ∷ rest) h none = absurd (omega arith)

-- one that failed, with something left
pub Sends-failed : (a b c : Option (List ℕ)) (bytes rest : List ℕ) → Sends a b bytes rest → 0 < length rest
    → Appends b c [] → FailedWrite Errors.Write a c bytes
Sends-failed a b c bytes rest h some k = (refl, Sends-short a b c bytes rest h ([], k, (rest, some, refl)))

-- ** amid the lines of a piece
short_write : {S : Type 0} (takes : Taking S) (e : RunError) (a b : S) (u w : Option (List ℕ)) (lines all : List
    (List ℕ)) (due : List ℕ)
    → AreFirst lines all → Runs takes a lines b due → FailedWrite e u w due → RunsShort takes e a u w all
short_write takes e a b u w lines all due first runs failed =
    subst (λ (error : RunError). RunsShort takes error a u w all) (sym failed.0)
    (record {
      lines = lines;
      taken = first;
      last = b;
      due = due;
      runs = runs;
      written = failed.1.0;
      appended = failed.1.1;
      cut = failed.1.2;
    })

-- at a write that fails
pub Going-stops : {S : Type 0} (takes : Taking S) (e : RunError) (a b : S) (u v w : Option (List ℕ))
    (text waiting kept rest : List ℕ)
    → Going takes a b u v text waiting kept rest → FailedWrite e v w waiting
    → RunsShort takes e a u w (complete_lines false text)
Going-stops takes e a b u v w text waiting kept rest h s =
    short_write takes e a b u w h.lines (complete_lines false text) h.added
    (going_lines takes a b u v text waiting kept rest h) h.runs
    (s.0, Sends-short u v w h.added waiting h.sent s.1)

-- where no memory is left
pub Going-stops_here : {S : Type 0} (takes : Taking S) (a b : S) (u v : Option (List ℕ))
    (text waiting kept rest : List ℕ)
    → Going takes a b u v text waiting kept rest → RunsShort takes Errors.OutOfMemory a u v (complete_lines false text)
Going-stops_here takes a b u v text waiting kept rest h = record {
  lines = h.lines;
  taken = going_lines takes a b u v text waiting kept rest h;
  last = b;
  due = h.added;
  runs = h.runs;
  written = h.sent.0;
  appended = h.sent.1;
  cut = (waiting, h.sent.2);
}

-- ** at the last line
pub last-none : {S : Type 0} (takes : Taking S) (a : S) (u : Option (List ℕ)) (text : List ℕ)
    → StopsLast takes Errors.OutOfMemory a u u text
last-none takes a u text = (
  λ e. absurd cc,
  record {
    lines = [];
    taken = (lines_of text, refl);
    last = a;
    due = [];
    runs = Runs-none takes a;
    written = [];
    appended = Appends-none u;
    cut = ([], refl);
  },
)

pub last-short : {S : Type 0} (takes : Taking S) (e : RunError) (a b : S) (u w : Option (List ℕ)) (text due : List ℕ)
    → Runs takes a (lines_of text) b due → FailedWrite e u w due → StopsLast takes e a u w text
last-short takes e a b u w text due runs failed = (
  λ k. let clash : Errors.Write ≡ Errors.Read = sym failed.0 ∙ k in absurd cc,
  short_write takes e a b u w (lines_of text) (lines_of text) due ([], sym (append-nil (lines_of text))) runs failed,
)

-- ** lines before them
taken_after : (e : RunError) (before lines all : List (List ℕ)) → AreTaken e lines all
    → AreTaken e (before ++ lines) (before ++ all)
taken_after Errors.Read before lines all h = ap (λ t. before ++ t) h
taken_after Errors.Write before lines all h =
    (h.0, ap (λ t. before ++ t) h.1 ∙ sym (append_assoc before lines h.0))
taken_after Errors.OutOfMemory before lines all h =
    (h.0, ap (λ t. before ++ t) h.1 ∙ sym (append_assoc before lines h.0))

short_after : {S : Type 0} (takes : Taking S) (e : RunError) (a b : S) (u v w : Option (List ℕ)) (lines more : List
    (List ℕ)) (done : List ℕ)
    → Runs takes a lines b done → Appends u v done → RunsShort takes e b v w more → RunsShort takes e a u w
    (lines ++ more)
short_after takes e a b u v w lines more done runs appended h = record {
  lines = lines ++ h.lines;
  taken = taken_after e lines h.lines more h.taken;
  last = h.last;
  due = done ++ h.due;
  runs = Runs-join takes lines h.lines a b h.last done h.due runs h.runs;
  written = done ++ h.written;
  appended = Appends-join u v w done h.written appended h.appended;
  cut = IsCut-after e done h.written h.due h.cut;
}

-- ** the run, after some reads

-- no memory for the piece that is read
pub stops_at_once : {S : Type 0} (takes : Taking S) (a : S) (l u : Option (List ℕ))
    → Stops takes Errors.OutOfMemory a l l u u
stops_at_once takes a l u = record {
  text = [];
  ended = false;
  consumed = Consumes-none l;
  at_end = λ e. cc;
  before_end = λ e. refl;
  wrote = record {
    lines = [];
    taken = ([], refl);
    last = a;
    due = [];
    runs = Runs-none takes a;
    written = [];
    appended = Appends-none u;
    cut = ([], refl);
  };
}

-- the lines that an LF ended were taken
reading_lines : {S : Type 0} (takes : Taking S) (a b : S) (l m u v : Option (List ℕ)) (kept : List ℕ) (reads : ℕ)
    → (h : Reading takes a b l m u v kept reads) → complete_lines false h.text ≡ h.some.lines
reading_lines takes a b l m u v kept reads h =
    let g = h.some in
    complete_lines-cut false h.text g.lines kept g.cut ∙ ap (λ t. g.lines ++ t) (complete_lines-none kept g.cut.last)
    ∙ append-nil g.lines

-- at a read that fails, or where there may be no more of them
pub Reading-stops : {S : Type 0} (takes : Taking S) (a b : S) (l m u v : Option (List ℕ)) (kept : List ℕ)
    (reads : ℕ) → Reading takes a b l m u v kept reads
    → Stops takes Errors.Read a l m u v
Reading-stops takes a b l m u v kept reads h =
    let g = h.some in
    let whole : complete_lines false h.text ≡ g.lines = reading_lines takes a b l m u v kept reads h in
    record {
      text = h.text;
      ended = false;
      consumed = h.consumed;
      at_end = λ e. cc;
      before_end = λ e. refl;
      wrote = record {
        lines = g.lines;
        taken = sym whole;
        last = b;
        due = g.written;
        runs = g.runs;
        written = g.written;
        appended = g.appended;
        cut = refl;
      };
    }

-- one that has not ended after so many reads
pub Reading-not_ended : {S : Type 0} (takes : Taking S) (a b : S) (l m u v : Option (List ℕ)) (kept : List ℕ)
    (reads : ℕ) → Reading takes a b l m u v kept reads → 2 ^ 64 - 1 ≤ reads → NotEnded takes a l m u v
Reading-not_ended takes a b l m u v kept reads h many =
    let g = h.some in
    let whole : complete_lines false h.text ≡ g.lines = reading_lines takes a b l m u v kept reads h in
    record {
      text = h.text;
      consumed = h.consumed;
      long = omega (arith, h.long, many);
      last = b;
      written = g.written;
      appended = g.appended;
      runs = subst (λ (t : List (List ℕ)). Runs takes a t b g.written) (sym whole) g.runs;
    }

pub not_ended_stops : {S : Type 0} (takes : Taking S) (a : S) (l m u v : Option (List ℕ))
    → NotEnded takes a l m u v → Stops takes Errors.Read a l m u v
not_ended_stops takes a l m u v h = record {
  text = h.text;
  ended = false;
  consumed = h.consumed;
  at_end = λ e. cc;
  before_end = λ e. refl;
  wrote = record {
    lines = complete_lines false h.text;
    taken = refl;
    last = h.last;
    due = h.written;
    runs = h.runs;
    written = h.written;
    appended = h.appended;
    cut = refl;
  };
}

pub Reading-keeps : {S : Type 0} (takes : Taking S) (a b : S) (l m n u v : Option (List ℕ)) (kept : List ℕ)
    (reads : ℕ) → Reading takes a b l m u v kept reads → Keeps m n
    → Reading takes a b l n u v kept reads
Reading-keeps takes a b l m n u v kept reads h k =
    record { text = h.text; consumed = Consumes-keeps l m n h.text h.consumed k; some = h.some; long = h.long }

-- amid the piece that was read
pub Reading-stops_in : {S : Type 0} (takes : Taking S) (e : RunError) (a b : S) (l m n u v w : Option (List ℕ))
    (kept piece : List ℕ) (reads : ℕ)
    → Reading takes a b l m u v kept reads → Consumes m n piece → RunsShort takes e b v w (complete_lines false
    (kept ++ piece))
    → Stops takes e a l n u w
Reading-stops_in takes e a b l m n u v w kept piece reads h r s =
    let g = h.some in
    let whole : h.text ++ piece ≡ flat_map with_lf g.lines ++ (kept ++ piece) =
    ap (λ t. t ++ piece) g.cut.whole ∙ append_assoc (flat_map with_lf g.lines) kept piece in
    let lines : complete_lines false (h.text ++ piece) ≡ g.lines ++ complete_lines false (kept ++ piece) =
    ap (complete_lines false) whole ∙ complete_lines-joined false g.lines (kept ++ piece) g.cut.each in
    record {
      text = h.text ++ piece;
      ended = false;
      consumed = Consumes-join l m n h.text piece h.consumed r;
      at_end = λ k. cc;
      before_end = λ k. refl;
      wrote = subst (λ (t : List (List ℕ)). RunsShort takes e a u w t) (sym lines)
          (short_after takes e a b u v w g.lines (complete_lines false (kept ++ piece)) g.written g.runs g.appended s);
    }

-- at the end of the reader
pub Reading-stops_at_end : {S : Type 0} (takes : Taking S) (e : RunError) (a b : S) (l m n u v w : Option (List ℕ))
    (kept : List ℕ) (reads : ℕ)
    → Reading takes a b l m u v kept reads → Consumes m n [] → IsAtEnd n → StopsLast takes e b v w kept
    → Stops takes e a l n u w
Reading-stops_at_end takes e a b l m n u v w kept reads h r last s =
    let g = h.some in
    record {
      text = h.text;
      ended = true;
      consumed = Consumes-all l m n h.text h.consumed r;
      at_end = λ _. last;
      before_end = λ k. absurd (s.0 k);
      wrote =
          subst (λ (t : List (List ℕ)). RunsShort takes e a u w t)
          (sym (complete_lines-cut true h.text g.lines kept g.cut))
          (short_after takes e a b u v w g.lines (lines_of kept) g.written g.runs g.appended s.1);
    }
