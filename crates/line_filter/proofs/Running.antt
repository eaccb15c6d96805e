-- What the loops over lines keep, and what each step does to it.
use Rattle.std.proofs.Common.{◌≡◌, ◌≢◌, ℕ, ◌+◌, ◌<◌, ◌≤◌, true, List, [], ◌∷◌, ◌++◌, length}
use Rattle.std.proofs.Common.{arith, length-append, refl, sym, ap, ◌∙◌, subst, append_assoc, take, drop}
use Rattle.std.specs.List.{flat_map, All}
use Rattle.std.specs.Prelude.{Option, None, Some}
use Rattle.std.specs.Io.KnownBytes.{Consumes, Appends, IsAtEnd}
use Rattle.std.proofs.lemmas.List.{append-nil}
use Rattle.std.proofs.lemmas.List.Concat.{flat_map-append}
use Rattle.std.proofs.lemmas.List.Elements.{All-append, All-push, All-nil}
use Rattle.memchr.specs.Find.{IsFirstByte, is_byte}
use Rattle.line_filter.specs.Lines.{lines_of, with_lf}
use Rattle.line_filter.specs.Steps.{NoLf, Sends}
use Rattle.line_filter.proofs.Text.{complete_lines-cut, Cut-join, lines_of-rest}
use Rattle.line_filter.proofs.Text.{no_lf_before, cut_at_lf, no_lf_at_all}
use Rattle.line_filter.proofs.Known.{Consumes-none, Consumes-join, Consumes-all, Appends-none}
use Rattle.line_filter.proofs.Known.{Appends-join, Sends-none, Sends-join, Sends-add, Sends-all}
use Rattle.line_filter.specs.Runs.{Taking, AddsLine, Runs, RunsSome, RunsLast, RunsAll}

-- ** lines and more lines
pub Runs-none : {S : Type 0} (takes : Taking S) (w : S) → Runs takes w [] w []
Runs-none takes w = (refl, refl)

pub Runs-one : {S : Type 0} (takes : Taking S) (line : List ℕ) (a b : S) (added : List ℕ) → takes a line b added
    → Runs takes a (line ∷ []) b added
Runs-one takes line a b added h = (b, added, [], h, (refl, refl), sym (append-nil added))

pub Runs-join : {S : Type 0} (takes : Taking S) (lines more : List (List ℕ)) (a b c : S) (done later : List ℕ)
    → Runs takes a lines b done
    → Runs takes b more c later → Runs takes a (lines ++ more) c (done ++ later)
Runs-join {S = S} takes [] more a b c done later h k =
    subst (λ (w : S). Runs takes w more c (done ++ later)) h.0
    (subst (λ (t : List ℕ). Runs takes b more c (t ++ later)) (sym h.1) k)
Runs-join takes (line ∷ lines) more a b c done later h k = (
  h.0,
  h.1,
  h.2 ++ later,
  h.3,
  Runs-join takes lines more h.0 b c h.2 later h.4 k,
  ap (λ t. t ++ later) h.5 ∙ append_assoc h.1 h.2 later,
)

-- ** the lines of a piece
pub record Going {S : Type 0} (takes : Taking S) (a b : S) (held held_after : Option (List ℕ))
    (text waiting kept rest : List ℕ) : Type 0 where
  pub lines : List (List ℕ)
  pub whole : text ≡ flat_map with_lf lines ++ (kept ++ rest)
  pub each : All NoLf lines
  pub last : NoLf kept
  pub added : List ℕ
  pub runs : Runs takes a lines b added
  pub sent : Sends held held_after added waiting

pub Going-init : {S : Type 0} (takes : Taking S) (a : S) (u : Option (List ℕ)) (kept rest : List ℕ) → NoLf kept
    → Going takes a a u u (kept ++ rest) [] kept rest
Going-init takes a u kept rest h = record {
  lines = [];
  whole = refl;
  each = All-nil NoLf;
  last = h;
  added = [];
  runs = Runs-none takes a;
  sent = Sends-none u [];
}

-- a line that ends is taken
pub Going-add : {S : Type 0} (takes : Taking S) (a b c : S) (u v : Option (List ℕ))
    (text waiting kept rest new : List ℕ) (k : ℕ)
    → Going takes a b u v text waiting kept rest → IsFirstByte (is_byte 10) rest (Some k)
    → AddsLine takes (kept ++ take k rest) b c waiting new → Going takes a c u v text new [] (drop 1 (drop k rest))
Going-add takes a b c u v text waiting kept rest new k h f t =
    let line : List ℕ = kept ++ take k rest in
    let more : List ℕ = drop 1 (drop k rest) in
    let here : kept ++ rest ≡ with_lf line ++ more =
    ap (λ t. kept ++ t) (cut_at_lf k rest f) ∙ sym (append_assoc kept (take k rest) (10 ∷ more))
    ∙ sym (append_assoc line (10 ∷ []) more) in
    let joined : flat_map with_lf (h.lines ++ line ∷ []) ≡ flat_map with_lf h.lines ++ with_lf line =
    flat_map-append with_lf h.lines (line ∷ []) ∙ ap (λ t. flat_map with_lf h.lines ++ t) (append-nil (with_lf line)) in
    record {
      lines = h.lines ++ line ∷ [];
      whole = h.whole ∙ ap (λ t. flat_map with_lf h.lines ++ t) here
          ∙ sym (append_assoc (flat_map with_lf h.lines) (with_lf line) more) ∙ ap (λ t. t ++ more) (sym joined);
      each = All-push NoLf h.lines line h.each
          (All-append (λ x. x ≢ 10) kept (take k rest) h.last (no_lf_before k rest f));
      last = All-nil (λ x. x ≢ 10);
      added = h.added ++ t.0;
      runs = Runs-join takes h.lines (line ∷ []) a b c h.added t.0 h.runs (Runs-one takes line b c t.0 t.1);
      sent = subst (λ (t' : List ℕ). Sends u v (h.added ++ t.0) t') (sym t.2)
          (Sends-add u v h.added waiting t.0 h.sent);
    }

-- some of it is written
pub Going-send : {S : Type 0} (takes : Taking S) (a b : S) (u v w : Option (List ℕ))
    (text waiting later kept rest : List ℕ)
    → Going takes a b u v text waiting kept rest → Sends v w waiting later → Going takes a b u w text later kept rest
Going-send takes a b u v w text waiting later kept rest h s = record {
  lines = h.lines;
  whole = h.whole;
  each = h.each;
  last = h.last;
  added = h.added;
  runs = h.runs;
  sent = Sends-join u v w h.added waiting later h.sent s;
}

pub Going-ends : {S : Type 0} (takes : Taking S) (a b : S) (u v w : Option (List ℕ)) (text waiting kept rest : List ℕ)
    → Going takes a b u v text waiting kept rest → IsFirstByte (is_byte 10) rest None → Appends v w waiting
    → RunsSome takes a b u w text (kept ++ rest)
Going-ends takes a b u v w text waiting kept rest h f s = record {
  lines = h.lines;
  cut =
      record { whole = h.whole; each = h.each; last = All-append (λ x. x ≢ 10) kept rest h.last (no_lf_at_all rest f) };
  written = h.added;
  appended = Sends-all u v w h.added waiting h.sent s;
  runs = h.runs;
}

-- ** the run, after so many reads
pub record Reading {S : Type 0} (takes : Taking S) (a b : S) (left left_now held held_now : Option (List ℕ))
    (kept : List ℕ) (reads : ℕ) : Type 0 where
  pub text : List ℕ
  pub consumed : Consumes left left_now text
  pub some : RunsSome takes a b held held_now text kept
  pub long : reads ≤ length text

pub Reading-init : {S : Type 0} (takes : Taking S) (a : S) (l u : Option (List ℕ)) → Reading takes a a l l u u [] 0
Reading-init takes a l u = record {
  text = [];
  consumed = Consumes-none l;
  some = record {
    lines = [];
    cut = record { whole = refl; each = All-nil NoLf; last = All-nil (λ x. x ≢ 10) };
    written = [];
    appended = Appends-none u;
    runs = Runs-none takes a;
  };
  long = omega arith;
}

pub Reading-step : {S : Type 0} (takes : Taking S) (a b c : S) (l m n u v w : Option (List ℕ))
    (kept piece later : List ℕ)
    (reads : ℕ) → Reading takes a b l m u v kept reads → Consumes m n piece → 0 < length piece
    → RunsSome takes b c v w (kept ++ piece) later → Reading takes a c l n u w later (reads + 1)
Reading-step takes a b c l m n u v w kept piece later reads h r some s =
    let g = h.some in
    record {
      text = h.text ++ piece;
      consumed = Consumes-join l m n h.text piece h.consumed r;
      some = record {
        lines = g.lines ++ s.lines;
        cut = Cut-join h.text piece g.lines s.lines kept later g.cut s.cut;
        written = g.written ++ s.written;
        appended = Appends-join u v w g.written s.written g.appended s.appended;
        runs = Runs-join takes g.lines s.lines a b c g.written s.written g.runs s.runs;
      };
      long = omega (arith, h.long, some, length-append h.text piece);
    }

-- the last line, and none
pub Runs-last : {S : Type 0} (takes : Taking S) (line : List ℕ) (a b : S) (new : List ℕ) → 0 < length line → NoLf line
    → AddsLine takes (line ++ []) a b [] new → Runs takes a (lines_of line) b new
Runs-last takes line a b new some h k =
    let whole : lines_of line ≡ (line ++ []) ∷ [] =
    lines_of-rest line some h ∙ ap (λ t. t ∷ []) (sym (append-nil line)) in
    subst (λ (t : List ℕ). Runs takes a (lines_of line) b t) (sym k.2)
    (subst (λ (t : List (List ℕ)). Runs takes a t b k.0) (sym whole) (Runs-one takes (line ++ []) a b k.0 k.1))

-- the reader came to its end
pub Reading-ends : {S : Type 0} (takes : Taking S) (a b c : S) (l m n u v w : Option (List ℕ)) (kept : List ℕ)
    (reads : ℕ)
    → Reading takes a b l m u v kept reads → Consumes m n [] → IsAtEnd n → RunsLast takes b c v w kept
    → RunsAll takes a c l n u w
Reading-ends takes a b c l m n u v w kept reads h r e s =
    let g = h.some in
    record {
      text = h.text;
      consumed = Consumes-all l m n h.text h.consumed r;
      at_end = e;
      last = (
        g.written ++ s.0,
        Appends-join u v w g.written s.0 g.appended s.1,
        subst (λ (t : List (List ℕ)). Runs takes a t c (g.written ++ s.0))
            (sym (complete_lines-cut true h.text g.lines kept g.cut))
            (Runs-join takes g.lines (lines_of kept) a b c g.written s.0 g.runs s.2),
      );
    }
