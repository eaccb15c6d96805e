-- A whole run tells of each host what its lines tell alone, and that takes turns.
use Rattle.std.proofs.Common.{ℕ, List}
use Rattle.line_filter.specs.Lines.{lines_of}
use Rattle.message_diff.specs.declared.snapshot.Compared.{Compared}
use Rattle.message_diff.specs.declared.telling.Told.TheVariants as Tellings
use Rattle.told_laws.specs.Hosts.{TellsApart, of_host}
use Rattle.told_laws.specs.Turns.{all_by}
use Rattle.told_laws.specs.Whole.{AreOrderly, WholeRuns}
use Rattle.told_laws.proofs.Apart.{apart}
use Rattle.told_laws.proofs.Orderly.{orderly}

are_orderly : (by : Compared) (lines : List (List ℕ)) (added : List ℕ) → TellsApart (all_by by) lines added
    → AreOrderly by lines added
are_orderly by lines added h = record {
  pieces = h.pieces;
  lines_are = h.lines_are;
  added_are = h.added_are;
  each = λ name. orderly by (of_host name h.pieces) (h.apart name);
}

pub whole_runs : WholeRuns
whole_runs by left left_after held held_after w =
    let run = w.3 in (
      run.text,
      run.last.0,
      run.consumed,
      run.last.1,
      λ short.
          are_orderly by (lines_of run.text) run.last.0
          (apart by Tellings.All w.0 w.1 (lines_of run.text) run.last.0 w.2 short run.last.2),
    )
