use Rattle.std.proofs.Common.{inl, inr, ◌∙◌}
use Rattle.std.specs.Prelude.{◌||◌}
use Rattle.std.proofs.lemmas.Result.{err_from_is_err_and}
use Rattle.message_diff.proofs.files.compare_readers.Goals as goal

pub returns-in_err-second-clause-err : goal.returns-in_err-second-clause-err
returns-in_err-second-clause-err g c =
    let p = err_from_is_err_and c.from_residual-in_err-second.result c.from_residual-in_err-second.ensures.1 in
    let first = c.in_ok-first.ensures.ok.0 in
    rw (p.1, p.2) (inr (inl (_, (first.0, c.in_ok-first.first.watch, first.1, first.2), c.in_err-second.ensures.err)))

pub returns-in_err-told-clause-err : goal.returns-in_err-told-clause-err
returns-in_err-told-clause-err g c =
    let p = err_from_is_err_and c.from_residual-in_err-told.result c.from_residual-in_err-told.ensures.1 in
    rw (p.1, p.2) (inr (inr (record {
      old = c.in_ok-first.first.watch;
      new = c.in_ok-second.second.watch;
      between = _;
      behind = _;
      first = c.in_ok-first.ensures.ok.0;
      second = c.in_ok-second.ensures.ok.0;
      wrote = c.in_err-told.ensures.err;
    })))

pub returns-clause-ok : goal.returns-clause-ok
returns-clause-ok g c =
    let first = c.in_ok-first.ensures.ok in
    let second = c.in_ok-second.ensures.ok in
    record {
      old = c.in_ok-first.first.watch;
      new = c.in_ok-second.second.watch;
      between = _;
      behind = _;
      first = first.0;
      second = second.0;
      last = c.in_ok-told.ensures.ok;
      faults = c.either-has_faults.ensures ∙ (λ k. first.1 k || second.1 k);
    }
