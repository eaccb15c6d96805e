use Rattle.std.proofs.lemmas.Result.{err_from_is_err_and}
use Rattle.line_filter.proofs.Stopping.{stops_at_once}
use Rattle.line_filter.proofs.run.read_lines.Goals as goal

pub returns-in_err-chunk-clause-err : goal.returns-in_err-chunk-clause-err
returns-in_err-chunk-clause-err g c =
    let p = err_from_is_err_and c.from_residual.result c.from_residual.ensures.1 in
    rw (p.1, p.2) (stops_at_once _ _ _ _)
