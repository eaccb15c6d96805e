use Rattle.std.proofs.lemmas.Result.{err_from_is_err_and}
use Rattle.message_diff.proofs.Noted.{noted_all, noted_stops}
use Rattle.message_diff.proofs.files.read_all.Goals as goal

pub returns-in_err-read_lines-clause-err : goal.returns-in_err-read_lines-clause-err
returns-in_err-read_lines-clause-err g c =
    let p = err_from_is_err_and c.from_residual.result c.from_residual.ensures.1 in
    rw (p.1, p.2)
    (c.new-watch.result, c.new-watch.ensures, noted_stops _ _ _ _ _ _ c.in_err-read_lines.ensures.err)

pub returns-clause-ok : goal.returns-clause-ok
returns-clause-ok g c =
    let all = noted_all _ _ _ _ _ _ c.in_ok-read_lines.ensures.ok in
    ((c.new-watch.result, c.new-watch.ensures, all.0), all.1)
