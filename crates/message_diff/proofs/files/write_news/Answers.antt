use Rattle.std.proofs.Common.{ap, ◌∙◌}
use Rattle.std.proofs.lemmas.Result.{err_from_is_err_and}
use Rattle.std.specs.List.{flat_map}
use Rattle.message_diff.specs.Files.{host_gone, host_news, is_any, names_in}
use Rattle.message_diff.proofs.Beside.{join, stops_writing, tells_all}
use Rattle.message_diff.proofs.files.write_news.Goals as goal

pub returns-in_err-write_out-clause-err : goal.returns-in_err-write_out-clause-err
returns-in_err-write_out-clause-err g c =
    let old = c.args.old.now in
    let new = c.args.new.now in
    let h = join (flat_map (host_news old new) (names_in new)) (flat_map (host_gone old new) (names_in old)) _ _ _
    c.in_ok-push_came.ensures c.in_ok-push_went.ensures in
    let p = err_from_is_err_and c.from_residual-in_err-write_out.result
    c.from_residual-in_err-write_out.ensures.1 in
    rw (p.1, p.2) (stops_writing _ old new _ _ _ _ c.new-2.ensures.items c.new-3.ensures.items h
    c.in_err-write_out.ensures.err)

pub returns-clause-ok : goal.returns-clause-ok
returns-clause-ok g c =
    let old = c.args.old.now in
    let new = c.args.new.now in
    let h = join (flat_map (host_news old new) (names_in new)) (flat_map (host_gone old new) (names_in old)) _ _ _
    c.in_ok-push_came.ensures c.in_ok-push_went.ensures in
    tells_all old new _ _ _ _ _ (c.is_any-differs.ensures ∙ ap is_any c.as_slice.ensures.value) c.new-2.ensures.items
    c.new-3.ensures.items h c.in_ok-write_out.ensures.ok
