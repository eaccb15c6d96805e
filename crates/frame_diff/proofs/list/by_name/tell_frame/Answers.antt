use Rattle.std.proofs.Common.{ap, sym, ◌∙◌}
use Rattle.frame_shown.specs.Tables.{row_in}
use Rattle.frame_diff.proofs.There.{unnamed_page}
use Rattle.frame_diff.proofs.list.by_name.tell_frame.Goals as goal
use Rattle.frame_diff.specs.Members.{is_unnamed}

pub tell_row-requires-clause-name : goal.tell_row-requires-clause-name
tell_row-requires-clause-name g c =
    let cx = c.args.behind.around.now in
    let list = c.args.behind.list in (
      (λ k. is_unnamed (row_in cx list (sym c.kind.ensures k)).1 (sym c.value.ensures.value k)) ∙ c.in-Some.ensures.0,
      c.in-Some.ensures.1 ∙ ap (λ n. (row_in cx list n).0) c.kind.ensures,
    )

pub returns-in-None : goal.returns-in-None
returns-in-None g c =
    let cx = c.args.behind.around.now in
    let list = c.args.behind.list in
    unnamed_page g.W.Depth.nest g.W.Walk.inner c.args.pass.is_state c.args.pass.side c.args.path.now c.args.behind
    c.args.others c.args.frame.now c.args.page.now
    ((λ k. is_unnamed (row_in cx list (sym c.kind.ensures k)).1 (sym c.value.ensures.value k)) ∙ c.in-None.ensures)
