use Rattle.std.proofs.Common.{ap, sym, ◌∙◌}
use Rattle.std.proofs.lemmas.Result.{on_ok_weaker}
use Rattle.frame_shown.specs.Tables.{Known}
use Rattle.frame_diff.proofs.There.{rows_beside, single_page}
use Rattle.frame_diff.proofs.Walked.{names_of}
use Rattle.frame_diff.proofs.list.by_number.tell_single.Goals as goal

pub tell_turning-requires-clause-row : goal.tell_turning-requires-clause-row
tell_turning-requires-clause-row g c =
    rows_beside c.args.behind c.args.others c.attribute-own.result c.attribute_there-there.result c.args.frame.now
    c.args.beside.now c.attribute-own.ensures.row c.attribute_there-there.ensures.row c.requires.rows
    c.attribute-own.ensures.number c.attribute_there-there.ensures.frame c.requires.found

pub tell_turning-requires-clause-names : goal.tell_turning-requires-clause-names
tell_turning-requires-clause-names g c =
    names_of c.args.behind c.attribute-own.result c.attribute-own.ensures.row c.requires.names

pub returns : goal.returns
returns g c =
    on_ok_weaker c.tell_turning.result (single_page g.W.Depth.nest g.W.Walk.inner c.args.pass.is_state
    c.args.pass.side c.args.path.now c.args.behind c.args.others c.requires.rows c.args.frame.now
    c.attribute-own.result c.attribute_there-there.result c.args.beside.now c.args.page.now
    c.tell_turning.new.page c.attribute-own.ensures.row c.attribute-own.ensures.number
    c.attribute-own.ensures.payload
    (c.attribute-own.ensures.held g.W.Depth.nest g.W.Walk.inner c.args.pass.is_state)
    (c.attribute_there-there.ensures.held g.W.Depth.nest g.W.Walk.inner c.args.pass.is_state)
    c.attribute_there-there.ensures.row c.attribute_there-there.ensures.frame
    (sym c.is_unnamed.ensures ∙ c.if-is_unnamed.false) (sym c.is_unnamed_there.ensures ∙ c.if-is_unnamed_there.false)
    c.requires.none c.requires.once c.requires.found c.row_in.result.0.now
    (ap (λ (row : Known). row.0) c.row_in.ensures.row))
    c.tell_turning.ensures
