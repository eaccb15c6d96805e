use Rattle.std.proofs.Common.{◌∙◌, subst, sym}
use Rattle.std.proofs.lemmas.Result.{on_ok_weaker}
use Rattle.frame_diff.specs.Walked.{NoneComes}
use Rattle.frame_diff.proofs.There.{none_comes_behind, row_again, row_told}
use Rattle.frame_diff.proofs.Walked.{names_of}
use Rattle.frame_diff.proofs.list.by_name.tell_row.Goals as goal

pub comes_too-requires : goal.comes_too-requires
comes_too-requires g c h =
    subst (NoneComes c.args.behind) (sym c.requires.name.1)
    (none_comes_behind c.args.behind c.args.frame.now c.requires.names (c.requires.single h) c.requires.name.0)

pub tell_last-requires-clause-names : goal.tell_last-requires-clause-names
tell_last-requires-clause-names g c =
    names_of c.args.behind c.attribute-own.result c.attribute-own.ensures.row c.requires.names

pub returns-then-comes_too : goal.returns-then-comes_too
returns-then-comes_too g c =
    row_again g.W.Depth.nest g.W.Walk.inner c.args.pass.is_state c.args.pass.side c.args.path.now c.args.behind
    c.args.others c.args.frame.now c.args.name.now c.args.page.now c.requires.name
    (sym (c.comes_too.ensures g.W.Depth.nest g.W.Walk.inner c.args.pass.is_state) ∙ c.if-comes_too.true)

pub returns : goal.returns
returns g c =
    on_ok_weaker c.tell_last.result (row_told g.W.Depth.nest g.W.Walk.inner c.args.pass.is_state c.args.pass.side
    c.args.path.now c.args.behind c.args.others c.args.frame.now c.args.name.now c.attribute-own.result
    c.args.page.now c.tell_last.new.page c.requires.name
    (sym (c.comes_too.ensures g.W.Depth.nest g.W.Walk.inner c.args.pass.is_state) ∙ c.if-comes_too.false)
    (c.attribute-own.ensures.held g.W.Depth.nest g.W.Walk.inner c.args.pass.is_state)) c.tell_last.ensures
