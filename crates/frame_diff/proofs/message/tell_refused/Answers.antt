use Rattle.std.proofs.Common.{length, sym, ◌∙◌, eqb-true}
use Rattle.std.proofs.lemmas.List.{nil_from_length}
use Rattle.std.proofs.lemmas.Result.{on_ok_weaker}
use Rattle.frame_diff.proofs.Told.{refused_silent, refused_told}
use Rattle.frame_diff.proofs.Names.{names_apart}
use Rattle.frame_diff.proofs.message.tell_refused.Goals as goal

pub returns-then-is_empty : goal.returns-then-is_empty
returns-then-is_empty c =
    refused_silent c.args.pass.side c.args.pass.is_state c.args.cx.now c.args.theirs.now c.args.own.now
    c.args.others.now c.args.page.now
    (nil_from_length c.args.own.now (eqb-true (length c.args.own.now) 0 (sym c.is_empty.ensures ∙ c.if-is_empty.true)))

pub returns : goal.returns
returns c =
    on_ok_weaker c.tell_list.result (refused_told c.args.pass.side c.args.pass.is_state c.args.cx.now
    c.args.theirs.now c.args.own.now c.args.others.now c.args.page.now c.tell_list.new.page)
    c.tell_list.ensures

pub tell_list-requires-clause-names : goal.tell_list-requires-clause-names
tell_list-requires-clause-names c list = names_apart.apart c.args.cx.now list c.requires.rows

pub tell_list-requires-clause-alike : goal.tell_list-requires-clause-alike
tell_list-requires-clause-alike c h =
    (c.requires.alike h, λ list. names_apart.apart c.args.cx.now list c.requires.rows)
