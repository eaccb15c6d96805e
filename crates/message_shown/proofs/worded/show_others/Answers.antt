use Rattle.std.proofs.Common.{[], ap, ◌∙◌}
use Rattle.std.proofs.lemmas.Result.{on_ok_weaker}
use Rattle.line_filter.specs.Words.{words_of}
use Rattle.shown.specs.Drafts.{with_members}
use Rattle.message_shown.specs.WordKeys.{written_keys}
use Rattle.message_shown.specs.Worded.{as_items, others_in}
use Rattle.message_shown.proofs.Words.{others_ended}
use Rattle.message_shown.proofs.worded.show_others.Goals as goal

pub returns : goal.returns
returns c =
    let texts = others_in written_keys [] (words_of c.args.line.now) in
    on_ok_weaker c.end.result
    (λ ends. others_ended texts c.args.page.now _ _ c.requires
    (c.in_ok-show_items.ensures ∙ ap (with_members (as_items texts)) c.in_ok-begin.ensures) ends) c.end.ensures
