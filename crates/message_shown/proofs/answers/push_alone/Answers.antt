use Rattle.message_shown.proofs.Added.{object_told}
use Rattle.message_shown.specs.Worded.{words_shown}
use Rattle.shown.specs.Drafts.{with_members}
use Rattle.std.proofs.Common.{ap, ◌∙◌}
use Rattle.message_shown.proofs.answers.push_alone.Goals as goal

pub returns : goal.returns
returns c =
    object_told (words_shown c.args.front.now) c.show_words.new.page _ _ _
    (c.in_ok-show_words.ensures ∙ ap (with_members (words_shown c.args.front.now)) c.in_ok-page.ensures)
    c.in_ok-finish.ensures c.in_ok-push.ensures.items
