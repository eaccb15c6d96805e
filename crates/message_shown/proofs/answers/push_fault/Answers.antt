use Rattle.message_shown.proofs.Added.{adds_fault}
use Rattle.message_shown.specs.Worded.{words_shown}
use Rattle.message_shown.proofs.answers.push_fault.Goals as goal

pub returns : goal.returns
returns c =
    adds_fault c.args.cx.now (words_shown c.args.front.now) _ c.args.error.now c.in_ok-page.page _ _ _
    c.args.bytes.now _ _ _ c.requires
    c.cause_name.ensures c.in_ok-page.ensures c.in_ok-show_words.ensures c.in_ok-keyed_string.ensures
    c.in_ok-show_fault.ensures c.in_ok-finish.ensures c.in_ok-push.ensures.items
