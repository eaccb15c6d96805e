use Rattle.frame_shown.specs.Messages.{message_members}
use Rattle.message_shown.specs.Worded.{words_shown}
use Rattle.message_shown.proofs.Added.{adds_message, words_then}
use Rattle.message_shown.proofs.answers.push_message.Goals as goal

pub returns : goal.returns
returns c =
    let words = words_shown c.args.front.now in
    let bytes = c.args.bytes.now in
    let members = message_members c.args.cx.now.around bytes in
    let page = words_then words members c.in_ok-page.page c.show_words.new.page c.show_message.new.page
    c.in_ok-page.ensures c.in_ok-show_words.ensures c.in_ok-show_message.ensures in
    adds_message c.args.cx.now words c.show_message.new.page bytes _ _ _ c.requires page c.in_ok-finish.ensures
    c.in_ok-push.ensures.items
