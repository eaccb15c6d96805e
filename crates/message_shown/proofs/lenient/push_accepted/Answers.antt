use Rattle.std.proofs.Common.{[], ◌∷◌, ◌++◌}
use Rattle.frame_shown.specs.Accepted.{lenient_members}
use Rattle.frame_shown.proofs.Items.{both_added}
use Rattle.message_shown.specs.Leniently.{refused_member}
use Rattle.message_shown.specs.Worded.{words_shown}
use Rattle.message_shown.proofs.Added.{words_then}
use Rattle.message_shown.proofs.Leniently.{accepted_answered, accepted_shown, long_enough}
use Rattle.message_shown.proofs.lenient.push_accepted.Goals as goal

pub show_refused-requires : goal.show_refused-requires
show_refused-requires c = long_enough c.args.bytes.now c.requires.0 c.requires.1

pub returns-clause-answer : goal.returns-clause-answer
returns-clause-answer c =
    let words = words_shown c.args.front.now in
    let bytes = c.args.bytes.now in
    let members = lenient_members c.args.cx.now.around bytes in
    let added = c.in_ok-show_refused.ensures in
    let page = words_then words (members ++ refused_member added.0 ∷ []) c.in_ok-page.page c.show_words.new.page
    c.show_refused.new.page c.in_ok-page.ensures c.in_ok-show_words.ensures
    (both_added members (refused_member added.0 ∷ []) c.show_words.new.page c.show_leniently.new.page
    c.show_refused.new.page
    c.in_ok-show_leniently.ensures added.2) in
    accepted_answered words c.args.cx.now bytes _ _ _ added.0 c.show_refused.new.page
    c.requires page c.in_ok-finish.ensures c.in_ok-push.ensures.items

pub returns-clause-whole : goal.returns-clause-whole
returns-clause-whole c nothing =
    let words = words_shown c.args.front.now in
    let bytes = c.args.bytes.now in
    let members = lenient_members c.args.cx.now.around bytes in
    let added = c.in_ok-show_refused.ensures in
    let page = words_then words (members ++ refused_member added.0 ∷ []) c.in_ok-page.page c.show_words.new.page
    c.show_refused.new.page c.in_ok-page.ensures c.in_ok-show_words.ensures
    (both_added members (refused_member added.0 ∷ []) c.show_words.new.page c.show_leniently.new.page
    c.show_refused.new.page
    c.in_ok-show_leniently.ensures added.2) in
    accepted_shown words c.args.cx.now bytes _ _ _ added.0 c.show_refused.new.page
    c.requires page c.in_ok-finish.ensures c.in_ok-push.ensures.items added.1 nothing
