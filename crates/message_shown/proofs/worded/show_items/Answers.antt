use Rattle.std.proofs.Common.{◌≡◌, sym, ap, ◌∙◌}
use Rattle.line_filter.specs.Words.{first_key}
use Rattle.line_filter.proofs.Text.{take_rest}
use Rattle.line_filter.proofs.Front.{words_of-none}
use Rattle.shown.specs.Drafts.{with_members}
use Rattle.message_shown.specs.WordKeys.{is_member, with_key, written_keys}
use Rattle.message_shown.specs.Worded.{as_items, others_in}
use Rattle.message_shown.proofs.Words.{step_items}
use Rattle.message_shown.proofs.worded.show_items.Goals as goal

pub loop-word-preserved : goal.loop-word-preserved
loop-word-preserved c =
    let line = c.loop-word.rest.now in
    let keys = c.loop-word.keys in
    let key = c.in-Some.ensures.key in
    let more : c.show_other.new.keys ≡ with_key (is_member written_keys keys (first_key line)) (first_key line) keys =
    c.show_other.ensures.keys ∙ (λ k. with_key (is_member written_keys keys (key k)) (key k) keys) in
    let same = ap (λ t. is_member written_keys keys t) key in
    simp (take_rest, c.in-Some.ensures.len) (
    step_items written_keys line c.text_of_word-text.result.now keys c.show_other.new.keys c.loop-word.page
    c.show_other.new.page c.in-Some.ensures.none c.text_of_word-text.ensures more
    (λ is. c.in_ok-show_other.ensures.member (same ∙ is)) (λ is. c.in_ok-show_other.ensures.other (same ∙ is))
    ∙ c.loop-word.invariant
    )

pub returns : goal.returns
returns c =
    ap (λ words. with_members (as_items (others_in written_keys c.loop-word.keys words)) c.loop-word.page)
    (sym (words_of-none c.loop-word.rest.now c.in_default.ensures.none))
    ∙ c.loop-word.invariant
