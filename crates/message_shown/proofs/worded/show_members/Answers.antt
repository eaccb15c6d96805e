use Rattle.std.proofs.Common.{◌≡◌, not, sym, ap, ◌∙◌}
use Rattle.line_filter.specs.Words.{first_key, first_value}
use Rattle.line_filter.proofs.Text.{take_rest}
use Rattle.line_filter.proofs.Front.{words_of-none}
use Rattle.shown.specs.Drafts.{with_members}
use Rattle.message_shown.specs.WordKeys.{is_member, with_key, written_keys}
use Rattle.message_shown.specs.Worded.{member_if, members_in}
use Rattle.message_shown.proofs.Words.{step_any, step_members}
use Rattle.message_shown.proofs.worded.show_members.Goals as goal

pub loop-word-preserved : goal.loop-word-preserved
loop-word-preserved c =
    let line = c.loop-word.rest.now in
    let keys = c.loop-word.keys in
    let page = c.loop-word.page in
    let key = c.in-Some.ensures.key in
    let more : c.show_member.new.keys ≡ with_key (is_member written_keys keys (first_key line)) (first_key line) keys =
    c.show_member.ensures.keys ∙ (λ k. with_key (is_member written_keys keys (key k)) (key k) keys) in
    let shown : c.show_member.new.page
    ≡ with_members (member_if (is_member written_keys keys (first_key line)) (first_key line, first_value line)) page =
    c.in_ok-others.ensures.page
    ∙ (λ k. with_members (member_if (is_member written_keys keys (key k)) (key k, c.in-Some.ensures.value k)) page) in
    let other = c.in_ok-others.ensures.other ∙ (λ k. not (is_member written_keys keys (key k))) in
    simp (take_rest, c.in-Some.ensures.len) (
      step_members written_keys line keys c.show_member.new.keys page c.show_member.new.page c.in-Some.ensures.none
          more shown ∙ c.loop-word.invariant.0,
      step_any written_keys line keys c.show_member.new.keys c.loop-word.others _ c.in-Some.ensures.none more other
          ∙ c.loop-word.invariant.1,
    )

pub returns-clause-page : goal.returns-clause-page
returns-clause-page c =
    ap (λ words. with_members (members_in written_keys c.loop-word.keys words) c.loop-word.page)
    (sym (words_of-none c.loop-word.rest.now c.in_default.ensures.none))
    ∙ c.loop-word.invariant.0
