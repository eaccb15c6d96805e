use Rattle.std.proofs.Common.{◌≡◌, [], length}
use Rattle.std.specs.Prelude.{◌||◌}
use Rattle.line_filter.specs.Words.{words_of}
use Rattle.shown.specs.Drafts.{with_members}
use Rattle.frame_shown.specs.Items.{are_any}
use Rattle.message_shown.specs.WordKeys.{written_keys}
use Rattle.message_shown.specs.Worded.{members_in, others_in}
use Rattle.message_shown.proofs.worded.show_members.Given as goal

abbrev pub invariant-loop-word : goal.invariant-loop-word
invariant-loop-word l =
    (with_members (members_in written_keys l.keys (words_of l.rest)) l.page
    ≡ with_members (members_in written_keys [] (words_of l.line)) l.fn.page)
    × ((l.others || are_any (others_in written_keys l.keys (words_of l.rest)))
    ≡ are_any (others_in written_keys [] (words_of l.line)))

abbrev pub decreases-loop-word : goal.decreases-loop-word
decreases-loop-word l = length l.rest
