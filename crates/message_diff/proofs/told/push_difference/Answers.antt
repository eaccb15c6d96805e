use Rattle.std.proofs.Common.{◌++◌, ◌∷◌, [], ap, ◌∙◌}
use Rattle.std.specs.Prelude.{codes}
use Rattle.shown.specs.Drafts.{Members, with_members, with_value}
use Rattle.message_shown.proofs.Added.{members_then, object_told}
use Rattle.message_diff.specs.Alone.{change_member, told_words}
use Rattle.message_diff.specs.Changed.{change_tokens, changed_members, written_items}
use Rattle.message_diff.specs.Named.{head_of}
use Rattle.message_diff.proofs.told.push_difference.Goals as goal

pub returns : goal.returns
unfolding changed_members
returns c =
    let old = c.args.old.now in
    let new = c.args.new.now in
    let words = told_words c.args.front.now in
    let member = change_member (codes "changed") in
    let head = head_of new.text in
    let list = change_tokens (written_items c.args.by old new) in
    let more : Members = (codes "changes", list) ∷ [] in
    object_told (words ++ member ∷ (head ++ more)) c.show_changes.new.page _ _ _
    (members_then words head more member c.in_ok-page.page c.show_told.new.page c.keyed_string.new.self
    c.show_changes.new.page c.in_ok-page.ensures c.in_ok-show_told.ensures c.in_ok-keyed_string.ensures
    (c.in_ok-show_changes.ensures
    ∙ ap (with_value (codes "changes") list)
    (c.in_ok-show_interface.ensures
    ∙ ap (λ text. with_members (head_of text) c.keyed_string.new.self) c.text.ensures)))
    c.in_ok-finish.ensures c.in_ok-push.ensures.items
