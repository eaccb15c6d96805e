use Rattle.std.proofs.Common.{◌++◌, ◌∷◌, []}
use Rattle.message_shown.proofs.Added.{members_then, object_told}
use Rattle.message_diff.specs.Alone.{change_member, interface_line, told_words}
use Rattle.message_diff.specs.Named.{head_of}
use Rattle.message_diff.proofs.Meant.{alone_meant}
use Rattle.message_diff.proofs.alone.push_alone.Goals as goal

pub returns : goal.returns
unfolding interface_line
returns c =
    let words = told_words c.args.front.now in
    let member = change_member c.args.change.now in
    let head = head_of c.args.text.now in
    alone_meant c.args.front.now c.args.change.now c.args.text.now c.args.out.now.items c.push.new.self.items
    (object_told (words ++ member ∷ head) c.show_interface.new.page _ _ _
    (members_then words [] head member c.in_ok-page.page c.show_told.new.page c.keyed_string.new.self
    c.show_interface.new.page c.in_ok-page.ensures c.in_ok-show_told.ensures c.in_ok-keyed_string.ensures
    c.in_ok-show_interface.ensures)
    c.in_ok-finish.ensures c.in_ok-push.ensures.items)
