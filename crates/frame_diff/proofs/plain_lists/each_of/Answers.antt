use Rattle.std.proofs.Common.{◌≡◌, [], ◌∷◌, ◌∙◌, Ok, ap, map}
use Rattle.link_info.specs.Tables.{frames_in}
use Rattle.frame_diff.specs.Values.{value_shown}
use Rattle.frame_diff.proofs.Grouped.{each_further, each_over, key_entries, key_valued, list_entries, shown_flat}
use Rattle.frame_diff.proofs.plain_lists.each_of.Goals.{in-None, in-Some+in_default}
use Rattle.frame_diff.proofs.plain_lists.each_of.Goals as goal

pub loop-item-preserved : goal.loop-item-preserved
loop-item-preserved c nest inner =
    let here : c.loop-item.item-iterator ≡ Ok c.in-Ok.frame ∷ c.next.new.self = rw c.in-Ok.is at
    c.in-Some.ensures.steps in
    let list = c.args.list in
    let cx = list.around.now in
    each_further nest inner c.args.is_state list c.in-Ok.frame c.pick.result c.loop-item.item-iterator c.next.new.self
    (map (value_shown (nest cx) cx) c.loop-item.values.items)
    (map (value_shown (nest cx) cx) c.push_each.new.values.items) here (c.pick.ensures.values nest inner)
    (c.in_ok-push_each.ensures nest inner c.args.is_state cx c.pick.ensures.around) (c.loop-item.invariant nest inner)

pub returns-clause-whole : goal.returns-clause-whole
returns-clause-whole c nest inner plain =
    c.flat_value.ensures (nest c.args.list.around.now) c.args.list.around.now
    ∙ shown_flat nest inner c.args.is_state c.args.list
    (key_valued c.args.list.number c.args.list.list c.requires.key) plain

pub returns-clause-values : goal.returns-clause-values
returns-clause-values c nest inner =
    let over : frames_in c.loop-item.item-iterator ≡ [] = elim c.match-next.branch [
      | in-None w ↦ ap frames_in w.in-None.ensures.steps.0
      | in-Some+in_default w ↦ ap frames_in (rw w.in_default.is at w.in-Some.ensures.steps)
    ] in
    let cx = c.args.list.around.now in
    each_over nest inner c.args.is_state c.args.list c.loop-item.item-iterator
    (map (value_shown (nest cx) cx) c.loop-item.values.items) over (c.loop-item.invariant nest inner)

pub push_each-requires : goal.push_each-requires
push_each-requires c =
    list_entries c.pick.result c.args.list.list (key_entries c.args.list.number c.args.list.list c.requires.key)
    c.pick.ensures.list
