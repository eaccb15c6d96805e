use Rattle.std.proofs.Common.{◌≡◌, ◌∷◌, ◌∙◌, Ok, ap, sym}
use Rattle.std.specs.Prelude.{option_map}
use Rattle.nla_wire.specs.Items.{frame_count, items}
use Rattle.shown.specs.Drafts.{Draft, with_members}
use Rattle.frame_shown.specs.Items.{objects}
use Rattle.frame_diff.specs.Groups.{group_at, is_entries, value_at}
use Rattle.frame_diff.specs.Items.{items_told}
use Rattle.frame_diff.specs.Members.{places}
use Rattle.frame_diff.proofs.Grouped.{next_fits, places_next}
use Rattle.frame_diff.proofs.Walked.{named_one, one_stands}
use Rattle.frame_diff.proofs.groups.by_place.tell_places.Goals as goal

pub loop-item-preserved : goal.loop-item-preserved
loop-item-preserved g c =
    let nest = g.W.Depth.nest in
    let inner = g.W.Walk.inner in
    let is_state = c.args.pass.is_state in
    let own = c.args.own in
    let side = c.args.pass.side in
    let text = c.args.path.now in
    let here : c.loop-item.item-iterator ≡ Ok c.in-Ok.frame ∷ c.next.new.self = rw c.in-Ok.is at
    c.in-Some.ensures.steps in
    let all : Draft = with_members (objects (items_told side text (places (group_at nest inner is_state own))
    (places (group_at nest inner is_state c.args.others)))) c.args.page.now in
    record {
      same = ap is_entries c.take_beside-taken.ensures.same.0 ∙ c.loop-item.invariant.same;
      around = c.take_beside-taken.ensures.same.1 ∙ c.loop-item.invariant.around;
      few = next_fits c.in-Ok.frame c.pick-value.result c.loop-item.item-iterator c.next.new.self here
          c.loop-item.place c.next_place-place.result (frame_count (items own.bytes.now)) c.next_place-place.ensures
          c.loop-item.invariant.few;
      told = places_next nest inner is_state side text own.number own.list
          own.around.now c.in-Ok.frame c.pick-value.result
          c.loop-item.item-iterator c.next.new.self here (c.pick-value.ensures.values nest inner)
          (group_at nest inner is_state c.loop-item.rest)
          (group_at nest inner is_state c.take_beside-taken.result.rest)
          (option_map (value_at nest inner is_state) c.take_beside-taken.result.value)
          (c.take_beside-taken.ensures.value nest inner) (c.take_beside-taken.ensures.rest nest inner)
          c.loop-item.place c.next_place-place.result c.loop-item.page c.tell_place.new.page all
          c.next_place-place.ensures c.in_ok-tell_place.ensures c.loop-item.invariant.told;
    }

pub tell_place-requires-clause-names : goal.tell_place-requires-clause-names
tell_place-requires-clause-names g c =
    named_one c.args.own.around.now c.pick-value.result c.pick-value.ensures.around c.requires.names

pub tell_place-requires-clause-alike : goal.tell_place-requires-clause-alike
tell_place-requires-clause-alike g c h =
    one_stands c.args.own.around.now c.loop-item.rest.around.now c.pick-value.result c.take_beside-taken.result.value
    c.pick-value.ensures.around c.take_beside-taken.ensures.around
    ((c.requires.alike h).0 ∙ sym c.loop-item.invariant.around) (c.requires.alike h).1
