use Rattle.std.proofs.Common.{◌≡◌, ◌≤◌, ◌*◌, ◌+◌, ◌∷◌, ◌∙◌, Ok, ap, arith, length, subst, sym}
use Rattle.nla_wire.specs.Items.{frame_count, items}
use Rattle.link_info.specs.Tables.{frames_in}
use Rattle.shown.specs.Drafts.{Draft, with_members}
use Rattle.frame_shown.specs.Items.{objects}
use Rattle.frame_diff.specs.Items.{items_told}
use Rattle.frame_diff.specs.Members.{named_in, places}
use Rattle.frame_diff.specs.Repeated.{GoesOnAt, again_in, earlier_at}
use Rattle.frame_diff.specs.Walked.{named_at, reading_at}
use Rattle.frame_diff.proofs.Repeated.{again_fits, again_named, again_next, again_rows}
use Rattle.frame_diff.proofs.Entries.{place_small}
use Rattle.frame_diff.proofs.again.tell_repeated.Goals as goal

pub place_by-place-requires : goal.place_by-place-requires
place_by-place-requires g c =
    let here : c.loop-item.item-iterator ≡ Ok c.in-Ok.frame ∷ c.next.new.self = rw c.in-Ok.is at
    c.in-Some.ensures.steps in
    let few : 4 * frame_count (items c.args.own.bytes.now) ≤ length c.args.own.bytes.now =
    rw c.new-item-items.ensures.value at c.new-item-items.ensures.few in
    let fits : c.loop-item.place + 1 ≤ length c.args.own.bytes.now =
    place_small c.in-Ok.frame c.loop-item.item-iterator c.next.new.self here c.loop-item.place
    (frame_count (items c.args.own.bytes.now)) (length c.args.own.bytes.now) c.loop-item.invariant.few few in
    omega (arith, fits)

pub loop-item-preserved : goal.loop-item-preserved
loop-item-preserved g c =
    let nest = g.W.Depth.nest in
    let inner = g.W.Walk.inner in
    let is_state = c.args.pass.is_state in
    let own = c.args.own in
    let others = c.args.others in
    let r = reading_at nest inner is_state own.around.now in
    let here : c.loop-item.item-iterator ≡ Ok c.in-Ok.frame ∷ c.next.new.self = rw c.in-Ok.is at
    c.in-Some.ensures.steps in
    let left : items c.behind-rest.result.now ≡ c.next.new.self =
    c.behind-rest.ensures c.next.new.self (c.loop-item.invariant.behind ∙ here) in
    let all : Draft = with_members (objects (items_told c.args.pass.side c.args.path.now
    (places (earlier_at nest inner is_state own)) (places (earlier_at nest inner is_state others))))
    c.args.page.now in
    record {
      behind = left;
      goes = subst (λ n. GoesOnAt nest inner is_state others n c.beside_again.result.1.now)
          (sym c.place_by-place.ensures)
          (c.beside_again.ensures.place nest inner is_state c.loop-item.place c.loop-item.invariant.goes).1;
      few = again_fits c.in-Ok.frame c.again-again.result c.loop-item.item-iterator c.next.new.self here
          c.loop-item.place c.place_by-place.result (frame_count (items own.bytes.now)) c.place_by-place.ensures
          c.loop-item.invariant.few;
      told = again_next nest inner is_state own.list c.in-Ok.frame r c.again-again.result
          c.loop-item.item-iterator c.next.new.self here
          (c.again-again.ensures.held nest inner is_state
          ∙ ap (λ xs. again_in r own.list (named_in r own.list (frames_in xs)) c.in-Ok.frame) left)
          (named_at nest inner is_state others) c.args.pass.side c.args.path.now c.loop-item.place
          c.place_by-place.result c.loop-item.page c.tell_again.new.page all c.place_by-place.ensures
          c.in_ok-tell_again.ensures c.loop-item.invariant.told;
    }

pub tell_again-requires-clause-beside : goal.tell_again-requires-clause-beside
tell_again-requires-clause-beside g c =
    (c.beside_again.ensures.place g.W.Depth.nest g.W.Walk.inner c.args.pass.is_state c.loop-item.place
    c.loop-item.invariant.goes).0

pub tell_again-requires-clause-names : goal.tell_again-requires-clause-names
tell_again-requires-clause-names g c =
    again_named (record {
      around = c.args.own.around;
      list = c.args.own.list;
      number = c.args.own.number;
      bytes = c.behind-rest.result;
    })
    c.again-again.result c.again-again.ensures.row c.requires.names

pub tell_again-requires-clause-rows : goal.tell_again-requires-clause-rows
tell_again-requires-clause-rows g c h =
    again_rows (record {
      around = c.args.own.around;
      list = c.args.own.list;
      number = c.args.own.number;
      bytes = c.behind-rest.result;
    })
    c.args.others c.again-again.result c.beside_again.result.0 c.again-again.ensures.row c.beside_again.ensures.row
    (c.requires.rows h)
