use Rattle.std.proofs.Common.{◌≡◌, ◌∷◌, ◌∙◌, Ok}
use Rattle.nla_wire.specs.Items.{items}
use Rattle.shown.specs.Drafts.{Draft, with_members}
use Rattle.frame_shown.specs.Items.{objects}
use Rattle.frame_diff.specs.Forests.{forest}
use Rattle.frame_diff.specs.Items.{items_told}
use Rattle.frame_diff.specs.Walked.{named_at, reading_at}
use Rattle.frame_diff.proofs.There.{none_left, tail_behind}
use Rattle.frame_diff.proofs.Walked.{named_next}
use Rattle.frame_diff.proofs.list.tell_named.Goals as goal

pub loop-item-preserved : goal.loop-item-preserved
loop-item-preserved g c =
    let nest = g.W.Depth.nest in
    let inner = g.W.Walk.inner in
    let own = c.args.own in
    let here : c.loop-item.item-iterator ≡ Ok c.in-Ok.frame ∷ c.next.new.self = rw c.in-Ok.is at
    c.in-Some.ensures.steps in
    let left : items c.behind-rest.result.now ≡ c.next.new.self =
    c.behind-rest.ensures c.next.new.self (c.loop-item.invariant.left ∙ here) in
    let all : Draft = with_members (objects (items_told c.args.pass.side c.args.path.now
    (forest (named_at nest inner c.args.pass.is_state own))
    (forest (named_at nest inner c.args.pass.is_state c.args.others)))) c.args.page.now in
    record {
      left = left;
      front = tail_behind own.bytes.now c.loop-item.rest.now c.behind-rest.result.now c.in-Ok.frame c.next.new.self
          c.loop-item.invariant.front (c.loop-item.invariant.left ∙ here) left;
      tail = c.in_ok-there.ensures.tail;
      told = named_next c.args.pass.side c.args.path.now (reading_at nest inner c.args.pass.is_state own.around.now)
          own.list (forest (named_at nest inner c.args.pass.is_state c.args.others)) c.in-Ok.frame
          c.loop-item.item-iterator c.next.new.self here c.behind-rest.result.now c.loop-item.page
          c.tell_next.new.page all left c.in_ok-there.ensures.told c.loop-item.invariant.told;
    }

pub tell_next-requires-clause-single : goal.tell_next-requires-clause-single
tell_next-requires-clause-single g c h =
    let own = c.args.own in
    let here : c.loop-item.item-iterator ≡ Ok c.in-Ok.frame ∷ c.next.new.self = rw c.in-Ok.is at
    c.in-Some.ensures.steps in
    let left : items c.behind-rest.result.now ≡ c.next.new.self =
    c.behind-rest.ensures c.next.new.self (c.loop-item.invariant.left ∙ here) in
    none_left own.bytes.now c.loop-item.rest.now
    (record { around = own.around; list = own.list; number = own.number; bytes = c.behind-rest.result }) c.in-Ok.frame
    c.next.new.self c.loop-item.invariant.front (c.loop-item.invariant.left ∙ here) left (c.requires.single h)

pub tell_next-requires-clause-once : goal.tell_next-requires-clause-once
tell_next-requires-clause-once g c h =
    let own = c.args.own in
    let here : c.loop-item.item-iterator ≡ Ok c.in-Ok.frame ∷ c.next.new.self = rw c.in-Ok.is at
    c.in-Some.ensures.steps in
    let left : items c.behind-rest.result.now ≡ c.next.new.self =
    c.behind-rest.ensures c.next.new.self (c.loop-item.invariant.left ∙ here) in
    let once = c.is_once-is_once.ensures h in
    record {
      alike = once.0;
      rows = c.requires.rows once.0;
      none = none_left own.bytes.now c.loop-item.rest.now
          (record { around = own.around; list = own.list; number = own.number; bytes = c.behind-rest.result })
          c.in-Ok.frame
          c.next.new.self c.loop-item.invariant.front (c.loop-item.invariant.left ∙ here) left
          (c.requires.single once.1);
      once = once.2;
    }
