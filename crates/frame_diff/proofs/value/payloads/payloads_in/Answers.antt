use Rattle.std.proofs.Common.{◌≡◌, [], ◌∷◌, Ok, ap, rules}
use Rattle.frame_diff.specs.Members.{slots_shown}
use Rattle.frame_diff.proofs.Slots.{payload_further, payload_over, payloads_left}
use Rattle.frame_diff.proofs.value.payloads.payloads_in.Goals.{in-None, in-Some+in_default}
use Rattle.frame_diff.proofs.value.payloads.payloads_in.Goals as goal

pub loop-item-preserved : goal.loop-item-preserved
loop-item-preserved c = λ nest cx.
    let here : c.loop-item.item-iterator ≡ Ok c.in-Ok.frame ∷ c.next.new.self = rw c.in-Ok.is at
    c.in-Some.ensures.steps in
    payload_further nest cx c.args.plain c.in-Ok.frame c.loop-item.item-iterator c.next.new.self _
    c.loop-item.values.items c.push.new.self.items (slots_shown c.args.plain c.args.bytes.now) here
    (search rules) c.in_ok-push.ensures.items (c.loop-item.invariant nest cx)

pub returns : goal.returns
returns c = λ nest cx.
    let left = payloads_left c.args.plain in
    let over : left c.loop-item.item-iterator ≡ [] = elim c.match-next.branch [
      | in-None w ↦ ap left w.in-None.ensures.steps.0
      | in-Some+in_default w ↦ ap left (rw w.in_default.is at w.in-Some.ensures.steps)
    ] in
    payload_over nest cx c.args.plain c.loop-item.item-iterator c.loop-item.values.items
    (slots_shown c.args.plain c.args.bytes.now) over (c.loop-item.invariant nest cx)
