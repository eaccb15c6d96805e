use Rattle.std.proofs.Common.{◌≡◌, ◌≤◌, ◌∙◌, List, ℕ, true, false, length, take, sym, ap, rules}
use Rattle.std.specs.List.{list_any}
use Rattle.message_diff.specs.Announced.{is_event, without_event}
use Rattle.message_diff.specs.Frames.{frames_of}
use Rattle.message_diff.proofs.Events.{has_header, header_of, without_none}
use Rattle.message_diff.proofs.announced.without_event.Goals as goal

pub returns-then-not-has_event : goal.returns-then-not-has_event
returns-then-not-has_event c =
    let none : list_any is_event (frames_of c.args.message.now) ≡ false = (search rules) in
    sym (without_none c.args.message.now none)

pub loop-frame-init : goal.loop-frame-init
unfolding without_event
loop-frame-init c =
    let message : List ℕ = c.args.message.now in
    let some : list_any is_event (frames_of message) ≡ true = (search rules) in
    let long : 16 ≤ length message = has_header message some in
    let head : c.unwrap_or.result.now ≡ take 16 message =
    ap (λ r. r.now) c.unwrap_or.ensures ∙ header_of message c.get.result _ long c.get.ensures.lookup in
    let kept : c.extend_from_slice.new.self.items ≡ take 16 message = (search rules) in
    search rules
