use Rattle.std.proofs.Common.{◌≡◌, ◌∙◌, ap, sym}
use Rattle.std.specs.Prelude.{cond}
use Rattle.std.proofs.lemmas.Result.{IfOk-weaker}
use Rattle.frame_diff.specs.Counters.{action_in}
use Rattle.frame_diff.specs.Forests.{Forest}
use Rattle.frame_diff.specs.Members.{Inner, held_inside, way_inside}
use Rattle.frame_diff.specs.Rows.{clearing, inside_by}
use Rattle.frame_diff.proofs.Cleared.{way_same}
use Rattle.frame_diff.proofs.held.held_in.Goals as goal

pub returns-then-is_passed : goal.returns-then-is_passed
returns-then-is_passed c inner =
    let own = c.args.own in
    ap (λ b. cond b Forest.passed (way_inside inner own.around.now
    (action_in c.args.is_state own.list own.number) own.way own.payload.now))
    (sym c.is_passed.ensures ∙ c.if-is_passed.true)

pub returns : goal.returns
returns c =
    let own = c.args.own in
    let cx = own.around.now in
    let action = action_in c.args.is_state own.list own.number in
    let part = clearing c.cleared_part-part.result in
    IfOk-weaker c.way_holds.result
    (λ held. (inner : Inner) → way_inside inner cx part own.way own.payload.now ≡ inside_by inner cx held)
    (λ held. (inner : Inner) → held_inside inner cx action own.way own.payload.now ≡ inside_by inner cx held)
    (λ held is inner.
    ap (λ b. cond b Forest.passed (way_inside inner cx action own.way own.payload.now))
    (sym c.is_passed.ensures ∙ c.if-is_passed.false)
    ∙ way_same inner cx action part c.cleared_part-part.ensures own.way own.payload.now ∙ is inner)
    c.way_holds.ensures
