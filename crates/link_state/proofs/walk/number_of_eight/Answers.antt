use Rattle.std.proofs.Common.{rules, ◌+◌, ◌≤◌, ◌<◌, length, drop, ◌++◌}
use Rattle.link_state.proofs.Walking.{begins_eight}
use Rattle.link_state.proofs.walk.number_of_eight.Goals as goal

pub returns-in-Ok : goal.returns-in-Ok
returns-in-Ok c =
    let list = c.args.list.now in
    let at = c.args.at in
    let frame = c.in-Ok.frame in
    let rest = c.in-Ok.ensures.0 in
    let within : at + 8 ≤ length list = c.requires in
    let some : 0 < length frame.payload = Prim.search rules in
    let h = begins_eight list at frame rest within c.in-Ok.ensures.1 some in
    (frame, rest ++ drop 8 (drop at list), h.0, c.kind.ensures, h.1)
