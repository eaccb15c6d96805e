use Rattle.std.proofs.Common.{rules, ◌∙◌, sym, ap}
use Rattle.link_state.specs.Table.{action_of}
use Rattle.link_state.proofs.Walking.{kept_walked, ended}
use Rattle.link_state.proofs.walk.fill_list.Goals as goal

pub loop-at-preserved-in-Some : goal.loop-at-preserved-in-Some
loop-at-preserved-in-Some g c =
    let eight = c.in-Some.ensures in
    let inv = c.loop-at.invariant in
    let by = g.L.Listed.byte in
    let level = g.L.Listed.level c.args.of.now in
    let keep = ap (action_of level) (sym eight.3) ∙ c.keeps.ensures c.if-keeps.true in
    let step = kept_walked by level c.loop-at.list c.loop-at.at eight.0 eight.1 eight.2 keep eight.4
    (Prim.search rules) in
    record { within = Prim.search rules; same_size = inv.same_size; so_far = step ∙ inv.so_far }

pub returns : goal.returns
returns g c =
    ended g.L.Listed.byte (g.L.Listed.level c.args.of.now) c.loop-at.list c.loop-at.at c.loop-at-test.false
    ∙ c.loop-at.invariant.so_far
