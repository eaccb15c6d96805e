use Rattle.std.proofs.Common.{◌∙◌}
use Rattle.frame_diff.proofs.KeyedTold.{plain_beside, plain_runless}
use Rattle.frame_diff.proofs.groups.values_beside.Goals as goal

pub returns-then-are_plain-clause-found : goal.returns-then-are_plain-clause-found
returns-then-are_plain-clause-found g c =
    plain_beside g.W.Depth.nest g.W.Walk.inner c.args.pass.is_state c.in-Some.other c.none_of.result c.args.beside
    c.in-Some.is (c.are_plain.ensures ∙ c.if-are_plain.true) c.none_of.ensures.bytes

pub returns-then-are_plain-clause-runs : goal.returns-then-are_plain-clause-runs
returns-then-are_plain-clause-runs g c =
    plain_runless g.W.Depth.nest g.W.Walk.inner c.args.pass.is_state c.in-Some.other c.none_of.result c.args.beside
    c.in-Some.is (c.are_plain.ensures ∙ c.if-are_plain.true) c.none_of.ensures.bytes
