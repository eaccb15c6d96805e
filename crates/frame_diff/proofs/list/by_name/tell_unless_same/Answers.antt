use Rattle.std.proofs.Common.{◌∙◌, sym}
use Rattle.frame_diff.specs.Items.{joined}
use Rattle.frame_diff.proofs.Walked.{silent_page}
use Rattle.frame_diff.proofs.list.by_name.tell_unless_same.Goals as goal

pub returns-then-has_payload : goal.returns-then-has_payload
returns-then-has_payload g c =
    silent_page g.W.Depth.nest g.W.Walk.inner c.laws.ensures.apart c.args.pass.is_state c.args.pass.side
    (joined c.args.path.now c.args.name.now) c.args.own c.args.beside c.args.page.now (c.requires.alike c.if-pass.true)
    (sym c.has_payload.ensures ∙ c.if-has_payload.true)
