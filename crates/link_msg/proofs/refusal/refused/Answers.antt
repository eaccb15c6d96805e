use Rattle.link_msg.specs.Tables.{attribute_place}
use Rattle.link_msg.proofs.Telling.{told_read, leads_there, is_bad}
use Rattle.link_msg.proofs.refusal.refused.Goals as goal

pub returns-in-Ok : goal.returns-in-Ok
returns-in-Ok c = λ more.
    told_read c.args.family c.args.offset c.args.frame ((attribute_place c.args.family).reads c.args.frame) more
    c.in-Ok.ensures

pub invariant_of-result : goal.invariant_of-result
invariant_of-result c =
    leads_there c.args.family c.args.offset c.args.frame c.is_frame.ensures c.in-Err.error.cause
    (is_bad c.args.family c.args.frame c.is_frame.ensures c.in-Err.error.cause c.in-Err.ensures) c.frame-path.result
    c.in_attribute.result c.in_attribute.ensures c.kind.result c.kind.ensures c.frame-path.ensures
