use Rattle.std.proofs.Common.{refl, Ok}
use Rattle.link_msg.specs.declared.shape.Shape.TheVariants as Shapes
use Rattle.link_msg.proofs.Shaped.{arm_checks}
use Rattle.link_msg.proofs.shape.Shape.check.Goals as goal

pub returns-in-Bytes : goal.returns-in-Bytes
returns-in-Bytes c = arm_checks c.args.self Shapes.Bytes c.args.payload.now (Ok tt) c.in-Bytes.is refl

pub returns-in-Id : goal.returns-in-Id
returns-in-Id c = arm_checks c.args.self Shapes.Id c.args.payload.now (Ok tt) c.in-Id.is refl

pub returns-in-Stats : goal.returns-in-Stats
returns-in-Stats c = arm_checks c.args.self Shapes.Stats c.args.payload.now (Ok tt) c.in-Stats.is refl

pub returns-in-Stats64 : goal.returns-in-Stats64
returns-in-Stats64 c = arm_checks c.args.self Shapes.Stats64 c.args.payload.now (Ok tt) c.in-Stats64.is refl
