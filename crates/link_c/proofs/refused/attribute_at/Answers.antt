use Rattle.std.specs.Prelude.{Bool, Ok}
use Rattle.std.proofs.Common.{subst}
use Rattle.link_c.specs.Lists.{IsNext}
use Rattle.link_c.proofs.Refusals.{told_frame}
use Rattle.link_c.proofs.refused.attribute_at.Goals as goal

pub returns-in-Ok-true : goal.returns-in-Ok-true
returns-in-Ok-true c =
    let found =
    subst (λ (yes : Bool). IsNext c.args.bytes.now c.args.at c.next_attribute.new.at _ c.next_attribute.new.attribute
    (Ok yes)) c.in-Ok-true.field-0-test c.in-Ok-true.ensures in
    told_frame c.args.bytes.now c.args.at c.next_attribute.new.at c.next_attribute.new.attribute found.1
