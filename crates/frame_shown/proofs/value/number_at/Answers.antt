use Rattle.std.proofs.Common.{ap, sym, ◌∙◌}
use Rattle.nla_wire.specs.Fields.{number_at}
use Rattle.link_info.specs.Styles.{width}
use Rattle.frame_shown.proofs.Named.{one_byte}
use Rattle.frame_shown.proofs.value.number_at.Goals as goal

pub returns-in-One : goal.returns-in-One
returns-in-One c = c.into.ensures ∙ c.u8_at.ensures ∙ one_byte c.args.bytes.now c.args.place
    ∙ ap (λ size. number_at (width size) c.args.bytes.now c.args.place) (sym c.in-One.is)
