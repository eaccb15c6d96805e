use Rattle.std.proofs.Common.{◌∙◌, ap, sym}
use Rattle.frame_diff.specs.Nests.{nest_meaning}
use Rattle.frame_diff.proofs.Nested.{meaning_nest}
use Rattle.link_info.specs.Meanings.{read_as}
use Rattle.frame_diff.proofs.nests.is_style_nest.Goals as goal

pub returns : goal.returns
returns g c cx =
    meaning_nest (g.W.Depth.nest cx) c.has_objects.result (c.has_objects.ensures cx) c.args.style
    (read_as c.args.style c.args.payload.now)
    ∙ ap (nest_meaning c.has_objects.result c.args.style) (sym c.read.ensures.meaning)
    ∙ c.nest_value.ensures
