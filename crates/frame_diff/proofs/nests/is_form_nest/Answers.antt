use Rattle.std.proofs.Common.{◌∙◌}
use Rattle.frame_diff.proofs.Nested.{form_nest}
use Rattle.frame_diff.proofs.nests.is_form_nest.Goals as goal

pub returns : goal.returns
returns g c cx p =
    form_nest (g.W.Depth.nest cx) c.has_objects.result (c.has_objects.ensures cx) cx c.args.form p
    ∙ c.nest_form.ensures
