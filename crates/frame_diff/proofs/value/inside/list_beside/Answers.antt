use Rattle.std.proofs.Common.{◌∙◌, ap, sym}
use Rattle.std.proofs.lemmas.Result.{IfOk-weaker}
use Rattle.std.specs.Prelude.{option_map}
use Rattle.frame_diff.specs.Differences.{inside_in}
use Rattle.frame_diff.specs.Forests.{find}
use Rattle.frame_diff.specs.Walked.{held_at}
use Rattle.frame_diff.proofs.value.inside.list_beside.Goals as goal

pub returns-in-Some-clause-held : goal.returns-in-Some-clause-held
returns-in-Some-clause-held c =
    IfOk-weaker c.list_in.result _ _ (λ list found nest inner s other. found nest inner s other
    ∙ ap (λ b. find s (inside_in (option_map (held_at nest inner c.args.is_state) b))) (sym c.in-Some.is))
    c.list_in.ensures.held
