use Rattle.std.proofs.Common.{ap, ◌∙◌}
use Rattle.std.specs.Prelude.{codes}
use Rattle.std.proofs.lemmas.Result.{on_ok_weaker}
use Rattle.shown.specs.Drafts.{with_members}
use Rattle.frame_shown.specs.Items.{objects}
use Rattle.frame_shown.proofs.Items.{objects_ended}
use Rattle.message_shown.proofs.lenient.show_refused.Goals as goal

pub returns : goal.returns
returns c =
    let added = c.in_ok-show_refusals.ensures in
    on_ok_weaker c.end.result (λ ends. (
      added.0,
      added.1,
      objects_ended (codes "refused") added.0 c.args.page.now _ _
          (added.2 ∙ ap (with_members (objects added.0)) c.in_ok-keyed_begin.ensures) ends,
    )) c.end.ensures
