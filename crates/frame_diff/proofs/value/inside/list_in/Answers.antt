use Rattle.std.proofs.Common.{◌∙◌, ap, sym}
use Rattle.frame_diff.specs.Forests.{find}
use Rattle.frame_diff.proofs.value.inside.list_in.Goals as goal

pub returns-clause-held : goal.returns-clause-held
returns-clause-held c nest inner s other =
    let cx = c.args.other.around.now in
    c.list_of.ensures.held inner c.args.is_state s other
    ∙ ap (find s) (sym (c.in_ok-held.ensures (inner c.args.is_state cx)))
