use Rattle.std.proofs.Common.{◌∙◌, ap, map, sym}
use Rattle.frame_diff.specs.Forests.{field_step, find}
use Rattle.frame_diff.specs.Members.{named}
use Rattle.frame_diff.specs.Rows.{inside_by, row_shown}
use Rattle.frame_diff.proofs.Inside.{find_left}
use Rattle.frame_diff.proofs.value.inside.rows_in.Goals as goal

pub returns-in-Fields : goal.returns-in-Fields
returns-in-Fields c nest inner fieldless name =
    let cx = c.args.other.around.now in
    let own = inner c.args.is_state cx in
    let s = field_step name in
    sym (find_left s c.in-Fields.field-1 (named (map (row_shown cx) c.in-Fields.rows.items)))
    ∙ ap (λ held. find s (inside_by own cx held)) (sym c.in-Fields.is)
    ∙ ap (find s) (sym (c.in_ok-rows.ensures own))
