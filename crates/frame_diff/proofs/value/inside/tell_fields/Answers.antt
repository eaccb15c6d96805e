use Rattle.std.proofs.Common.{◌∙◌, ap, map, sym}
use Rattle.std.proofs.lemmas.Result.{on_ok_weaker}
use Rattle.std.specs.Prelude.{option_map}
use Rattle.frame_diff.specs.Differences.{inside_in}
use Rattle.frame_diff.specs.Forests.{field_step, find}
use Rattle.frame_diff.specs.Items.{items_told}
use Rattle.frame_diff.specs.Members.{fields}
use Rattle.frame_diff.specs.Rows.{row_shown}
use Rattle.frame_diff.specs.Walked.{held_at}
use Rattle.frame_diff.proofs.Inside.{fields_beside, same_written}
use Rattle.frame_diff.proofs.value.inside.tell_fields.Goals as goal

pub returns : goal.returns
returns g c =
    let nest = g.W.Depth.nest in
    let inner = g.W.Walk.inner in
    let held = held_at nest inner c.args.pass.is_state in
    let theirs = c.in-Some.other.around.now in
    let side = c.args.pass.side in
    let text = c.args.path.now in
    let own = map (row_shown c.args.own.around.now) c.args.rows.now in
    let others = fields (map (row_shown theirs) c.deref.result.now) in
    let there = inside_in (option_map held c.args.beside) in
    on_ok_weaker c.tell_rows-2.result (same_written (items_told side text (fields own) others)
    (items_told side text (fields own) there) c.args.page.now c.tell_rows-2.new.page
    (fields_beside side text own others there
    (λ name. ap (λ rows. find (field_step name) (fields (map (row_shown theirs) rows))) c.deref.ensures.value
    ∙ c.in_ok-there.ensures nest inner c.laws.ensures.fieldless name
    ∙ ap (λ b. find (field_step name) (inside_in (option_map held b))) (sym c.in-Some.is))))
    c.tell_rows-2.ensures
