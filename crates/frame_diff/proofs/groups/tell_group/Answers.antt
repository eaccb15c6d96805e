use Rattle.std.proofs.Common.{◌≡◌, ◌∙◌, ap, rules, subst, sym}
use Rattle.std.proofs.lemmas.Result.{on_ok_weaker}
use Rattle.std.specs.Prelude.{option_map}
use Rattle.frame_diff.specs.Forests.{find}
use Rattle.frame_diff.specs.Groups.{all_of, group_held, group_step}
use Rattle.frame_diff.specs.Inside.{above, inside_list}
use Rattle.frame_diff.specs.Items.{joined, step_text}
use Rattle.frame_diff.specs.Walked.{HasNames}
use Rattle.frame_diff.specs.declared.walk.Attributes.{Attributes}
use Rattle.frame_diff.proofs.Grouped.{group_told}
use Rattle.frame_diff.proofs.Walked.{beside_same}
use Rattle.frame_diff.proofs.groups.tell_group.Goals as goal

pub returns : goal.returns
returns g c =
    let nest = g.W.Depth.nest in
    let inner = g.W.Walk.inner in
    let is_state = c.args.pass.is_state in
    let named : c.as_str.result.now ≡ joined c.args.path.now c.args.name.now = search rules in
    on_ok_weaker c.tell_values.result
    (group_told c.args.pass.side c.as_str.result.now
    (joined c.args.path.now (step_text (group_step c.args.own.list)))
    (group_held nest inner is_state c.all_of.result) (group_held nest inner is_state (all_of c.args.own))
    (option_map (group_held nest inner is_state) c.group_beside-there.result)
    (find (group_step c.args.own.list) (inside_list (above nest inner) is_state c.args.beside))
    c.args.page.now c.tell_values.new.page
    (named ∙ ap (joined c.args.path.now) c.requires.name)
    (ap (group_held nest inner is_state) c.all_of.ensures)
    (c.group_beside-there.ensures.held nest inner is_state))
    c.tell_values.ensures

pub tell_values-requires-clause-names : goal.tell_values-requires-clause-names
tell_values-requires-clause-names g c =
    subst HasNames (sym (ap (λ (a : Attributes). a.around.now) c.all_of.ensures)) c.requires.names

pub tell_values-requires-clause-alike : goal.tell_values-requires-clause-alike
tell_values-requires-clause-alike g c h =
    c.group_beside-there.ensures.alike c.all_of.result
    (beside_same c.args.own c.all_of.result c.args.beside
    (ap (λ (a : Attributes). a.around.now) c.all_of.ensures) (c.requires.alike h))
