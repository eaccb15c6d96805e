use Rattle.std.proofs.Common.{ℕ, ap, map, sym, ◌∙◌}
use Rattle.std.specs.Prelude.{Option, Some}
use Rattle.frame_diff.specs.Groups.{picked_by}
use Rattle.frame_diff.specs.Keys.{number_in}
use Rattle.frame_diff.specs.Walked.{reading_at}
use Rattle.frame_diff.proofs.picked.pick.Goals as goal

pub returns-in-Some-clause-numbers : goal.returns-in-Some-clause-numbers
returns-in-Some-clause-numbers c nest inner key =
    let list = c.args.list in
    let f = c.args.frame.now in
    c.value_of.ensures.numbers nest inner key
    ∙ ap (λ (n : Option ℕ). map (λ h. number_in list.around.now (Some key) list.list f)
    (picked_by (reading_at nest inner c.args.is_state list.around.now) n list.list f)) (sym c.in-Some.is)

pub returns-in-None-clause-numbers : goal.returns-in-None-clause-numbers
returns-in-None-clause-numbers c nest inner key =
    let list = c.args.list in
    let f = c.args.frame.now in
    c.pick_any.ensures.numbers nest inner key
    ∙ ap (λ (n : Option ℕ). map (λ h. number_in list.around.now (Some key) list.list f)
    (picked_by (reading_at nest inner c.args.is_state list.around.now) n list.list f)) (sym c.in-None.is)
