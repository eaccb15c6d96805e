use Rattle.std.proofs.Common.{◌∙◌, Some, ap, sym}
use Rattle.std.specs.Prelude.{option_map}
use Rattle.nla_wire.specs.Items.{items}
use Rattle.link_info.specs.Tables.{frames_in}
use Rattle.frame_shown.specs.Tables.{lists_of}
use Rattle.frame_diff.specs.Forests.{Step, find, forest}
use Rattle.frame_diff.specs.Groups.{group_by, group_held}
use Rattle.frame_diff.specs.Members.{arrays_of, inside_with, is_own_key, values_with}
use Rattle.frame_diff.specs.Walked.{reading_at}
use Rattle.frame_diff.proofs.ArraysTold.{array_found}
use Rattle.frame_diff.proofs.arrays.array_beside.Goals as goal

pub returns-then-not-has_data-clause-held : goal.returns-then-not-has_data-clause-held
returns-then-not-has_data-clause-held c nest inner is_state =
    let others = c.args.others in
    let r = reading_at nest inner is_state others.around.now in
    let fs = frames_in (items others.bytes.now) in
    sym (ap (λ lists. find (Step.array c.args.name.now) (forest (arrays_of r others.list lists fs)))
    (c.has_data.ensures.none c.if-not-has_data.true others.around.now))

pub returns-in-Some-clause-held : goal.returns-in-Some-clause-held
returns-in-Some-clause-held c nest inner is_state =
    let others = c.args.others in
    let r = reading_at nest inner is_state others.around.now in
    let fs = frames_in (items others.bytes.now) in
    let name = c.args.name.now in
    ap (λ a. Some (group_held nest inner is_state a)) c.of_number.ensures
    ∙ ap (option_map (λ n. group_by (is_own_key (Some n) others.list) (values_with r others.list n fs)
    (inside_with r others.list n fs)))
    (sym c.in-Some.is ∙ c.find_array.ensures)
    ∙ sym (array_found r others.list fs name c.data_rows-rows.result.now)
    ∙ ap (λ rows. find (Step.array name) (forest (arrays_of r others.list (lists_of rows) fs))) c.data_rows-rows.ensures

pub returns-in-None-clause-held : goal.returns-in-None-clause-held
returns-in-None-clause-held c nest inner is_state =
    let others = c.args.others in
    let r = reading_at nest inner is_state others.around.now in
    let fs = frames_in (items others.bytes.now) in
    let name = c.args.name.now in
    ap (option_map (λ n. group_by (is_own_key (Some n) others.list) (values_with r others.list n fs)
    (inside_with r others.list n fs)))
    (sym c.in-None.is ∙ c.find_array.ensures)
    ∙ sym (array_found r others.list fs name c.data_rows-rows.result.now)
    ∙ ap (λ rows. find (Step.array name) (forest (arrays_of r others.list (lists_of rows) fs))) c.data_rows-rows.ensures
