use Rattle.std.proofs.Common.{◌∙◌, ap, map, sym}
use Rattle.frame_diff.specs.Labels.{first_labels}
use Rattle.frame_diff.specs.Values.{kept_held, kept_numbers}
use Rattle.frame_diff.proofs.Labelled.{all_labelled, numbers_said}
use Rattle.frame_diff.proofs.kept.kept_in.Goals as goal

pub label_all-requires : goal.label_all-requires
label_all-requires c =
    let first = c.in_ok-values.ensures.0 in
    first ∙ ap first_labels (sym (numbers_said c.in_ok-values.values.items (kept_numbers c.args.is_state c.args.list)
    first))

pub returns : goal.returns
returns c = (
  all_labelled c.in_ok-values.values.items c.label_all.new.values.items (kept_numbers c.args.is_state c.args.list)
      c.in_ok-values.ensures.0 c.in_ok-label_all.ensures.labels,
  ap (map kept_held) c.in_ok-label_all.ensures.values ∙ c.in_ok-values.ensures.1,
)
