use Rattle.std.proofs.Common.{[], ◌∙◌, ap, subst, sym}
use Rattle.frame_diff.specs.Forests.{Forest}
use Rattle.frame_diff.specs.Groups.{numbers_at, value_at}
use Rattle.std.specs.Prelude.{Some, map}
use Rattle.std.specs.List.{AllByRecursion}
use Rattle.frame_diff.specs.Keyed.{IsIn}
use Rattle.frame_diff.specs.Labels.{first_labels}
use Rattle.frame_diff.proofs.Labelled.{all_labelled, numbers_said}
use Rattle.frame_diff.proofs.keyed.values_in.Goals as goal

pub label_all-requires : goal.label_all-requires
label_all-requires c =
    let vs = c.in_ok-values.values.items in
    let first = (c.in_ok-values.ensures.1 (λ cx list p. []) (λ is_state cx list p. Forest.none)).0 in
    first ∙ ap first_labels (sym (numbers_said vs _ first))

pub returns : goal.returns
returns c = (
  subst (AllByRecursion (IsIn c.args.list)) (sym c.in_ok-label_all.ensures.values) c.in_ok-values.ensures.0,
  λ nest inner. (
    all_labelled c.in_ok-values.values.items c.label_all.new.values.items
        (numbers_at nest inner c.args.is_state c.args.list) (c.in_ok-values.ensures.1 nest inner).0
        c.in_ok-label_all.ensures.labels,
    ap (map (λ a. Some (value_at nest inner c.args.is_state a))) c.in_ok-label_all.ensures.values
        ∙ (c.in_ok-values.ensures.1 nest inner).1,
  ),
)
