use Rattle.std.proofs.Common.{[], ◌∷◌, ◌∙◌, ap, map}
use Rattle.std.specs.Prelude.{codes}
use Rattle.std.specs.List.{flat_map}
use Rattle.std.proofs.lemmas.Result.{on_ok_weaker}
use Rattle.nla_wire.specs.Items.{items as read}
use Rattle.shown.specs.Drafts.{with_value, object_of, list_of}
use Rattle.shown.proofs.Drafts.{object_ended}
use Rattle.frame_shown.specs.Items.{kept_ones, list_under, listed_under, named_ones, values_of}
use Rattle.frame_shown.specs.Frames.{items_in}
use Rattle.frame_shown.specs.Tables.{group_name}
use Rattle.frame_shown.proofs.Items.{both_added}
use Rattle.frame_shown.proofs.list.show_listed.Goals as goal

pub returns : goal.returns
returns g c =
    let its = items_in (g.D.Depth.nest c.args.cx.now) c.args.cx.now c.args.list.now (read c.args.bytes.now) in
    let group = group_name c.args.group in
    let value = list_of (flat_map values_of (named_ones its)) in
    let others = list_under (codes "other") (map object_of (kept_ones its)) in
    on_ok_weaker c.end.result (λ ends. object_ended c.args.name.now (listed_under group its) c.args.page.now _ _
    (both_added ((group, value) ∷ []) others _ _ _
    (c.in_ok-is_any_kept.ensures.shown ∙ ap (λ n. with_value n value c.begin.new.self) c.name.ensures
    ∙ ap (with_value group value) c.in_ok-begin.ensures) c.in_ok-show_others.ensures) ends) c.end.ensures
