use Rattle.std.proofs.Common.{◌≡◌, ◌++◌, false, map, sym, ap, ◌∙◌, refl}
use Rattle.std.specs.Prelude.{codes}
use Rattle.std.specs.List.{flat_map}
use Rattle.std.proofs.lemmas.Result.{on_ok_weaker}
use Rattle.nla_wire.specs.Items.{items as read}
use Rattle.shown.specs.Drafts.{object_of, with_members}
use Rattle.frame_shown.specs.Items.{are_any, arrays, earlier_ones, kept_ones, last_ones, list_under, shown_as}
use Rattle.frame_shown.specs.Frames.{items_in}
use Rattle.frame_shown.specs.Tables.{lists_in}
use Rattle.frame_shown.proofs.Items.{all_shown, both_added}
use Rattle.frame_shown.proofs.Twice.{none_twice}
use Rattle.frame_shown.proofs.list.show_members.Goals as goal

pub returns : goal.returns
returns g c =
    let its = items_in (g.D.Depth.nest c.args.cx.now) c.args.cx.now c.args.list.now (read c.args.bytes.now) in
    let lists = lists_in c.args.cx.now c.args.list.now in
    let repeated = list_under (codes "repeated") (map object_of (earlier_ones its)) in
    let others = list_under (codes "other") (map object_of (kept_ones its)) in
    let none : are_any (earlier_ones its) ≡ false =
    none_twice (g.D.Depth.nest c.args.cx.now) c.args.cx.now c.args.list.now (read c.args.bytes.now)
    (sym c.has_twice.ensures ∙ c.if-has_twice.false) in
    on_ok_weaker c.show_left.result (λ is. both_added (last_ones its ++ arrays lists its ++ repeated) others
    c.args.page.now _ _
    (both_added (flat_map shown_as its) (arrays lists its) c.args.page.now _ _ c.in_ok-left.ensures.shown refl
    ∙ ap (λ ms. with_members ms c.args.page.now) (all_shown lists its none)) is)
    c.show_left.ensures
