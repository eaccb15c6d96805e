use Rattle.std.proofs.Common.{◌≡◌, false, ◌∙◌, ap, map, sym}
use Rattle.std.specs.Prelude.{codes}
use Rattle.std.specs.List.{list_any}
use Rattle.nla_wire.specs.Items.{items as read}
use Rattle.shown.specs.Drafts.{object_of, with_members}
use Rattle.frame_shown.specs.Items.{are_any, arrays, is_value, kept_ones, list_under}
use Rattle.frame_shown.specs.Frames.{items_in}
use Rattle.frame_shown.specs.Lists.{left_kept, left_value}
use Rattle.frame_shown.specs.Tables.{lists_in}
use Rattle.frame_shown.proofs.Items.{no_arrays, none_under}
use Rattle.frame_shown.proofs.list.left.show_left.Goals as goal

pub returns-in-Nothing : goal.returns-in-Nothing
returns-in-Nothing g c =
    let its = items_in (g.D.Depth.nest c.args.cx.now) c.args.cx.now c.args.list.now (read c.args.bytes.now) in
    let lists = lists_in c.args.cx.now c.args.list.now in
    let no_values : list_any is_value its ≡ false = sym c.requires.value ∙ ap left_value c.in-Nothing.is in
    let none_kept : are_any (kept_ones its) ≡ false = sym c.requires.kept ∙ ap left_kept c.in-Nothing.is in
    sym (ap (λ ms. with_members ms (with_members (arrays lists its) c.args.page.now))
    (none_under (codes "other") (kept_ones its) none_kept)
    ∙ ap (λ ms. with_members ms c.args.page.now) (no_arrays lists its no_values))
