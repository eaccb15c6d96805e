use Rattle.std.proofs.Common.{◌≡◌, sym, ap, false}
use Rattle.std.specs.List.{list_any}
use Rattle.nla_wire.specs.Items.{items as read}
use Rattle.shown.specs.Drafts.{with_members}
use Rattle.frame_shown.specs.Frames.{items_in}
use Rattle.frame_shown.specs.Items.{is_value}
use Rattle.frame_shown.specs.Tables.{lists_in}
use Rattle.frame_shown.proofs.Items.{no_arrays}
use Rattle.frame_shown.proofs.list.arrays.show_lists.Goals as goal

pub returns-then-not-is_any_value : goal.returns-then-not-is_any_value
returns-then-not-is_any_value g c =
    let its = items_in (g.D.Depth.nest c.args.cx.now) c.args.cx.now c.args.list.now (read c.args.bytes.now) in
    let none : list_any is_value its ≡ false = cc (c.requires, c.if-not-is_any_value.true) in
    sym (ap (λ ms. with_members ms c.args.page.now) (no_arrays (lists_in c.args.cx.now c.args.list.now) its none))
