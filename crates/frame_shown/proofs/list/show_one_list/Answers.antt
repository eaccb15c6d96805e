use Rattle.std.proofs.Common.{◌∙◌, ap}
use Rattle.std.specs.List.{flat_map}
use Rattle.nla_wire.specs.Items.{items as read}
use Rattle.shown.specs.Drafts.{with_members}
use Rattle.frame_shown.specs.Items.{shown_as}
use Rattle.frame_shown.specs.Frames.{items_in}
use Rattle.frame_shown.proofs.Items.{named_shown}
use Rattle.frame_shown.proofs.list.show_one_list.Goals as goal

pub returns : goal.returns
returns g c =
    let its = items_in (g.D.Depth.nest c.args.cx.now) c.args.cx.now c.args.list.now (read c.args.bytes.now) in
    record {
      shown = named_shown c.args.name.now its c.args.page.now _ _
          (c.in_ok-left.ensures.shown ∙ ap (with_members (flat_map shown_as its)) c.in_ok-begin.ensures)
          c.in_ok-end.ensures;
      kept = c.is_any_kept.ensures ∙ c.in_ok-left.ensures.kept;
    }
