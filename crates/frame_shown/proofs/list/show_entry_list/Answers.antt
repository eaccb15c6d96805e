use Rattle.std.proofs.Common.{◌∙◌, ap}
use Rattle.std.proofs.lemmas.Result.{on_ok_weaker}
use Rattle.nla_wire.specs.Items.{items as read}
use Rattle.link_info.specs.Tables.{frames_in}
use Rattle.shown.specs.Drafts.{with_members, with_begun}
use Rattle.shown.specs.declared.page.Nest.TheVariants.{List as Items}
use Rattle.frame_shown.specs.Items.{objects}
use Rattle.frame_shown.specs.Frames.{entries_in}
use Rattle.frame_shown.specs.Tables.{entry_list, group_name}
use Rattle.frame_shown.proofs.Items.{objects_listed}
use Rattle.frame_shown.proofs.list.show_entry_list.Goals as goal

pub returns : goal.returns
returns g c =
    let group = group_name c.args.group in
    let os = entries_in (g.D.Depth.nest c.args.cx.now) c.args.cx.now (entry_list c.args.group) (frames_in (read
    c.args.bytes.now)) in
    on_ok_weaker c.end-2.result (λ ends. objects_listed c.args.name.now group os c.args.page.now _ _ _
    (c.in_ok-show_entries.ensures
    ∙ ap (λ list. with_members (objects (entries_in (g.D.Depth.nest c.args.cx.now) c.args.cx.now list (frames_in
    (read c.args.bytes.now)))) c.begin-2.new.self) c.entry.ensures
    ∙ ap (with_members (objects os))
    (c.in_ok-begin-2.ensures ∙ ap (λ n. with_begun n Items c.begin.new.self) c.name.ensures
    ∙ ap (with_begun group Items) c.in_ok-begin.ensures)) c.in_ok-end.ensures ends)
    c.end-2.ensures
