use Rattle.std.proofs.Common.{◌≡◌, ◌∙◌, sym, ap, false}
use Rattle.std.proofs.lemmas.Result.{on_ok_weaker}
use Rattle.nla_wire.specs.Items.{items as read}
use Rattle.shown.specs.Drafts.{with_members}
use Rattle.frame_shown.specs.Items.{elements}
use Rattle.frame_shown.specs.Tables.{is_each, row_in}
use Rattle.frame_shown.proofs.Arrays.{no_values, values_are}
use Rattle.frame_shown.proofs.list.arrays.show_each.Goals as goal

pub returns-in-Some : goal.returns-in-Some
returns-in-Some g c =
    let nest = g.D.Depth.nest c.args.cx.now in
    on_ok_weaker c.show_values.result (λ is. is ∙ ap (λ vs. with_members (elements vs) c.args.page.now)
    (sym (values_are nest c.args.cx.now c.args.list.now c.args.number c.in-Some.style.now c.in-Some.ensures.0
    c.in-Some.ensures.1 (read c.args.bytes.now)))) c.show_values.ensures

pub returns-in-None : goal.returns-in-None
returns-in-None g c =
    let nest = g.D.Depth.nest c.args.cx.now in
    let none : is_each (row_in c.args.cx.now c.args.list.now c.args.number).1 ≡ false =
    rw c.in-None.is at c.list_style.ensures in
    sym (ap (λ vs. with_members (elements vs) c.args.page.now)
    (no_values nest c.args.cx.now c.args.list.now c.args.number none (read c.args.bytes.now)))
