use Rattle.std.proofs.Common.{◌≡◌, ◌∙◌, sym, ap, false, true}
use Rattle.std.proofs.lemmas.Result.{on_ok_weaker}
use Rattle.link_info.specs.Tables.{frames_in}
use Rattle.nla_wire.specs.Items.{items as read}
use Rattle.shown.specs.Drafts.{with_members}
use Rattle.frame_shown.specs.Frames.{items_in, values_by}
use Rattle.frame_shown.specs.Items.{are_any, elements, list_under}
use Rattle.frame_shown.specs.Tables.{is_each, is_listed, row_in}
use Rattle.frame_shown.proofs.Items.{array_shown}
use Rattle.frame_shown.proofs.Arrays.{any_values, no_values, none_under, row_array, values_are}
use Rattle.frame_shown.proofs.list.arrays.show_array.Goals as goal

pub returns-in_default : goal.returns-in_default
returns-in_default g c =
    let nest = g.D.Depth.nest c.args.cx.now in
    let row = c.args.row.now in
    let its = items_in nest c.args.cx.now c.args.list.now (read c.args.bytes.now) in
    let listed : is_listed row.2 ≡ true = cc (c.is_listed.ensures, c.if-not-is_listed.false) in
    let none : is_each (row_in c.args.cx.now c.args.list.now row.0).1 ≡ false =
    rw c.in_default.is at c.list_style.ensures in
    sym (ap (λ ms. with_members ms c.args.page.now) (row_array row its listed
    ∙ ap (list_under row.1.now)
    (no_values nest c.args.cx.now c.args.list.now row.0 none (read c.args.bytes.now))))

pub returns-then-not-comes : goal.returns-then-not-comes
returns-then-not-comes g c =
    let nest = g.D.Depth.nest c.args.cx.now in
    let row = c.args.row.now in
    let its = items_in nest c.args.cx.now c.args.list.now (read c.args.bytes.now) in
    let style = c.in-Some.style.now in
    let listed : is_listed row.2 ≡ true = cc (c.is_listed.ensures, c.if-not-is_listed.false) in
    let values = values_are nest c.args.cx.now c.args.list.now row.0 style c.in-Some.ensures.0 c.in-Some.ensures.1
    (read c.args.bytes.now) in
    let vs = values_by nest style row.0 (frames_in (read c.args.bytes.now)) in
    let none : are_any vs ≡ false =
    any_values nest style row.0 (frames_in (read c.args.bytes.now)) ∙ sym c.comes.ensures ∙ c.if-not-comes.true in
    sym (ap (λ ms. with_members ms c.args.page.now) (row_array row its listed ∙ ap (list_under row.1.now) values
    ∙ none_under row.1.now vs none))

pub returns : goal.returns
returns g c =
    let nest = g.D.Depth.nest c.args.cx.now in
    let row = c.args.row.now in
    let its = items_in nest c.args.cx.now c.args.list.now (read c.args.bytes.now) in
    let style = c.in-Some.style.now in
    let listed : is_listed row.2 ≡ true = cc (c.is_listed.ensures, c.if-not-is_listed.false) in
    let values = values_are nest c.args.cx.now c.args.list.now row.0 style c.in-Some.ensures.0 c.in-Some.ensures.1
    (read c.args.bytes.now) in
    let vs = values_by nest style row.0 (frames_in (read c.args.bytes.now)) in
    let any : are_any vs ≡ true =
    any_values nest style row.0 (frames_in (read c.args.bytes.now)) ∙ sym c.comes.ensures ∙ c.if-not-comes.false in
    on_ok_weaker c.end.result (λ ends. array_shown row.1.now vs c.args.page.now _ _ any
    (c.in_ok-show_values.ensures ∙ ap (with_members (elements vs)) c.in_ok-begin.ensures) ends
    ∙ ap (λ ms. with_members ms c.args.page.now) (sym (row_array row its listed ∙ ap (list_under row.1.now) values)))
    c.end.ensures
