use Rattle.std.proofs.Common.{[], ap, inl, inr, map, sym, ◌∙◌, ◌≡◌}
use Rattle.std.proofs.lemmas.Result.{on_ok_weaker}
use Rattle.shown.specs.Drafts.{with_members}
use Rattle.frame_shown.specs.Items.{objects}
use Rattle.frame_diff.specs.Items.{items_told}
use Rattle.frame_diff.specs.Members.{fields}
use Rattle.frame_diff.specs.Rows.{row_shown, rows_beside}
use Rattle.frame_diff.specs.declared.side.Side.{Side}
use Rattle.frame_diff.proofs.Alike.{none_moved, none_new, rows_told}
use Rattle.frame_diff.proofs.Inside.{same_written}
use Rattle.frame_diff.proofs.rows.tell_same_names.Goals as goal

pub returns-in-Old : goal.returns-in-Old
returns-in-Old c =
    let cx = c.args.cx.now in
    let theirs = c.args.theirs.now in
    let own = fields (map (row_shown cx) c.args.own.now) in
    let others = fields (map (row_shown theirs) c.args.others.now) in
    on_ok_weaker c.tell_firsts.result (same_written
    (rows_beside cx theirs c.args.path.now c.args.own.now c.args.others.now)
    (items_told c.args.side c.args.path.now own others) c.args.page.now c.tell_firsts.new.page
    (rows_told cx theirs c.args.path.now c.args.own.now c.args.others.now [] c.requires
    ∙ ap (λ (s : Side). items_told s c.args.path.now own others) (sym c.in-Old.is))) c.tell_firsts.ensures

pub returns-in-New : goal.returns-in-New
returns-in-New c =
    let cx = c.args.cx.now in
    let theirs = c.args.theirs.now in
    let text = c.args.path.now in
    let rows = c.args.own.now in
    let there = c.args.others.now in
    let own = fields (map (row_shown cx) rows) in
    let others = fields (map (row_shown theirs) there) in
    let none : items_told c.args.side text own others ≡ [] = elim c.in-New.is [
      | inl is ↦ ap (λ (s : Side). items_told s text own others) is
          ∙ none_new cx theirs text rows there [] c.requires
      | inr is ↦ ap (λ (s : Side). items_told s text own others) is
          ∙ none_moved cx theirs text rows there [] c.requires
    ] in
    sym (ap (λ os. with_members (objects os) c.args.page.now) none)
