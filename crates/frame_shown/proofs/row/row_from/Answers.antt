use Rattle.std.proofs.Common.{◌≡◌, ◌+◌, ◌-◌, ◌∙◌, ap, arith, map, sym}
use Rattle.frame_shown.specs.Tables.{row_by}
use Rattle.frame_shown.proofs.Placed.{none_behind, none_below, row_there}
use Rattle.frame_shown.proofs.row.row_from.Goals as goal

pub returns-then-number-first : goal.returns-then-number-first
returns-then-number-first c =
    c.no_row.ensures
    ∙ sym (none_below (λ row. (row.0, (row.1.now, row.2))) c.args.first c.args.rows.now c.args.number c.requires
    c.if-number-first.true)

pub returns-then-place-rows : goal.returns-then-place-rows
returns-then-place-rows c =
    let is : c.args.first + (c.args.number - c.args.first) ≡ c.args.number = omega (arith, c.if-number-first.false) in
    sym (row_there (λ row. (row.0, (row.1.now, row.2))) c.args.first c.args.rows.now (c.args.number - c.args.first) _
    c.requires c.if-place-rows.true)
    ∙ ap (row_by (map (λ row. (row.0, (row.1.now, row.2))) c.args.rows.now)) is

pub returns : goal.returns
returns c =
    c.no_row-2.ensures
    ∙ sym (none_behind (λ row. (row.0, (row.1.now, row.2))) c.args.first c.args.rows.now c.args.number c.requires
    (omega (arith, c.if-number-first.false, c.if-place-rows.false)))
