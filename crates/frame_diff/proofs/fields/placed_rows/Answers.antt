use Rattle.std.proofs.Common.{◌≤◌, ◌<◌, ◌∙◌, ◌+◌, ◌*◌, ap, drop, length, map, rules}
use Rattle.std.proofs.lemmas.List.{drop_all}
use Rattle.frame_shown.specs.Values.{placed_shown}
use Rattle.frame_diff.specs.Rows.{row_shown}
use Rattle.nla_wire.specs.Fields.{number_at}
use Rattle.std.specs.Int.{w64}
use Rattle.frame_diff.proofs.FieldsTold.{placed_left, row_next, rows_over}
use Rattle.frame_diff.proofs.fields.placed_rows.Goals as goal

pub loop-row-preserved : goal.loop-row-preserved
loop-row-preserved c cx =
    let i = c.loop-row.row-index in
    let names = c.args.names.now in
    let bytes = c.args.bytes.now in
    let within : i < length names = search rules in
    row_next cx c.loop-row.rows.items c.push.new.self.items _
    (placed_shown c.args.is_since (map (λ row. (row.0.now, (row.1, row.2))) (drop i names)) bytes)
    (placed_shown c.args.is_since (map (λ row. (row.0.now, (row.1, row.2))) (drop (i + 1) names)) bytes)
    (placed_shown c.args.is_since (map (λ row. (row.0.now, (row.1, row.2))) names) bytes) c.in_ok-push.ensures.items
    (placed_left (λ row. row.0) (λ row. row.1) (λ row. row.2) c.args.is_since names i _ bytes c.u64_at.result cx within
    (c.u64_at.ensures ∙ ap (λ n. number_at w64 bytes (8 * n)) c.counter_place-place.ensures.place))
    (c.loop-row.invariant cx)

pub returns : goal.returns
returns c cx =
    let names = c.args.names.now in
    let past : length names ≤ c.loop-row.row-index = search rules in
    rows_over (map (row_shown cx) c.loop-row.rows.items)
    (placed_shown c.args.is_since (map (λ row. (row.0.now, (row.1, row.2))) (drop c.loop-row.row-index names))
    c.args.bytes.now)
    (placed_shown c.args.is_since (map (λ row. (row.0.now, (row.1, row.2))) names) c.args.bytes.now)
    (ap (λ ns. placed_shown c.args.is_since (map (λ row. (row.0.now, (row.1, row.2))) ns) c.args.bytes.now)
    (drop_all c.loop-row.row-index names past))
    (c.loop-row.invariant cx)
