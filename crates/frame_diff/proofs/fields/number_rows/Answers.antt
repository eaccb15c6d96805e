use Rattle.std.proofs.Common.{◌≤◌, ◌<◌, ◌+◌, ap, arith, drop, length, map, rules}
use Rattle.std.proofs.lemmas.List.{drop_all}
use Rattle.link_info.specs.Styles.{width}
use Rattle.frame_shown.specs.Values.{counters_shown}
use Rattle.frame_diff.specs.Rows.{row_shown}
use Rattle.frame_diff.proofs.FieldsTold.{number_left, row_next, rows_over, size_small}
use Rattle.frame_diff.proofs.fields.number_rows.Goals as goal

pub loop-name-preserved : goal.loop-name-preserved
loop-name-preserved c =
    let i = c.loop-name.name-index in
    let names = c.args.names.now in
    let size = c.args.size in
    let bytes = c.args.bytes.now in
    let place = c.loop-name.place in
    let next = c.bytes-place.result in
    let within : i < length names = search rules in
    record {
      near = omega (arith, c.loop-name.invariant.near, size_small size, c.bytes-place.ensures);
      made = λ cx. row_next cx c.loop-name.rows.items c.push.new.self.items _
          (counters_shown (map (λ name. name.now) (drop i names)) (width size) bytes place)
          (counters_shown (map (λ name. name.now) (drop (i + 1) names)) (width size) bytes (place + next))
          (counters_shown (map (λ name. name.now) names) (width size) bytes 0) c.in_ok-push.ensures.items
          (number_left size names i _ bytes place next c.number_at.result cx within c.number_at.ensures
          c.bytes-place.ensures)
          (c.loop-name.invariant.made cx);
    }

pub returns : goal.returns
returns c cx =
    let names = c.args.names.now in
    let past : length names ≤ c.loop-name.name-index = search rules in
    rows_over (map (row_shown cx) c.loop-name.rows.items)
    (counters_shown (map (λ name. name.now) (drop c.loop-name.name-index names)) (width c.args.size) c.args.bytes.now
    c.loop-name.place)
    (counters_shown (map (λ name. name.now) names) (width c.args.size) c.args.bytes.now 0)
    (ap (λ ns. counters_shown (map (λ name. name.now) ns) (width c.args.size) c.args.bytes.now c.loop-name.place)
    (drop_all c.loop-name.name-index names past))
    (c.loop-name.invariant.made cx)
