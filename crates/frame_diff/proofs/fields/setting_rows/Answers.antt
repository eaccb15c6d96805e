use Rattle.std.proofs.Common.{◌≤◌, ◌<◌, ◌+◌, ap, arith, drop, length, map, rules}
use Rattle.std.proofs.lemmas.List.{drop_all}
use Rattle.frame_shown.specs.Values.{settings_shown}
use Rattle.frame_diff.specs.Counters.{fields_left}
use Rattle.frame_diff.specs.Rows.{clearing, row_shown}
use Rattle.frame_diff.proofs.FieldsTold.{rows_over, setting_left, some_next}
use Rattle.frame_diff.proofs.fields.setting_rows.Goals as goal

pub loop-name-preserved : goal.loop-name-preserved
loop-name-preserved c =
    let i = c.loop-name.name-index in
    let names = c.args.names.now in
    let bytes = c.args.bytes.now in
    let place = c.loop-name.place in
    let action = clearing c.args.part in
    let within : i < length names = search rules in
    record {
      near = omega (arith, c.loop-name.invariant.near);
      made = λ cx. some_next (map (row_shown cx) c.loop-name.rows.items)
          (map (row_shown cx) c.push_left.new.rows.items) _
          (fields_left action place (map (λ name. 4) (map (λ name. name.now) (drop i names)))
          (settings_shown (map (λ name. name.now) (drop i names)) bytes place))
          (fields_left action (place + 4) (map (λ name. 4) (map (λ name. name.now) (drop (i + 1) names)))
          (settings_shown (map (λ name. name.now) (drop (i + 1) names)) bytes (place + 4)))
          (fields_left action 0 (map (λ name. 4) (map (λ name. name.now) names))
          (settings_shown (map (λ name. name.now) names) bytes 0)) (c.in_ok-push_left.ensures cx)
          (setting_left action names i _ bytes place _ cx within (search rules))
          (c.loop-name.invariant.made cx);
    }

pub returns : goal.returns
returns c cx =
    let names = c.args.names.now in
    let action = clearing c.args.part in
    let past : length names ≤ c.loop-name.name-index = search rules in
    rows_over (map (row_shown cx) c.loop-name.rows.items)
    (fields_left action c.loop-name.place (map (λ name. 4) (map (λ name. name.now) (drop c.loop-name.name-index names)))
    (settings_shown (map (λ name. name.now) (drop c.loop-name.name-index names)) c.args.bytes.now c.loop-name.place))
    (fields_left action 0 (map (λ name. 4) (map (λ name. name.now) names))
    (settings_shown (map (λ name. name.now) names) c.args.bytes.now 0))
    (ap (λ ns. fields_left action c.loop-name.place (map (λ name. 4) (map (λ name. name.now) ns))
    (settings_shown (map (λ name. name.now) ns) c.args.bytes.now c.loop-name.place))
    (drop_all c.loop-name.name-index names past))
    (c.loop-name.invariant.made cx)
