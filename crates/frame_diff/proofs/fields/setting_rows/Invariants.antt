use Rattle.std.proofs.Common.{◌≡◌, ◌≤◌, ◌*◌, ◌++◌, drop, map}
use Rattle.frame_shown.specs.Values.{settings_shown}
use Rattle.frame_shown.specs.declared.form.Around.{Around}
use Rattle.frame_diff.specs.Counters.{fields_left}
use Rattle.frame_diff.specs.Rows.{clearing, row_shown}
use Rattle.frame_diff.proofs.fields.setting_rows.Given as goal

abbrev pub invariant-loop-name : goal.invariant-loop-name
invariant-loop-name l =
    let left = map (λ name. name.now) (drop l.name-index l.names) in
    let names = map (λ name. name.now) l.names in
    record {
      near : l.place ≤ 4 * l.name-index;
      made : (cx : Around) → map (row_shown cx) l.rows.items
          ++ fields_left (clearing l.part) l.place (map (λ name. 4) left) (settings_shown left l.bytes l.place)
          ≡ fields_left (clearing l.part) 0 (map (λ name. 4) names) (settings_shown names l.bytes 0);
    }
