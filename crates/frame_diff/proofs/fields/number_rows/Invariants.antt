use Rattle.std.proofs.Common.{◌≡◌, ◌≤◌, ◌*◌, ◌++◌, drop, map}
use Rattle.link_info.specs.Styles.{width}
use Rattle.frame_shown.specs.Values.{counters_shown}
use Rattle.frame_shown.specs.declared.form.Around.{Around}
use Rattle.frame_diff.specs.Rows.{row_shown}
use Rattle.frame_diff.proofs.fields.number_rows.Given as goal

abbrev pub invariant-loop-name : goal.invariant-loop-name
invariant-loop-name l = record {
  near : l.place ≤ 8 * l.name-index;
  made : (cx : Around) → map (row_shown cx) l.rows.items
      ++ counters_shown (map (λ name. name.now) (drop l.name-index l.names)) (width l.size) l.bytes l.place
      ≡ counters_shown (map (λ name. name.now) l.names) (width l.size) l.bytes 0;
}
