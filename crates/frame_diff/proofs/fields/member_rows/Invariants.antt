use Rattle.std.proofs.Common.{◌≡◌, ◌+◌, ◌++◌, drop, length, map}
use Rattle.link_info.specs.Styles.{plain_size, record_size}
use Rattle.frame_shown.specs.Values.{record_shown}
use Rattle.frame_shown.specs.declared.form.Around.{Around}
use Rattle.frame_diff.specs.Counters.{fields_left}
use Rattle.frame_diff.specs.Rows.{clearing, row_shown}
use Rattle.frame_diff.proofs.fields.member_rows.Given as goal

abbrev pub invariant-loop-name : goal.invariant-loop-name
invariant-loop-name l =
    let left = drop l.name-index l.members in
    record {
      near : l.place + record_size left ≡ length l.bytes;
      made : (cx : Around) → map (row_shown cx) l.rows.items
          ++ fields_left (clearing l.part) l.place (map (λ m. plain_size m.1) left) (record_shown left l.rest)
          ≡ fields_left (clearing l.part) 0 (map (λ m. plain_size m.1) l.members) (record_shown l.members l.bytes);
    }
