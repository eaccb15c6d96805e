use Rattle.std.proofs.Common.{◌≡◌, ◌++◌, drop, map}
use Rattle.frame_shown.specs.Values.{fields_shown}
use Rattle.frame_shown.specs.declared.form.Around.{Around}
use Rattle.frame_diff.specs.Rows.{row_shown}
use Rattle.frame_diff.proofs.fields.part_rows.Given as goal

abbrev pub invariant-loop-part : goal.invariant-loop-part
invariant-loop-part l = (cx : Around) → map (row_shown cx) l.rows.items
    ++ fields_shown cx (map (λ part. (part.0.now, (part.1, part.2))) (drop l.part-index l.parts)) l.bytes
    ≡ fields_shown cx (map (λ part. (part.0.now, (part.1, part.2))) l.parts) l.bytes
