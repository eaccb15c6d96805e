use Rattle.std.proofs.Common.{◌≡◌, ◌++◌, map}
use Rattle.frame_shown.specs.Values.{Nesting}
use Rattle.frame_shown.specs.declared.form.Around.{Around}
use Rattle.frame_diff.specs.Members.{slots_shown}
use Rattle.frame_diff.specs.Values.{value_shown}
use Rattle.frame_diff.proofs.Slots.{payloads_left}
use Rattle.frame_diff.proofs.value.payloads.payloads_in.Given as goal

abbrev pub invariant-loop-item : goal.invariant-loop-item
invariant-loop-item l = (nest : Nesting) (cx : Around)
    → map (value_shown nest cx) l.values.items ++ payloads_left l.plain l.item-iterator ≡ slots_shown l.plain l.bytes
