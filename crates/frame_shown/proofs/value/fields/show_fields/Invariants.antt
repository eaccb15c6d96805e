use Rattle.std.proofs.Common.{◌≡◌, drop, map}
use Rattle.shown.specs.Drafts.{with_members}
use Rattle.frame_shown.specs.Values.{fields_shown}
use Rattle.frame_shown.proofs.value.fields.show_fields.Given as goal

abbrev pub invariant-loop-part : goal.invariant-loop-part
invariant-loop-part l =
    with_members (fields_shown l.cx (map (λ part. (part.0.now, (part.1, part.2))) (drop l.part-index l.parts))
    l.bytes) l.page
    ≡ with_members (fields_shown l.cx (map (λ part. (part.0.now, (part.1, part.2))) l.parts) l.bytes) l.fn.page
