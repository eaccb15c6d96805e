use Rattle.std.proofs.Common.{◌≡◌}
use Rattle.std.specs.Prelude.{option_map}
use Rattle.std.specs.List.{fold}
use Rattle.message_diff.specs.Announced.{payload_of, payload_or}
use Rattle.message_diff.proofs.announced.payload_of.Given as goal

abbrev pub invariant-loop-frame : goal.invariant-loop-frame
invariant-loop-frame l =
    fold (payload_or l.number) (option_map (λ payload. payload.now) l.last) l.frame-iterator
    ≡ payload_of l.number l.fn.frames
