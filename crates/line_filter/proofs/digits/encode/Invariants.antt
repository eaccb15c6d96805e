use Rattle.std.proofs.Common.{◌≡◌, ◌*◌, ◌-◌, ◌≤◌, ◌++◌, take, drop, length}
use Rattle.hex.specs.Hex.{encode_with, lower_digits}
use Rattle.line_filter.proofs.digits.encode.Given as goal

abbrev pub invariant-loop-done : goal.invariant-loop-done
invariant-loop-done l = record {
  within : l.done ≤ length l.bytes;
  spelled : take (2 * l.done) l.digits ++ encode_with lower_digits (drop l.done l.bytes)
      ≡ encode_with lower_digits l.bytes;
}

abbrev pub decreases-loop-done : goal.decreases-loop-done
decreases-loop-done l = length l.bytes - l.done

abbrev pub invariant-loop-place : goal.invariant-loop-place
invariant-loop-place l =
    take (2 * l.place) l.digits ++ encode_with lower_digits (drop l.place l.bytes)
    ≡ encode_with lower_digits l.bytes
