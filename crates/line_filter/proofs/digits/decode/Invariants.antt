use Rattle.std.proofs.Common.{◌≡◌, ◌*◌, ◌-◌, ◌≤◌, take, drop, length}
use Rattle.hex.specs.Hex.{decode_pairs}
use Rattle.hex.proofs.Pairs.{prepend}
use Rattle.line_filter.proofs.digits.decode.Given as goal

abbrev pub invariant-loop-bytes : goal.invariant-loop-bytes
invariant-loop-bytes l = record {
  within : l.done ≤ length l.bytes;
  read : decode_pairs 0 l.digits
      ≡ prepend (take l.done l.bytes) (decode_pairs (2 * l.done) (drop (2 * l.done) l.digits));
}

abbrev pub decreases-loop-bytes : goal.decreases-loop-bytes
decreases-loop-bytes l = length l.bytes - l.done

abbrev pub invariant-loop-i : goal.invariant-loop-i
invariant-loop-i l =
    decode_pairs 0 l.digits ≡ prepend (take l.i l.bytes) (decode_pairs (2 * l.i) (drop (2 * l.i) l.digits))
