use Rattle.std.proofs.Common.{◌≡◌, ◌++◌}
use Rattle.std.specs.List.{filter}
use Rattle.std.specs.Map.{keys_of}
use Rattle.message_diff.specs.Held.{is_left, left_in}
use Rattle.message_diff.proofs.store.Host.add_missed.Given as goal

abbrev pub invariant-loop-key : goal.invariant-loop-key
invariant-loop-key l =
    l.missed.items ++ keys_of (filter (is_left l.self.known.entries l.family l.begin) l.key-iterator)
    ≡ l.initial.missed.items ++ keys_of (left_in l.self l.within l.family l.begin)
