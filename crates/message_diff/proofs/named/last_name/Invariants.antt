use Rattle.std.proofs.Common.{◌≡◌}
use Rattle.std.specs.List.{fold}
use Rattle.message_diff.specs.Named.{name_after, name_in}
use Rattle.message_diff.proofs.named.last_name.Given as goal

abbrev pub invariant-loop-item : goal.invariant-loop-item
invariant-loop-item l = fold (name_after l.family) l.last l.item-iterator ≡ name_in l.family l.bytes
