use Rattle.std.proofs.Common.{◌≡◌, ◌+◌, take}
use Rattle.std.specs.List.{sum_by}
use Rattle.link_info.specs.Styles.{plain_size}
use Rattle.link_info.proofs.read.has_size.Given as goal

abbrev pub invariant-loop-plain : goal.invariant-loop-plain
invariant-loop-plain l = l.left + sum_by (λ m. plain_size m.1) (take l.plain-index l.members) ≡ l.len
