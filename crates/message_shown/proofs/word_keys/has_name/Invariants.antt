use Rattle.std.proofs.Common.{◌≡◌, drop}
use Rattle.std.specs.Prelude.{◌==◌}
use Rattle.std.specs.List.{list_any}
use lib.Pointwise.{pointwise}
use Rattle.message_shown.proofs.word_keys.has_name.Given as goal

abbrev pub invariant-loop-name : goal.invariant-loop-name
invariant-loop-name l = list_any (λ name. pointwise ◌==◌ name.now l.key) (drop l.name-index l.names)
    ≡ list_any (λ name. pointwise ◌==◌ name.now l.key) l.names
