use Rattle.std.proofs.Common.{◌≡◌, ◌++◌}
use Rattle.std.specs.Prelude.{not}
use Rattle.std.specs.List.{concat, filter}
use Rattle.message_diff.specs.Announced.{is_event, without_event}
use Rattle.message_diff.proofs.announced.without_event.Given as goal

abbrev pub invariant-loop-frame : goal.invariant-loop-frame
invariant-loop-frame l =
    l.kept.items ++ concat (filter (λ f. not (is_event f)) l.frame-iterator) ≡ without_event l.message
