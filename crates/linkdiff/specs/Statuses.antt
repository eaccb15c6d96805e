-- The exit status of files that are compared, as diff(1) has it.
use Rattle.std.specs.Prelude.{ℕ}
use Rattle.message_diff.specs.declared.files.Outcome.{Outcome}
use Rattle.message_diff.specs.declared.files.Outcome.TheVariants as Outcomes

abbrev pub status_of : Outcome → ℕ
status_of Outcomes.Same = 0
status_of Outcomes.Differ = 1
status_of Outcomes.Trouble = 2
