use Rattle.link_msg.specs.Told.{told_all}
use Rattle.message_shown.proofs.Leniently.{Telling}
use Rattle.message_shown.proofs.lenient.show_refusals.Given as goal

abbrev pub invariant-loop-refusal : goal.invariant-loop-refusal
invariant-loop-refusal l = Telling (told_all l.bytes) l.refusal-iterator l.fn.page l.page
