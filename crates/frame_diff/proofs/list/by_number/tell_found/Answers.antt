use Rattle.std.proofs.Common.{ap, sym, ◌∙◌}
use Rattle.frame_diff.specs.Walked.{is_there}
use Rattle.frame_diff.proofs.There.{there_page}
use Rattle.frame_diff.proofs.list.by_number.tell_found.Goals as goal

pub returns-then-is_there : goal.returns-then-is_there
returns-then-is_there g c =
    there_page g.W.Depth.nest g.W.Walk.inner c.args.pass.is_state c.args.pass.side c.args.path.now c.args.behind
    c.args.others c.requires.rows c.args.frame.now c.laws.ensures.apart c.args.beside.now c.args.page.now
    c.requires.once c.requires.found
    (ap (λ p. is_there p c.args.beside.now) (sym c.value.ensures.value) ∙ sym c.is_there.ensures ∙ c.if-is_there.true)
