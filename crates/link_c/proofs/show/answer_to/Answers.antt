use Rattle.link_c.proofs.show.answer_to.Goals as goal

pub returns-then-is_lenient : goal.returns-then-is_lenient
returns-then-is_lenient c = rw c.if-is_lenient.true c.answer_by.ensures

pub returns-else-is_lenient : goal.returns-else-is_lenient
returns-else-is_lenient c = rw c.if-is_lenient.false c.answer_by-else-is_lenient.ensures
