use Rattle.link_vf.proofs.Picked.{others_dropped, entries_again, entries_bounded}
use Rattle.link_vf.proofs.laws.law_entries.Goals as goal

pub returns-clause-again : goal.returns-clause-again
returns-clause-again g c = entries_again g.met.E.Entry.laws

pub returns-clause-bounds : goal.returns-clause-bounds
returns-clause-bounds g c = entries_bounded g.met.E.Entry.laws

pub returns-clause-dropped : goal.returns-clause-dropped
returns-clause-dropped g c = others_dropped g.E.Entry.grammar
