use Rattle.link_view.proofs.Picking.{entries_parsed, entries_fault}
use Rattle.link_view.proofs.entries.entries_in.Goals as goal

pub returns-clause-parsed : goal.returns-clause-parsed
returns-clause-parsed g c = entries_parsed g.E.Entry.grammar c.args.list.now c.new.result c.new.ensures.value

pub returns-clause-fault : goal.returns-clause-fault
returns-clause-fault g c = entries_fault g.E.Entry.grammar c.args.list.now c.new.result c.new.ensures.value
