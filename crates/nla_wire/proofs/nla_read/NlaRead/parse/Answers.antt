use Rattle.nla_wire.proofs.Loop.{gives_found, gives_fault, gives_refused}
use Rattle.nla_wire.proofs.nla_read.NlaRead.parse.Goals as goal

pub returns-clause-found : goal.returns-clause-found
returns-clause-found g c = gives_found g.Self.NlaRead.grammar g.met.Self.NlaRead.agrees c.args.buffer.now
    c.is_frame.ensures c.parse_named.result c.parse_named.ensures

pub returns-clause-fault : goal.returns-clause-fault
returns-clause-fault g c = gives_fault g.Self.NlaRead.grammar g.met.Self.NlaRead.agrees c.args.buffer.now
    c.is_frame.ensures c.parse_named.result c.parse_named.ensures

pub returns-clause-refused : goal.returns-clause-refused
returns-clause-refused g c = gives_refused g.Self.NlaRead.grammar g.met.Self.NlaRead.agrees c.args.buffer.now
    c.is_frame.ensures c.parse_named.result c.parse_named.ensures
