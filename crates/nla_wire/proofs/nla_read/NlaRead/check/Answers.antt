use Rattle.nla_wire.proofs.Loop.{checks_found, checks_fault, checks_refused}
use Rattle.nla_wire.proofs.Checked.{checks_memory}
use Rattle.nla_wire.proofs.nla_read.NlaRead.check.Goals as goal

pub returns-clause-found : goal.returns-clause-found
returns-clause-found g c = checks_found g.Self.NlaRead.grammar g.met.Self.NlaRead.agrees c.args.buffer.now
    c.is_frame.ensures c.check_one.result c.check_one.ensures

pub returns-clause-fault : goal.returns-clause-fault
returns-clause-fault g c = checks_fault g.Self.NlaRead.grammar g.met.Self.NlaRead.agrees c.args.buffer.now
    c.is_frame.ensures c.check_one.result c.check_one.ensures

pub returns-clause-refused : goal.returns-clause-refused
returns-clause-refused g c = checks_refused g.Self.NlaRead.grammar g.met.Self.NlaRead.agrees c.args.buffer.now
    c.is_frame.ensures c.check_one.result c.check_one.ensures

pub returns-clause-memory : goal.returns-clause-memory
returns-clause-memory g c = checks_memory g.Self.NlaRead.grammar g.met.Self.NlaRead.agrees c.args.buffer.now
    c.is_frame.ensures g.met.Self.NlaRead.no_memory c.check_one.result c.check_one.ensures
