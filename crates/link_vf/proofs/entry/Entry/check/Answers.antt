use Rattle.std.proofs.Common.{◌∙◌, ap, sym, arith, Err}
use Rattle.nla_wire.proofs.Front.{all_bytes}
use Rattle.nla_wire.proofs.Loop.{checks_found, checks_refused}
use Rattle.link_vf.specs.Entries.{entry}
use Rattle.link_vf.proofs.Entries.{entry_agrees, entry_empty, entry_checked}
use Rattle.link_vf.proofs.entry.Entry.check.Goals as goal

pub returns-then-is_empty-clause-reads : goal.returns-then-is_empty-clause-reads
returns-then-is_empty-clause-reads g c =
    entry_empty g.Self.Entry.of g.Self.Member.NlaRead.grammar c.args.payload.now
    (sym c.is_empty.ensures ∙ c.if-is_empty.true) ∙ ap (λ e. Err e) (sym c.empty_list.ensures)

pub returns-clause-reads : goal.returns-clause-reads
returns-clause-reads g c =
    entry_checked g.Self.Entry.of g.Self.Member.NlaRead.grammar c.args.payload.now
    (sym c.is_empty.ensures ∙ c.if-is_empty.false) c.check_list.result c.check_list.ensures.reads

pub returns-clause-found : goal.returns-clause-found
returns-clause-found g c =
    checks_found (entry g.Self.Entry.of g.Self.Member.NlaRead.grammar)
    (entry_agrees g.Self.Entry.of g.Self.Member.NlaRead.grammar g.met.Self.Member.NlaRead.agrees) c.args.payload.now
    (all_bytes c.args.payload.now (λ i. omega (arith, c.type_inv.payload i))) c.check_list.result
    (returns-clause-reads g c)

pub returns-clause-refused : goal.returns-clause-refused
returns-clause-refused g c =
    checks_refused (entry g.Self.Entry.of g.Self.Member.NlaRead.grammar)
    (entry_agrees g.Self.Entry.of g.Self.Member.NlaRead.grammar g.met.Self.Member.NlaRead.agrees) c.args.payload.now
    (all_bytes c.args.payload.now (λ i. omega (arith, c.type_inv.payload i))) c.check_list.result
    (returns-clause-reads g c)
