use Rattle.std.proofs.Common.{rules, ◌∙◌, ap, sym, inr, arith, Err, Ok}
use Rattle.nla_wire.proofs.Front.{all_bytes}
use Rattle.nla_wire.proofs.Loop.{gives_refused}
use Rattle.link_vf.specs.Entries.{entry}
use Rattle.link_vf.proofs.Entries.{entry_agrees, entry_empty, entry_given, entry_fails}
use Rattle.link_vf.proofs.entry.Entry.parse.Goals as goal

pub returns-then-is_empty-clause-reads : goal.returns-then-is_empty-clause-reads
returns-then-is_empty-clause-reads g c =
    inr (entry_empty g.Self.Entry.of g.Self.Member.NlaRead.grammar c.args.payload.now
    (sym c.is_empty.ensures ∙ c.if-is_empty.true) ∙ ap (λ e. Err e) (sym c.empty_list.ensures))

pub returns-in_err-members-clause-reads : goal.returns-in_err-members-clause-reads
returns-in_err-members-clause-reads g c =
    let fails = entry_fails g.Self.Entry.of g.Self.Member.NlaRead.grammar c.args.payload.now
    (sym c.is_empty.ensures ∙ c.if-is_empty.false) c.in_err-members.field-0.0.cause c.in_err-members.ensures.reads in
    search (rules, fails)

pub returns-in_err-members-clause-refused : goal.returns-in_err-members-clause-refused
returns-in_err-members-clause-refused g c =
    gives_refused (entry g.Self.Entry.of g.Self.Member.NlaRead.grammar)
    (entry_agrees g.Self.Entry.of g.Self.Member.NlaRead.grammar g.met.Self.Member.NlaRead.agrees) c.args.payload.now
    (all_bytes c.args.payload.now (λ i. omega (arith, c.type_inv.payload i))) c.from_residual.result
    (returns-in_err-members-clause-reads g c)

pub returns-clause-reads : goal.returns-clause-reads
returns-clause-reads g c =
    entry_given g.Self.Entry.of g.Self.Member.NlaRead.grammar c.args.payload.now
    (sym c.is_empty.ensures ∙ c.if-is_empty.false) c.new.result
    (c.in_ok-members.ensures.reads ∙ ap (λ vs. Ok vs) (sym c.new.ensures))
    ∙ ap (λ v. Ok v) (sym c.from_list.ensures)
