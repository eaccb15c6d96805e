use Rattle.std.proofs.Common.{arith, length, sym, eqb-true}
use Rattle.nla_wire.specs.Grammar.{list, not_empty}
use Rattle.nla_wire.specs.Canon.{canons, AllFit}
use Rattle.nla_wire.proofs.Agreement.{not_empty_agrees}
use Rattle.nla_wire.proofs.Front.{all_bytes}
use Rattle.nla_wire.proofs.Lists.{list_agrees}
use Rattle.nla_wire.proofs.Meant.{means_length}
use Rattle.nla_wire.proofs.Written.{NestFits, not_none, empty_weighs, some_weighs}
use Rattle.nla_wire.proofs.nla_read.NlaRead.measure_some.Goals as goal

pub returns-then-is_empty-clause-reads : goal.returns-then-is_empty-clause-reads
returns-then-is_empty-clause-reads g c =
    empty_weighs (canons g.Self.Nla.frame) (NestFits (canons g.Self.Nla.frame)
    (AllFit g.Self.Nla.fits g.Self.Nla.frame)) c.args.bytes.now ((list g.Self.NlaRead.grammar).reads c.args.bytes.now)
    (eqb-true (length c.args.bytes.now) 0 (sym c.if-is_empty.ensures))

pub returns-clause-reads : goal.returns-clause-reads
returns-clause-reads g c =
    some_weighs (canons g.Self.Nla.frame) (NestFits (canons g.Self.Nla.frame) (AllFit g.Self.Nla.fits g.Self.Nla.frame))
    c.args.bytes.now ((list g.Self.NlaRead.grammar).reads c.args.bytes.now) c.measure_nested.result
    (not_none c.args.bytes.now c.if-is_empty.ensures) c.measure_nested.ensures.reads

pub returns-clause-means : goal.returns-clause-means
returns-clause-means g c =
    means_length (not_empty (list g.Self.NlaRead.grammar)) (not_empty_agrees (list g.Self.NlaRead.grammar)
    (list_agrees g.Self.NlaRead.grammar g.met.Self.NlaRead.agrees)) c.args.bytes.now
    (all_bytes c.args.bytes.now (λ i. omega (arith, c.type_inv.bytes i))) (canons g.Self.Nla.frame)
    (NestFits (canons g.Self.Nla.frame) (AllFit g.Self.Nla.fits g.Self.Nla.frame)) c.measure_nested.result
    (returns-clause-reads g c)
