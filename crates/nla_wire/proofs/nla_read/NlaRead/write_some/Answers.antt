use Rattle.std.proofs.Common.{arith, length}
use Rattle.nla_wire.specs.Grammar.{list, not_empty}
use Rattle.nla_wire.specs.Canon.{canon, canons, AllFit}
use Rattle.nla_wire.proofs.Agreement.{not_empty_agrees}
use Rattle.nla_wire.proofs.Front.{all_bytes}
use Rattle.nla_wire.proofs.Lists.{list_agrees}
use Rattle.nla_wire.proofs.Meant.{means_written}
use Rattle.nla_wire.proofs.Written.{NestFits, nest, some_room, some_rewrites}
use Rattle.nla_wire.proofs.nla_read.NlaRead.write_some.Goals as goal

pub write_nested-requires : goal.write_nested-requires
write_nested-requires g c =
    some_room (λ vs. canon (nest (canons g.Self.Nla.frame) c.args.kind vs))
    (NestFits (canons g.Self.Nla.frame) (AllFit g.Self.Nla.fits g.Self.Nla.frame)) c.args.bytes.now
    ((list g.Self.NlaRead.grammar).reads c.args.bytes.now) (length c.args.out.now) c.requires

pub returns-clause-reads : goal.returns-clause-reads
returns-clause-reads g c =
    some_rewrites (λ vs. canon (nest (canons g.Self.Nla.frame) c.args.kind vs)) c.args.bytes.now
    ((list g.Self.NlaRead.grammar).reads c.args.bytes.now) c.args.out.now c.write_nested.new.out c.write_nested.result
    c.write_nested.ensures.reads

pub returns-clause-means : goal.returns-clause-means
returns-clause-means g c =
    means_written (not_empty (list g.Self.NlaRead.grammar)) (not_empty_agrees (list g.Self.NlaRead.grammar)
    (list_agrees g.Self.NlaRead.grammar g.met.Self.NlaRead.agrees)) c.args.bytes.now
    (all_bytes c.args.bytes.now (λ i. omega (arith, c.type_inv.bytes i)))
    (λ vs. canon (nest (canons g.Self.Nla.frame) c.args.kind vs)) c.args.out.now c.write_nested.new.out
    c.write_nested.result (returns-clause-reads g c)
