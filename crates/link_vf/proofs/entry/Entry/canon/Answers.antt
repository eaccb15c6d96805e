use Rattle.std.proofs.Common.{arith, length, sym, eqb-true}
use Rattle.nla_wire.specs.Canon.{canons, AllFit}
use Rattle.nla_wire.proofs.Front.{all_bytes}
use Rattle.nla_wire.proofs.Meant.{means_encoding}
use Rattle.nla_wire.proofs.Written.{not_none}
use Rattle.link_vf.specs.Entries.{entry}
use Rattle.link_vf.proofs.Entries.{entry_agrees, entry_room, entry_canonical, entry_none}
use Rattle.link_vf.proofs.entry.Entry.canon.Goals as goal

pub returns-then-is_empty-clause-reads : goal.returns-then-is_empty-clause-reads
returns-then-is_empty-clause-reads g c =
    entry_none g.Self.Entry.of g.Self.Entry.members g.met.Self.Entry.laws.same g.Self.Member.NlaRead.grammar
    g.Self.Member.Nla.frame g.Self.Member.Nla.fits c.args.payload.now c.args.out.now
    (eqb-true (length c.args.payload.now) 0 (sym c.if-is_empty.ensures))

pub canon_list-requires : goal.canon_list-requires
canon_list-requires g c =
    record {
      room = entry_room g.Self.Entry.of g.Self.Entry.members g.met.Self.Entry.laws.same g.Self.Member.NlaRead.grammar
          g.Self.Member.Nla.frame g.Self.Member.Nla.fits c.args.payload.now (length c.args.out.now)
          (not_none c.args.payload.now c.if-is_empty.ensures) c.requires.room;
    }

pub returns-clause-reads : goal.returns-clause-reads
returns-clause-reads g c =
    entry_canonical g.Self.Entry.of g.Self.Entry.members g.met.Self.Entry.laws.same g.Self.Member.NlaRead.grammar
    g.Self.Member.Nla.frame g.Self.Member.Nla.fits c.args.payload.now c.args.out.now c.canon_list.new.out
    c.canon_list.result (not_none c.args.payload.now c.if-is_empty.ensures) c.canon_list.ensures.reads

pub returns-clause-means : goal.returns-clause-means
returns-clause-means g c =
    means_encoding (entry g.Self.Entry.of g.Self.Member.NlaRead.grammar)
    (entry_agrees g.Self.Entry.of g.Self.Member.NlaRead.grammar g.met.Self.Member.NlaRead.agrees) c.args.payload.now
    (all_bytes c.args.payload.now (λ i. omega (arith, c.type_inv.payload i)))
    (λ v. canons g.Self.Member.Nla.frame (g.Self.Entry.members v))
    (λ v. AllFit g.Self.Member.Nla.fits g.Self.Member.Nla.frame (g.Self.Entry.members v)) c.args.out.now
    c.canon_list.new.out c.canon_list.result (returns-clause-reads g c)
