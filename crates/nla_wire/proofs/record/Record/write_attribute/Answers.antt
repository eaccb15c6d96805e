use Rattle.std.proofs.Common.{◌+◌, ◌-◌, ◌∙◌, ap, sym, List, ℕ, length, length-take, length-drop, arith}
use Rattle.nla_wire.proofs.Canonical.{finished_part}
use Rattle.nla_wire.proofs.record.Record.write_attribute.Goals as goal

pub returns : goal.returns
returns g c =
    let size = ap (λ (t : List ℕ). length t) (sym c.write.ensures) ∙ c.write.auto.buffer
    ∙ simp (length-take, length-drop) (omega (arith, c.requires.room)) in
    finished_part c.args.kind (g.Self.Record.bytes c.args.self.now) c.args.out.now c.write.new.buffer g.row.SIZE
    (4 + g.row.SIZE - 4) c.finish.new.out c.finish.result (omega (arith, c.requires.room)) c.write.ensures (sym size)
    (omega arith) c.finish.ensures
