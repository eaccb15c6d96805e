use Rattle.std.proofs.Common.{◌≡◌, ◌-◌, ◌≤◌, ◌∙◌, sym, subst, List, ℕ, length, length-take, length-drop, arith}
use Rattle.nla_wire.specs.Fields.{zero_filled}
use Rattle.nla_wire.specs.Canon.{canon, Writes}
use Rattle.nla_wire.proofs.Bounds.{length-canon}
use Rattle.nla_wire.proofs.Written.{lent_length}
use Rattle.nla_wire.proofs.FieldLemmas.{length-zero_filled}
use Rattle.nla_wire.proofs.Again.{filled_front}
use Rattle.nla_wire.proofs.Canonical.{finished_value}
use Rattle.nla_wire.proofs.payload.write_filled_payload.Goals as goal

pub returns-then-size-payload : goal.returns-then-size-payload
returns-then-size-payload c =
    subst (λ (value : List ℕ). Writes (canon (record { kind = c.args.kind; payload = value }))
    c.args.out.now c.write_value.new.out c.write_value.result)
    (sym (filled_front c.args.size c.args.payload.now c.if-size-payload.true)) c.write_value.ensures

pub returns : goal.returns
returns c =
    finished_value c.args.kind (zero_filled c.args.size c.args.payload.now) c.args.out.now c.write_filled-len.new.out
    c.write_filled-len.result c.finish.new.out c.finish.result (omega (
      arith,
      c.requires.room,
      length-canon (record { kind = c.args.kind; payload = zero_filled c.args.size c.args.payload.now }),
    )) c.write_filled-len.ensures c.finish.ensures

pub write_value-requires-clause-room : goal.write_value-requires-clause-room
write_value-requires-clause-room c =
    subst (λ (value : List ℕ). length (canon (record { kind = c.args.kind; payload = value })) ≤ length c.args.out.now)
    (filled_front c.args.size c.args.payload.now c.if-size-payload.true) c.requires.room

pub write_filled-len-requires-clause-room : goal.write_filled-len-requires-clause-room
write_filled-len-requires-clause-room c =
    let whole = length-canon (record { kind = c.args.kind; payload = zero_filled c.args.size c.args.payload.now }) in
    let size = length-zero_filled c.args.size c.args.payload.now in
    simp (length-take, length-drop) (omega (arith, c.requires.room, whole, size))

pub finish-requires-clause-small : goal.finish-requires-clause-small
finish-requires-clause-small c = omega
    (arith, c.requires.small, c.write_filled-len.ensures.length_is, length-zero_filled c.args.size c.args.payload.now)

pub finish-requires-clause-room : goal.finish-requires-clause-room
finish-requires-clause-room c =
    let whole = length-canon (record { kind = c.args.kind; payload = zero_filled c.args.size c.args.payload.now }) in
    let len = c.write_filled-len.ensures.length_is ∙ length-zero_filled c.args.size c.args.payload.now in
    let rest : length c.write_filled-len.new.out ≡ length c.args.out.now - 4 =
    c.write_filled-len.auto.out ∙ simp (length-take, length-drop) (omega (arith, c.requires.room, whole)) in
    let room = lent_length c.args.out.now c.write_filled-len.new.out (omega (arith, c.requires.room, whole)) in
    omega (arith, len, rest, room, c.requires.room, whole, length-zero_filled c.args.size c.args.payload.now)
