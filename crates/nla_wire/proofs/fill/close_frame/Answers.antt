use Rattle.std.proofs.Common.{refl, arith, length, ◌-◌, ◌≡◌, ℕ}
use Rattle.nla_wire.specs.Frames.{missing}
use Rattle.nla_wire.proofs.Placing.{frame_closed}
use Rattle.nla_wire.proofs.fill.close_frame.Goals as goal

pub returns : goal.returns
returns c =
    let len : ℕ = length c.args.buffer.now - c.args.start in
    let padding : ℕ = c.nla_align.result - len in
    let pads : padding ≡ missing len = omega (arith, c.nla_align.ensures) in
    let length_put = rw c.to_u16.ensures at c.put_u16-2.ensures.after in
    frame_closed c.args.buffer.now c.pad.new.buffer _ c.put_u16.new.buffer c.put_u16-2.new.buffer c.args.start
    (c.args.start - padding) len padding c.args.kind c.requires.within refl refl pads c.requires.room c.pad.ensures refl
    c.put_u16.ensures.after length_put
