use Rattle.std.proofs.Common.{arith, ◌<◌}
use Rattle.nla_wire.proofs.Ascii.{all_halves}
use Rattle.nla_wire.proofs.text.is_ascii.Goals as goal

pub returns-then-begins_ascii_4 : goal.returns-then-begins_ascii_4
returns-then-begins_ascii_4 c =
    let front = c.begins_ascii_4.ensures.0 c.if-begins_ascii_4.true in
    let end = c.begins_ascii_4-then-begins_ascii_4.ensures in
    let ends = all_halves (λ b. b < 128) c.args.bytes.now 4 (omega arith) (omega arith) in
    (λ low. ends.1 (front, end.0 low), λ all. end.1 (ends.0 all).1)

pub returns-then-begins_ascii_8 : goal.returns-then-begins_ascii_8
returns-then-begins_ascii_8 c =
    let front = c.begins_ascii_8.ensures.0 c.if-begins_ascii_8.true in
    let end = c.begins_ascii_8-then-begins_ascii_8.ensures in
    let ends = all_halves (λ b. b < 128) c.args.bytes.now 8 (omega arith) (omega arith) in
    (λ low. ends.1 (front, end.0 low), λ all. end.1 (ends.0 all).1)
