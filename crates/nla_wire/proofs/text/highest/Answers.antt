use Rattle.std.proofs.Common.{◌≡◌, ◌+◌, suc, subst, arith}
use Rattle.nla_wire.proofs.Texts.{IsHighest, high_starts, high_on, high_ends}
use Rattle.nla_wire.proofs.text.highest.Goals as goal
use Rattle.nla_wire.proofs.text.highest.Goals.{then-byte-high, else-byte-high}

pub loop-byte-init : goal.loop-byte-init
loop-byte-init c = high_starts c.args.bytes.now

pub loop-byte-preserved : goal.loop-byte-preserved
loop-byte-preserved c =
    let next : suc c.loop-byte.byte-index ≡ c.loop-byte.byte-index + 1 = omega arith in
    subst (λ i. IsHighest c.args.bytes.now i c.if-byte-high.high) next
    (high_on c.args.bytes.now c.loop-byte.byte-index c.loop-byte.high c.if-byte-high.high c.loop-byte.invariant
    c.loop-byte-test.true
    (λ n. elim c.if-byte-high.branch [
      | then-byte-high w ↦ (
        λ le. (omega (arith, w.high-is, w.if-byte-high.true, le), omega (arith, w.high-is, le)),
        λ both. omega (arith, w.high-is, both.1),
      )
      | else-byte-high w ↦ (
        λ le. (omega (arith, w.high-is, le), omega (arith, w.high-is, w.if-byte-high.false, le)),
        λ both. omega (arith, w.high-is, both.0),
      )
    ]))

pub returns : goal.returns
returns c =
    high_ends c.args.bytes.now c.loop-byte.byte-index c.loop-byte.high c.loop-byte.invariant c.loop-byte-test.false
