use Rattle.std.proofs.Common.{◌<◌, arith, lt-ltb, ltb-true}
use Rattle.nla_wire.proofs.Ascii.{all_ends}
use Rattle.nla_wire.proofs.Texts.{high_ascii}
use Rattle.nla_wire.proofs.text.are_ends_ascii.Goals as goal

pub returns-then-highest-lt128 : goal.returns-then-highest-lt128
returns-then-highest-lt128 c =
    let front = high_ascii _ c.highest.result c.highest.ensures in
    let end = high_ascii _ c.highest-then-highest-lt128.result c.highest-then-highest-lt128.ensures in
    let ends = all_ends (λ b. b < 128) c.args.bytes.now c.args.front c.args.back c.requires.last c.requires.all in (
      λ low. ends.1 (
        front.0 c.if-highest-lt128.true,
        end.0 (ltb-true c.highest-then-highest-lt128.result 128 low),
      ),
      λ all. lt-ltb c.highest-then-highest-lt128.result 128 (end.1 (ends.0 all).1),
    )

pub returns-else-highest-lt128 : goal.returns-else-highest-lt128
returns-else-highest-lt128 c =
    let front = high_ascii _ c.highest.result c.highest.ensures in
    let ends = all_ends (λ b. b < 128) c.args.bytes.now c.args.front c.args.back c.requires.last c.requires.all in (
      λ low. absurd (omega (arith, ltb-true c.highest.result 128 low, c.if-highest-lt128.false)),
      λ all. lt-ltb c.highest.result 128 (front.1 (ends.0 all).0),
    )
