use Rattle.std.proofs.Common.{arith}
use Rattle.shown.proofs.Pieces.{digit_behind}
use Rattle.shown.proofs.digits.put_two.Goals as goal

pub returns-clause-placed : goal.returns-clause-placed
returns-clause-placed c =
    digit_behind c.args.value _ _ _ _ _ _ (omega (arith, c.if-value-lt10.false)) (omega (arith, c.requires.small))
    c.put_one-end.ensures.placed c.put_byte.ensures
