use Rattle.std.proofs.lemmas.Fmt.{decimal_digit}
use Rattle.shown.proofs.digits.put_one.Goals as goal

pub returns-clause-placed : goal.returns-clause-placed
returns-clause-placed c = rw (decimal_digit c.args.value c.requires.small) c.put_byte.ensures
