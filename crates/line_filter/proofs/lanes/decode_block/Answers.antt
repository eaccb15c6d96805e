use Rattle.std.proofs.Common.{arith}
use Rattle.std.proofs.lemmas.Bool.{OnTrue_at}
use Rattle.line_filter.proofs.Blocks.{block_decoded}
use Rattle.line_filter.proofs.lanes.decode_block.Goals as goal

pub returns-clause-read : goal.returns-clause-read
returns-clause-read c =
    block_decoded c.args.digits.now c.values_of-values.result c.args.bytes.now c.args.at c.args.to c.requires.from
    c.requires.to (omega arith) c.values_of-values.ensures
    (OnTrue_at c.if-not-are_digits.false c.are_digits.ensures)
