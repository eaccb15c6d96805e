use Rattle.std.proofs.Common.{◌≡◌, ◌+◌, ◌-◌, length, arith}
use Rattle.json.proofs.Printed.Places.{Placed-ends}
use Rattle.shown.proofs.block.put_ends.Goals as goal

pub returns-clause-placed : goal.returns-clause-placed
returns-clause-placed g c =
    let src = c.args.text.now in
    let end : c.args.at + (length src - g.row.N) + g.row.N ≡ c.args.at + length src = omega arith in
    rw end at (Placed-ends src g.row.N (omega arith) c.requires.twice.0 c.requires.twice.1
    c.put_block-front.ensures.placed c.put_block-back.ensures.placed)
