use Rattle.std.proofs.Common.{◌+◌, arith, rules}
use Rattle.std.proofs.lemmas.Bool.{OnTrue_at}
use Rattle.json.proofs.Printed.Places.{Placed-then}
use Rattle.shown.proofs.Blocks.{joined, stored_more}
use Rattle.shown.proofs.Pieces.{placed_keeps}
use Rattle.shown.proofs.block.put_long_plain.Goals as goal

pub returns-then-not-put_block-clause-kept : goal.returns-then-not-put_block-clause-kept
returns-then-not-put_block-clause-kept c =
    placed_keeps (omega arith) (Placed-then c.loop-done.invariant.1 c.put_block.ensures.placed)

pub loop-done-preserved : goal.loop-done-preserved
loop-done-preserved c =
    let at = c.loop-done in
    let text = c.args.text.now in (
      search rules,
      stored_more text at.done 16 c.args.at (omega arith) at.invariant.1 c.put_block.ensures.placed,
      joined text 0 at.done at.done (at.done + 16) (omega arith) at.invariant.2
          (OnTrue_at c.if-not-put_block.false c.put_block.ensures.plain),
    )

pub returns-clause-kept : goal.returns-clause-kept
returns-clause-kept c =
    placed_keeps (omega arith) (Placed-then c.loop-done.invariant.1 c.put_ends.ensures.placed)
