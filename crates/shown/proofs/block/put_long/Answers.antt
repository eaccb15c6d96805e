use Rattle.std.proofs.Common.{◌+◌, length, refl, arith, rules}
use Rattle.std.proofs.lemmas.List.{take_rest}
use Rattle.shown.proofs.Blocks.{both_plain, rest_plain, stored_more, stored_all}
use Rattle.shown.proofs.block.put_long.Goals as goal

pub loop-done-preserved : goal.loop-done-preserved
loop-done-preserved c =
    let at = c.loop-done in
    let text = c.args.text.now in (
      search rules,
      stored_more text at.done 16 c.args.at (omega arith) at.invariant.1 c.put_block-block.ensures.placed,
      both_plain text 0 at.done at.done (at.done + 16) at.is_plain c.put_block-block.result _ (omega arith) refl
          at.invariant.2 c.put_block-block.ensures.plain,
    )

pub returns-clause-placed : goal.returns-clause-placed
returns-clause-placed c =
    let at = c.loop-done in
    stored_all c.args.text.now at.done c.args.at (omega arith) at.invariant.1
    (rw (take_rest c.args.text.now at.done) at c.put_ends-rest.ensures.placed)

pub returns-clause-plain : goal.returns-clause-plain
returns-clause-plain c =
    let at = c.loop-done in
    let text = c.args.text.now in
    both_plain text 0 at.done at.done (length text) at.is_plain c.put_ends-rest.result _ (omega arith) refl
    at.invariant.2 (rest_plain text at.done c.put_ends-rest.result (omega arith)
    (rw (take_rest text at.done) at c.put_ends-rest.ensures.plain))
