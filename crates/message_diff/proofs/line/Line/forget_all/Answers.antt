use Rattle.std.proofs.Common.{◌∙◌, arith}
use Rattle.message_diff.proofs.Pictures.{taken_at}
use Rattle.message_diff.proofs.Gone.{gone_next, gone_last, sorted_next}
use Rattle.message_diff.proofs.line.Line.forget_all.Goals as goal

pub loop-key-preserved : goal.loop-key-preserved
loop-key-preserved c =
    let keys = c.args.keys.now in
    let i = c.loop-key.key-index in
    record {
      known = λ q.
          taken_at keys i _ q _ _ (omega arith) (c.in_ok-forget.ensures.known q) ∙ c.loop-key.invariant.known q;
      dump = c.in_ok-forget.ensures.dump ∙ c.loop-key.invariant.dump;
      whole = c.in_ok-forget.ensures.whole ∙ c.loop-key.invariant.whole;
      sorted = λ s. sorted_next keys i (omega arith) (c.loop-key.invariant.sorted s);
      told = λ s all rest. c.loop-key.invariant.told s all
          (gone_next c.args.self.front.now c.args.self.told keys i _ c.loop-key.host c.forget.new.host _ _ all
          (omega arith) (c.loop-key.invariant.sorted s) c.in_ok-forget.ensures.known c.in_ok-forget.ensures.told rest);
    }

pub returns-clause-told : goal.returns-clause-told
returns-clause-told c = λ s. c.loop-key.invariant.told s c.loop-key.out.items
    (gone_last c.args.self.front.now c.args.self.told c.args.keys.now _ c.loop-key.host c.loop-key.out.items
    (omega arith))
