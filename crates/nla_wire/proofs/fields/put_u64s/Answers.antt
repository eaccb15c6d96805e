use Rattle.std.specs.Int.{w64, to_le_bytes}
use Rattle.nla_wire.proofs.Words.{words_more}
use Rattle.nla_wire.proofs.fields.put_u64s.Goals as goal

pub loop-i-preserved : goal.loop-i-preserved
loop-i-preserved c =
    words_more (λ n. to_le_bytes w64 n) c.args.words.now c.loop-i.i 8 0 c.loop-i.buffer c.put_u64.new.buffer
    c.loop-i-test.true c.loop-i.invariant c.put_u64.ensures.front
