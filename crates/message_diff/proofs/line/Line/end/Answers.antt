use Rattle.std.proofs.lemmas.Result.{on_ok_weaker}
use Rattle.message_diff.proofs.Gone.{tells_went}
use Rattle.message_diff.proofs.line.Line.end.Goals as goal

pub returns-clause-told : goal.returns-clause-told
returns-clause-told c =
    on_ok_weaker c.end_parts.result
    (λ rest. tells_went c.args.self.front.now c.args.self.told c.args.host.now c.forget_own.new.host c.args.key
    c.args.gone
    c.args.out.now.items c.forget_own.new.out.items c.end_parts.new.out.items c.in_ok-forget_own.ensures.known
    c.in_ok-forget_own.ensures.told rest)
    c.end_parts.ensures.told
