use Rattle.std.proofs.Common.{ap}
use Rattle.message_diff.proofs.Silent.{told_of}
use Rattle.message_diff.proofs.kept.tell_turned.Goals as goal

pub returns : goal.returns
returns c =
    told_of c.args.by c.args.front.now c.args.last.now c.args.new.now c.args.out.now.items c.push_changed.new.out.items
    _ c.in_ok-push_changed.ensures.told (λ no. ap (λ out. out.items) (c.in_ok-push_changed.ensures.silent no))
    c.in_ok-push_changed.ensures.line
