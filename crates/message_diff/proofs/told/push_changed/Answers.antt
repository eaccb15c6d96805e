use Rattle.message_diff.specs.Changed.{changed_line}
use Rattle.message_diff.proofs.Changed.{longer_changed}
use Rattle.message_diff.proofs.told.push_changed.Goals as goal

pub returns-clause-said : goal.returns-clause-said
returns-clause-said c =
    λ _. longer_changed c.args.by c.args.front.now c.args.old.now c.args.new.now c.args.out.now.items
    c.push_difference.new.out.items c.in_ok-push_difference.ensures

pub returns-clause-added : goal.returns-clause-added
returns-clause-added c =
    (changed_line c.args.by c.args.front.now c.args.old.now c.args.new.now, c.in_ok-push_difference.ensures)
