use Rattle.message_diff.proofs.Ranged.{missed_one, missed_three}
use Rattle.message_diff.proofs.store.Host.missed.Goals as goal

pub returns-then-family-ne-AF_UNSPEC-clause-keys : goal.returns-then-family-ne-AF_UNSPEC-clause-keys
returns-then-family-ne-AF_UNSPEC-clause-keys c =
    missed_one c.args.self.now c.args.family c.args.begin c.new-missed.result.items c.add_missed.new.missed.items
    c.if-family-ne-AF_UNSPEC.true c.new-missed.ensures.items c.in_ok-add_missed.ensures.keys

pub returns-clause-keys : goal.returns-clause-keys
returns-clause-keys c =
    missed_three c.args.self.now c.args.family c.args.begin c.new-missed.result.items c.add_missed.new.missed.items
    c.add_missed-2.new.missed.items c.add_missed-3.new.missed.items c.if-family-ne-AF_UNSPEC.false
    c.in_ok-add_missed.ensures.ordered c.new-missed.ensures.items c.in_ok-add_missed.ensures.keys
    c.in_ok-add_missed-2.ensures.keys c.in_ok-add_missed-3.ensures.keys
