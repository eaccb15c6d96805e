use Rattle.std.proofs.Common.{sym, rules}
use Rattle.message_diff.proofs.TwoKinds.{same_kind}
use Rattle.message_diff.proofs.store.Entry.is_another.Goals as goal

pub returns-then-eq : goal.returns-then-eq
returns-then-eq c = sym (same_kind c.args.self.now.snapshot.text c.args.new.now.text _ (search rules))
