use Rattle.frame_diff.proofs.Grouped.{none_pushed, one_pushed}
use Rattle.frame_diff.proofs.plain_lists.push_each.Goals as goal

pub returns : goal.returns
returns c nest inner is_state cx around =
    one_pushed nest inner is_state cx c.in-Some.own c.args.value c.args.values.now.items c.push.new.self.items
    c.in-Some.is c.requires around c.in_ok-push.ensures.items

pub returns-in_default : goal.returns-in_default
returns-in_default c nest inner is_state cx around =
    none_pushed nest inner is_state cx c.args.value c.args.values.now.items c.in_default.is
