use Rattle.message_diff.proofs.Changed.{longer_list}
use Rattle.message_diff.proofs.told.push_list.Goals as goal

pub returns-in-Ok-clause-list : goal.returns-in-Ok-clause-list
returns-in-Ok-clause-list c = λ _. (
  c.in_ok-was.was',
  c.in_ok-is.is',
  record {
    old_order = c.in_ok-was.ensures.order;
    new_order = c.in_ok-is.ensures.order;
    old_text = c.in_ok-was.ensures.ok;
    new_text = c.in_ok-is.ensures.ok;
  },
  c.in-Ok.ensures,
)

pub returns-in-Ok-clause-said : goal.returns-in-Ok-clause-said
returns-in-Ok-clause-said c =
    λ _. longer_list c.args.by _ _ c.args.out.now.items c.push_changes.new.out.items c.in-Ok.ensures
