use Rattle.std.proofs.Common.{sym, ◌∙◌}
use Rattle.link_msg.proofs.fault_at.in_family.Goals as goal

pub returns-in-2 : goal.returns-in-2
returns-in-2 c = rw (sym c.kind.ensures ∙ c.in-2.is, sym c.value.ensures.value) c.in_list.ensures
