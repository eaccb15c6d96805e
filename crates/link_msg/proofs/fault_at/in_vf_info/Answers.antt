use Rattle.std.proofs.Common.{sym, ◌∙◌}
use Rattle.link_msg.proofs.fault_at.in_vf_info.Goals as goal

pub returns-in-8 : goal.returns-in-8
returns-in-8 c = rw (sym c.kind.ensures ∙ c.in-8.is, sym c.value.ensures.value) c.in_list.ensures
