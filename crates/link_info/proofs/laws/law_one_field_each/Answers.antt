use Rattle.link_info.proofs.Listed.{one_field_each}
use Rattle.link_info.proofs.laws.law_one_field_each.Goals as goal

pub returns : goal.returns
returns c = one_field_each
