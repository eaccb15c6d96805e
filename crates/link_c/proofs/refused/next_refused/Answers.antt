use Rattle.std.proofs.Common.{arith, sym, ◌∙◌}
use Rattle.nla_wire.proofs.Front.{all_bytes}
use Rattle.link_c.proofs.Refusals.{told_next}
use Rattle.link_c.proofs.refused.next_refused.Goals as goal

pub returns : goal.returns
returns c = (
  c.in-Some.kept,
  told_next c.args.bytes.now c.args.at.now c.tell.result.1 c.in-Some.kept c.next.new.self c.tell.result.0
      (all_bytes c.args.bytes.now (λ i. omega (arith, c.type_inv.bytes i)))
      (sym c.in_ok-refusals.ensures.told ∙ c.in-Some.ensures.steps) c.tell.ensures,
)
