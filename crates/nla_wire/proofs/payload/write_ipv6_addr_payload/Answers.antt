use Rattle.std.proofs.Common.{List, ℕ, sym, ◌∙◌, subst, arith, take_all}
use Rattle.nla_wire.specs.Canon.{canon, Writes}
use Rattle.nla_wire.proofs.Front.{all_bytes}
use Rattle.nla_wire.proofs.Canonical.{octets_again}
use Rattle.nla_wire.proofs.payload.write_ipv6_addr_payload.Goals as goal

pub returns : goal.returns
returns c =
    let again = octets_again c.args.payload.now (omega arith)
    (all_bytes c.args.payload.now (λ i. omega (arith, c.type_inv.payload i))) in
    subst (λ (octets : List ℕ). Writes (canon (record { kind = c.args.kind; payload = octets }))
    c.args.out.now c.write_value.new.out c.write_value.result)
    (take_all 16 c.args.payload.now (omega arith) ∙ sym again) c.write_value.ensures
