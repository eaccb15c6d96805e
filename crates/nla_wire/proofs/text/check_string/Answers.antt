use Rattle.std.proofs.Common.{arith}
use Rattle.nla_wire.specs.Payloads.{text}
use Rattle.nla_wire.proofs.Agreement.{text_agrees}
use Rattle.nla_wire.proofs.Front.{all_bytes}
use Rattle.nla_wire.proofs.Memory.{memory_text}
use Rattle.nla_wire.proofs.Loop.{checks_found, checks_fault, checks_refused}
use Rattle.nla_wire.proofs.Checked.{checks_memory}
use Rattle.nla_wire.proofs.text.check_string.Goals as goal

pub returns-clause-found : goal.returns-clause-found
returns-clause-found c = checks_found text text_agrees c.args.bytes.now
    (all_bytes c.args.bytes.now (λ i. omega (arith, c.type_inv.bytes i))) c.check_utf8.result c.check_utf8.ensures

pub returns-clause-fault : goal.returns-clause-fault
returns-clause-fault c = checks_fault text text_agrees c.args.bytes.now
    (all_bytes c.args.bytes.now (λ i. omega (arith, c.type_inv.bytes i))) c.check_utf8.result c.check_utf8.ensures

pub returns-clause-refused : goal.returns-clause-refused
returns-clause-refused c = checks_refused text text_agrees c.args.bytes.now
    (all_bytes c.args.bytes.now (λ i. omega (arith, c.type_inv.bytes i))) c.check_utf8.result c.check_utf8.ensures

pub returns-clause-memory : goal.returns-clause-memory
returns-clause-memory c = checks_memory text text_agrees c.args.bytes.now (all_bytes c.args.bytes.now
    (λ i. omega (arith, c.type_inv.bytes i))) memory_text c.check_utf8.result c.check_utf8.ensures
