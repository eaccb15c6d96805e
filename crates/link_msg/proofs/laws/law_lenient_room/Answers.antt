use Rattle.std.proofs.Common.{List, ℕ, length, length-append, ap, arith}
use Rattle.nla_wire.proofs.Front.{all_bytes}
use Rattle.link_msg.specs.Lenient.{lenient_place}
use Rattle.link_msg.specs.LenientTable.{lenient_lawful}
use Rattle.link_msg.proofs.MessagesBy.{bounded_by}
use Rattle.link_msg.proofs.laws.law_lenient_room.Goals as goal

pub returns : goal.returns
returns c = λ m accepted.
    let bounds = bounded_by lenient_place lenient_lawful c.args.input.now m
    (all_bytes c.args.input.now (λ i. omega (arith, c.type_inv.input i))) accepted.means in
    let size = ap (λ (t : List ℕ). length t) accepted.means.2 in
    omega (arith, bounds.short, size, length-append accepted.means.0 accepted.means.1, accepted.means.3.size)
