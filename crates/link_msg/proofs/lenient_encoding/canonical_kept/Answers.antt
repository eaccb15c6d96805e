use Rattle.std.proofs.Common.{length, drop, sym, subst, arith}
use Rattle.std.proofs.lemmas.List.{take_at}
use Rattle.nla_wire.proofs.Front.{all_bytes}
use Rattle.link_msg.specs.Lenient.{HasLenientText}
use Rattle.link_msg.proofs.LenientWriting.{measured_text}
use Rattle.link_msg.proofs.lenient_encoding.canonical_kept.Goals as goal

pub returns-clause-ok : goal.returns-clause-ok
returns-clause-ok c =
    let text = c.as_mut_slice.result.now in
    let written = c.write_lenient-len.new.out in
    let all = take_at written (drop (length written) c.resize.new.self.items) c.resize.new.self.len
    (omega (arith, c.write_lenient-len.auto.out, c.as_mut_slice.ensures.len)) in
    subst (HasLenientText c.args.input.now) (sym all)
    (measured_text c.args.input.now c.in_ok-header.header c.in_ok-header.rest.now c.in_ok-header.len
    c.in_ok-header.ensures.ok text written c.write_lenient-len.result
    (all_bytes c.args.input.now (λ i. omega (arith, c.type_inv.input i)))
    (omega (arith, c.as_mut_slice.ensures.len, c.in_ok-resize.ensures.len)) c.write_lenient-len.ensures)
