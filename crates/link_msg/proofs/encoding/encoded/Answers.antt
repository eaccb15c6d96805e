use Rattle.std.proofs.Common.{◌+◌, ◌-◌, length, take, drop, replicate, ◌∙◌, refl, sym, subst, arith}
use Rattle.std.proofs.lemmas.List.{take_at}
use Rattle.link_msg.specs.Header.{header_size}
use Rattle.link_msg.specs.Canonical.{HasText}
use Rattle.link_msg.proofs.Writing.{measured_room, measured_begun, measured_text, began}
use Rattle.link_msg.proofs.encoding.encoded.Goals as goal

pub write_after_prefix-len-requires-clause-measured : goal.write_after_prefix-len-requires-clause-measured
write_after_prefix-len-requires-clause-measured c =
    let size = measured_begun c.requires.measured.0 c.args.header.now c.args.rest.now c.args.len
    c.requires.measured.1 c.args.prefix c.as_mut_slice.result.now c.requires.begins
    (c.as_mut_slice.ensures.value ∙ c.in_ok-encoding.ensures) in
    measured_room c.requires.measured.0 c.args.header.now c.args.rest.now c.args.len
    c.requires.measured.1 (length c.as_mut_slice.result.now - header_size) (omega (arith, size))

pub write_after_prefix-len-requires-clause-long : goal.write_after_prefix-len-requires-clause-long
write_after_prefix-len-requires-clause-long c =
    let size = measured_begun c.requires.measured.0 c.args.header.now c.args.rest.now c.args.len
    c.requires.measured.1 c.args.prefix c.as_mut_slice.result.now c.requires.begins
    (c.as_mut_slice.ensures.value ∙ c.in_ok-encoding.ensures) in
    omega (arith, size)

pub returns : goal.returns
returns c input bytes measured =
    let v = c.args.header.now in
    let d = c.args.rest.now in
    let prefix = c.args.prefix in
    let text = c.as_mut_slice.result.now in
    let written = c.write_after_prefix-len.new.out in
    let is = c.as_mut_slice.ensures.value ∙ c.in_ok-encoding.ensures in
    let size = measured_begun input v d c.args.len measured prefix text c.requires.begins is in
    let all = take_at written (drop (length written) c.in_ok-encoding.encoding.items) c.in_ok-encoding.encoding.len
    (omega (arith, c.write_after_prefix-len.auto.out, c.as_mut_slice.ensures.len)) in
    subst (HasText input) (sym all)
    (measured_text input v d c.args.len measured text written c.write_after_prefix-len.result bytes size
    (c.write_after_prefix-len.ensures text
    (began v d (take prefix d)
    (replicate (header_size + c.args.len - (header_size + length (take prefix d))) 0) text prefix
    c.requires.begins.within refl is)))
