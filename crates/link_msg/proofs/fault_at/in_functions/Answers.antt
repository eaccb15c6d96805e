use Rattle.std.proofs.Common.{true, arith, sym}
use Rattle.nla_wire.proofs.Front.{all_bytes}
use Rattle.link_vf.specs.Tables.{link_vf_info_place}
use Rattle.link_msg.specs.Nested.{Accepts, Refuses, in_function}
use Rattle.link_msg.proofs.Innermost.{none_in, frame_in}
use Rattle.link_msg.proofs.Sound.{sound_functions}
use Rattle.link_msg.proofs.fault_at.in_functions.Goals as goal

pub returns-in_default : goal.returns-in_default
returns-in_default c =
    let place = link_vf_info_place.grammar in
    none_in (Accepts true place) (Refuses true place) (λ f. in_function) sound_functions c.args.bytes.now
    (all_bytes c.args.bytes.now (λ i. omega (arith, c.type_inv.bytes i))) c.in_default.ensures.first

pub returns-in-Some-frame : goal.returns-in-Some-frame
returns-in-Some-frame c =
    let place = link_vf_info_place.grammar in
    frame_in (Accepts true place) (Refuses true place) (λ f. in_function) sound_functions c.args.bytes.now
    (all_bytes c.args.bytes.now (λ i. omega (arith, c.type_inv.bytes i))) c.in-Some.field-0.at 2 c.frame.result
    c.in-Some-frame.frame c.in-Some.field-0.frame c.in-Some.ensures.first c.in-Some-frame.is c.in_function.result
    (rw (sym c.value.ensures.value) c.in_function.ensures) c.kind.result c.kind.ensures c.frame.ensures
