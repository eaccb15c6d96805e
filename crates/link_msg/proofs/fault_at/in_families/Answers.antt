use Rattle.std.proofs.Common.{false, arith}
use Rattle.nla_wire.specs.Frames.{number}
use Rattle.nla_wire.proofs.Front.{all_bytes}
use Rattle.link_afspec.specs.Tables.{af_spec_unspec_place}
use Rattle.link_msg.specs.Nested.{Accepts, Refuses, in_family}
use Rattle.link_msg.proofs.Innermost.{none_in, frame_in}
use Rattle.link_msg.proofs.Sound.{sound_families}
use Rattle.link_msg.proofs.fault_at.in_families.Goals as goal

pub returns-in_default : goal.returns-in_default
returns-in_default c =
    let place = af_spec_unspec_place.grammar in
    none_in (Accepts false place) (Refuses false place) (λ f. in_family (number f)) sound_families c.args.bytes.now
    (all_bytes c.args.bytes.now (λ i. omega (arith, c.type_inv.bytes i))) c.in_default.ensures.first

pub returns-in-Some-frame : goal.returns-in-Some-frame
returns-in-Some-frame c =
    let place = af_spec_unspec_place.grammar in
    frame_in (Accepts false place) (Refuses false place) (λ f. in_family (number f)) sound_families c.args.bytes.now
    (all_bytes c.args.bytes.now (λ i. omega (arith, c.type_inv.bytes i))) c.in-Some.field-0.at 1 c.frame.result
    c.in-Some-frame.frame c.in-Some.field-0.frame c.in-Some.ensures.first c.in-Some-frame.is c.in_family.result
    c.in_family.ensures c.kind.result c.kind.ensures c.frame.ensures
