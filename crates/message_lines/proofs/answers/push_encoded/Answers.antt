use Rattle.std.proofs.lemmas.Result.{on_ok_weaker}
use Rattle.message_lines.proofs.Added.{on_ok_extended, adds_text, adds_refused, adds_unfit, adds_empty_ports}
use Rattle.message_lines.proofs.answers.push_encoded.Goals as goal

pub returns-in-Ok : goal.returns-in-Ok
returns-in-Ok g c = on_ok_weaker c.push_text.result
    (λ e. adds_text g.E.Encoding.means g.E.Encoding.encodes _ _ _ _ _ c.in-Ok.ensures.ok c.as_slice.ensures.value e)
    c.push_text.ensures

pub returns-in-Err-Decode : goal.returns-in-Err-Decode
returns-in-Err-Decode g c =
    on_ok_extended c.extend_from_slice.result _ _ _ c.extend_from_slice.ensures.items
    (λ e. adds_refused g.E.Encoding.means g.E.Encoding.encodes _ _ _ _ _ c.in-Err-Decode.field-0-is
    c.in-Err-Decode.ensures.err e)

pub returns-in-Err-DoesNotFit : goal.returns-in-Err-DoesNotFit
returns-in-Err-DoesNotFit g c =
    on_ok_extended c.extend_from_slice-in-Err-DoesNotFit.result _
    _ _ c.extend_from_slice-in-Err-DoesNotFit.ensures.items
    (λ e. adds_unfit g.E.Encoding.means g.E.Encoding.encodes _ _ _ _ c.in-Err-DoesNotFit.field-0-is
    c.in-Err-DoesNotFit.ensures.err e)

pub returns-in-Err-EmptyVfPorts : goal.returns-in-Err-EmptyVfPorts
returns-in-Err-EmptyVfPorts g c =
    on_ok_extended c.extend_from_slice-in-Err-EmptyVfPorts.result
    _ _ _ c.extend_from_slice-in-Err-EmptyVfPorts.ensures.items
    (λ e. adds_empty_ports g.E.Encoding.means g.E.Encoding.encodes _ _ _ _ c.in-Err-EmptyVfPorts.field-0-is
    c.in-Err-EmptyVfPorts.ensures.err e)
