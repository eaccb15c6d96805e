use Rattle.std.proofs.Common.{◌≡◌, ℕ, List, length, false, true, Some, None, refl, ap, subst, ◌∙◌, eqb-true}
use Rattle.nla_wire.specs.Canon.{Weighs}
use Rattle.link_msg.specs.Tables.{attribute_frame, AttributeFits, attribute_place}
use Rattle.link_msg.proofs.Shaped.{shape_here, shape_weighs}
use Rattle.link_msg.proofs.Copied.{same_text, kept_same}
use Rattle.link_msg.proofs.EmptyPorts.{own_text}
use Rattle.link_msg.proofs.attribute.LinkAttribute.is_own_encoding.Goals as goal

pub returns-in_default : goal.returns-in_default
returns-in_default c = λ told.
    let f = c.args.buffer.now in
    let payload_is = ap (λ (t : List ℕ). length t) c.value-payload.ensures.value in
    let way = shape_here c.args.family f c.kind.result c.value-payload.result.now c.of.result None c.kind.ensures
    c.value-payload.ensures.value c.in_default.is c.of.ensures in
    own_text c.args.family f c.is_empty_ports.ensures.frame
    (shape_weighs c.args.family f None (Some (length f.payload)) way c.is_empty_ports.ensures.frame refl)
    (kept_same c.args.family f c.is_empty_ports.ensures.frame way)
    (λ none. let wrong : false ≡ true = c.if-is_empty_ports.ensures.told.1 (none.0, payload_is ∙ none.1) in absurd cc)

pub returns-in-Some-measure : goal.returns-in-Some-measure
returns-in-Some-measure c = λ told.
    let f = c.args.buffer.now in
    let payload_is = ap (λ (t : List ℕ). length t) c.value-payload.ensures.value in
    let way = shape_here c.args.family f c.kind.result c.value-payload.result.now c.of.result (Some c.in-Some.shape)
    c.kind.ensures c.value-payload.ensures.value c.in-Some.is c.of.ensures in
    let weighs = rw c.in-Some-measure.is at (rw c.value-payload.ensures.value at c.measure.ensures) in
    let same : c.in-Some-measure.len ≡ length f.payload =
    eqb-true c.in-Some-measure.len (length c.value-payload.result.now) told ∙ payload_is in
    let copied = c.is_copied.ensures c.if-not-is_copied.false in
    let plain = c.has_no_flags.ensures.0 c.if-not-has_no_flags.false in
    own_text c.args.family f c.is_empty_ports.ensures.frame
    (subst (λ n. Weighs (λ v. (attribute_frame v).payload) AttributeFits ((attribute_place c.args.family).reads f)
    (Some n)) same
    (shape_weighs c.args.family f (Some c.in-Some.shape) (Some c.in-Some-measure.len) way c.is_empty_ports.ensures.frame
    weighs))
    (same_text c.args.family f c.is_empty_ports.ensures.frame c.in-Some.shape c.in-Some-measure.len way copied plain
    same weighs)
    (λ none. let wrong : false ≡ true = c.if-is_empty_ports.ensures.told.1 (none.0, payload_is ∙ none.1) in absurd cc)
