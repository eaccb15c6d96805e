use Rattle.std.proofs.Common.{◌≡◌, ◌+◌, ℕ, List, length, drop, ap, subst, arith}
use Rattle.std.proofs.lemmas.List.{take_rest}
use Rattle.nla_wire.specs.Frames.{missing}
use Rattle.nla_wire.specs.Items.{items}
use Rattle.nla_wire.proofs.Bounds.{length-canon}
use Rattle.nla_wire.proofs.Front.{all_bytes}
use Rattle.link_msg.specs.Tables.{attribute_place}
use Rattle.link_msg.specs.Prefixes.{IsPadded, attribute_text, CanBeWritten}
use Rattle.link_msg.proofs.Prefixes.{prefix_starts, prefix_on, prefix_told}
use Rattle.link_msg.proofs.prefix.copied_prefix.Goals as goal

pub loop-item-init : goal.loop-item-init
loop-item-init c =
    let left : c.into_iter-item-iterator.result ≡ items c.args.bytes.now = cc in
    prefix_starts (attribute_place c.args.family).reads attribute_text CanBeWritten c.args.bytes.now
    c.into_iter-item-iterator.result left

pub returns-in_default : goal.returns-in_default
returns-in_default c = prefix_told (attribute_place c.args.family).reads attribute_text CanBeWritten c.args.bytes.now
    c.loop-item.item-iterator c.loop-item.prefix c.loop-item.invariant

pub returns-then-not-is_padded : goal.returns-then-not-is_padded
returns-then-not-is_padded c =
    prefix_told (attribute_place c.args.family).reads attribute_text CanBeWritten c.args.bytes.now
    c.loop-item.item-iterator c.loop-item.prefix c.loop-item.invariant

pub returns : goal.returns
returns c = prefix_told (attribute_place c.args.family).reads attribute_text CanBeWritten c.args.bytes.now
    c.loop-item.item-iterator c.loop-item.prefix c.loop-item.invariant

pub loop-item-preserved : goal.loop-item-preserved
loop-item-preserved c =
    let b = c.args.bytes.now in
    let prefix = c.loop-item.prefix in
    let steps = rw c.in-Ok.is at c.in-Some.ensures.steps in
    let own = c.is_own_encoding.ensures c.if-not-is_own_encoding.false in
    let here : IsPadded (drop prefix b) c.length.result =
    subst (λ (t : List ℕ). IsPadded t c.length.result) (take_rest b prefix)
    (c.is_padded.ensures.0 c.if-not-is_padded.false) in
    let size = ap (λ (t : List ℕ). length t) c.value.ensures.value in
    prefix_on (attribute_place c.args.family).reads attribute_text CanBeWritten b c.loop-item.item-iterator prefix
    c.loop-item.invariant (all_bytes b (λ i. omega (arith, c.type_inv.bytes i))) c.in-Ok.frame c.next.new.self steps
    own.0 own.1 own.2 own.3 (subst (IsPadded (drop prefix b)) c.length.ensures here)
    (prefix + c.padded_len-prefix.result)
    (omega (arith, c.padded_len-prefix.ensures, size, ap missing size, length-canon c.in-Ok.frame))
