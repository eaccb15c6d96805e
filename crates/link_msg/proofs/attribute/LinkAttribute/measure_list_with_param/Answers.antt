use Rattle.std.proofs.Common.{◌-◌, length, take, drop, arith}
use Rattle.std.proofs.lemmas.List.{take_rest}
use Rattle.link_msg.proofs.EmptyPorts.{prefix_some, prefix_none, prefix_long}
use Rattle.link_msg.proofs.attribute.LinkAttribute.measure_list_with_param.Goals as goal

pub returns-in_default : goal.returns-in_default
returns-in_default c =
    let b = c.args.bytes.now in
    let prefix = c.copied_prefix-prefix.result in
    prefix_none c.args.family b prefix c.copied_prefix-prefix.ensures (take (length b - prefix) (drop prefix b))
    (take_rest b prefix)
    c.in_default.ensures

pub returns-in_default-add_len : goal.returns-in_default-add_len
returns-in_default-add_len c =
    let b = c.args.bytes.now in
    let prefix = c.copied_prefix-prefix.result in
    prefix_long c.args.family b prefix c.copied_prefix-prefix.ensures (take (length b - prefix) (drop prefix b))
    (take_rest b prefix)
    c.in-Some.after c.in-Some.empty c.in-Some.ensures c.in_default-add_len.ensures

pub returns : goal.returns
returns c =
    let b = c.args.bytes.now in
    let prefix = c.copied_prefix-prefix.result in
    prefix_some c.args.family b prefix c.copied_prefix-prefix.ensures (take (length b - prefix) (drop prefix b))
    (take_rest b prefix)
    c.in-Some.after c.in-Some.empty c.in-Some.ensures c.in-Some-add_len.len c.in-Some-add_len.ensures.1
    (omega (arith, c.in-Some-add_len.ensures.0, c.in-Some-add_len.ensures.1))
