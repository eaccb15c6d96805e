use Rattle.std.proofs.Common.{◌+◌, ◌-◌, length, take, drop, arith, length-take, length-drop}
use Rattle.std.proofs.lemmas.List.{take_rest}
use Rattle.link_msg.specs.Header.{header_size, header_bytes}
use Rattle.link_msg.specs.Tables.{attribute_place, AttributeFits}
use Rattle.link_msg.specs.Prefixes.{attribute_text}
use Rattle.link_msg.proofs.Prefixes.{prefix_room, prefix_writes}
use Rattle.link_msg.proofs.encoding.write_after_prefix.Goals as goal

pub write_members-requires : goal.write_members-requires
write_members-requires c =
    let d = c.args.rest.now in
    let prefix = c.args.prefix in
    let out = c.args.out.now in
    prefix_room (attribute_place c.args.header.now.interface_family).reads attribute_text AttributeFits d prefix
    c.requires.begins (length out - header_size) c.requires.measured (take (length d - prefix) (drop prefix d))
    (take_rest d prefix) (length (take (length out - (16 + prefix)) (drop (16 + prefix) out)))
    (omega (arith, length-take (length out - (16 + prefix)) (drop (16 + prefix) out), length-drop (16 + prefix) out))

pub returns : goal.returns
returns c =
    let d = c.args.rest.now in
    let prefix = c.args.prefix in
    λ before begun. prefix_writes (attribute_place c.args.header.now.interface_family).reads attribute_text
    AttributeFits
    d prefix c.requires.begins (length c.args.out.now - header_size) c.requires.measured
    (take (length d - prefix) (drop prefix d)) (take_rest d prefix) (header_bytes c.args.header.now) before
    c.args.out.now c.write_members.new.out (16 + prefix) c.write_members.result begun c.write_members.ensures.reads
