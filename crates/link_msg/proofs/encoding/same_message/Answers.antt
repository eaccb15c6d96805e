use Rattle.std.proofs.Common.{subst, arith}
use Rattle.nla_wire.proofs.Front.{all_bytes}
use Rattle.link_msg.specs.Prefixes.{IsPrefix}
use Rattle.link_msg.proofs.Comparing.{lengths_compared}
use Rattle.link_msg.proofs.encoding.same_message.Goals as goal

pub returns-then-len-other_len-clause-ok : goal.returns-then-len-other_len-clause-ok
returns-then-len-other_len-clause-ok c =
    let one = c.in_ok-header in
    let other = c.in_ok-other_header in
    lengths_compared c.args.first.now c.args.second.now one.header other.other_header one.rest.now
    other.other_rest.now one.len other.other_len one.ensures.ok other.ensures.ok c.if-len-other_len.true

pub returns-then-other_prefix-other_rest-clause-ok : goal.returns-then-other_prefix-other_rest-clause-ok
returns-then-other_prefix-other_rest-clause-ok c =
    let one = c.in_ok-header in
    let other = c.in_ok-other_header in
    c.same_spelling.ensures c.args.first.now c.args.second.now one.len other.other_len
    (all_bytes c.args.first.now (λ i. omega (arith, c.type_inv.first i)))
    (all_bytes c.args.second.now (λ i. omega (arith, c.type_inv.second i))) one.ensures.ok other.ensures.ok
    (subst (IsPrefix one.header.interface_family one.rest.now) c.if-prefix-rest.true one.ensures.prefix)
    (subst (IsPrefix other.other_header.interface_family other.other_rest.now) c.if-other_prefix-other_rest.true
    other.ensures.prefix)
