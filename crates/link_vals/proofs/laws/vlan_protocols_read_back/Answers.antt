use Rattle.link_vals.proofs.Numbers.{vlan_protocol_again, vlan_protocol_unlisted}
use Rattle.link_vals.proofs.laws.vlan_protocols_read_back.Goals as goal

pub returns-clause-named : goal.returns-clause-named
returns-clause-named c = vlan_protocol_again

pub returns-clause-unlisted : goal.returns-clause-unlisted
returns-clause-unlisted c = vlan_protocol_unlisted
