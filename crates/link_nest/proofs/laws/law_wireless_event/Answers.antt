use Rattle.std.proofs.Common.{lit≤}
use Rattle.link_nest.specs.WirelessLaws.{wireless_lawful, wireless_length}
use Rattle.link_nest.proofs.laws.law_wireless_event.Goals as goal

pub returns-clause-again : goal.returns-clause-again
returns-clause-again c = λ p v small means. (wireless_lawful 0 (lit≤ tt)).back p v small means tt tt

pub returns-clause-length : goal.returns-clause-length
returns-clause-length c = wireless_length
