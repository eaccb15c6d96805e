use Rattle.link_msg.proofs.ReadingBack.{message_back}
use Rattle.link_msg.proofs.LawProofs.{only_with_ports, same_text, canonical_twice}
use Rattle.link_msg.proofs.laws.law_canonical_twice.Goals as goal

pub returns : goal.returns
returns c = record {
  means_the_same = message_back;
  only_with_ports = only_with_ports;
  same_text = same_text;
  twice = canonical_twice;
}
