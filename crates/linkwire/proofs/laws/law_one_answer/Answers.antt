use Rattle.link_msg.specs.Canonical.{HasText}
use Rattle.link_msg.specs.Messages.{Means}
use Rattle.message_lines.specs.OneAnswer.{one_answer}
use Rattle.linkwire.specs.OneText.{one_text}
use Rattle.linkwire.proofs.laws.law_one_answer.Goals as goal

pub returns : goal.returns
returns c = one_answer Means HasText one_text
