-- What holds of every line.
use Rattle.link_msg.specs.Canonical.{HasText}
use Rattle.link_msg.specs.Messages.{Means}
use Rattle.message_lines.specs.Answers as answers

-- each line has an answer, and no other one
abbrev pub EachHasOneAnswer : Type 0
EachHasOneAnswer = answers.EachHasOneAnswer Means HasText
