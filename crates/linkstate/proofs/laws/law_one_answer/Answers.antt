use Rattle.link_msg.specs.Lenient.{MeansLeniently}
use Rattle.link_msg.specs.Messages.{Means}
use Rattle.link_state.specs.LenientState.{HasLenientState}
use Rattle.link_state.specs.State.{HasState}
use Rattle.line_filter.specs.OneWorded.{one_worded}
use Rattle.message_lines.specs.Answers.{IsAnswer}
use Rattle.message_lines.specs.OneAnswer.{one_answer}
use Rattle.linkstate.specs.OneText.{one_text, one_lenient_text}
use Rattle.linkstate.proofs.laws.law_one_answer.Goals as goal

pub returns-clause-strict : goal.returns-clause-strict
returns-clause-strict c = one_worded (IsAnswer Means HasState) (one_answer Means HasState one_text)

pub returns-clause-lenient : goal.returns-clause-lenient
returns-clause-lenient c =
    one_worded (IsAnswer MeansLeniently HasLenientState) (one_answer MeansLeniently HasLenientState one_lenient_text)
