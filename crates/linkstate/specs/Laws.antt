-- What holds of every line.
use Rattle.link_msg.specs.Lenient.{MeansLeniently}
use Rattle.link_msg.specs.Messages.{Means}
use Rattle.link_state.specs.LenientState.{HasLenientState}
use Rattle.link_state.specs.State.{HasState}
use Rattle.line_filter.specs.Lines as filter
use Rattle.linkstate.specs.Lines.{IsAnswer}

-- each line has an answer, and no other one; and so with `--lenient`
abbrev pub EachHasOneAnswer : Type 0
EachHasOneAnswer = filter.EachHasOneAnswer (IsAnswer Means HasState)

abbrev pub EachHasOneLenientAnswer : Type 0
EachHasOneLenientAnswer = filter.EachHasOneAnswer (IsAnswer MeansLeniently HasLenientState)
