use Rattle.link_state.proofs.LenientStates.{lenient_state_is_canonical, lenient_filled_is_canonical, strict_state_stays}
use Rattle.link_state.proofs.laws.law_lenient_state.Goals as goal

pub returns : goal.returns
returns c = record {
  canonical = lenient_state_is_canonical;
  filled = lenient_filled_is_canonical;
  strict = strict_state_stays;
}
