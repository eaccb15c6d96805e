use Rattle.link_state.proofs.States.{filled_is_canonical}
use Rattle.link_state.proofs.Masks.{filled_twice, filled_at_its_mask, mask_kept}
use Rattle.link_state.proofs.laws.law_filled.Goals as goal

pub returns : goal.returns
returns c = record {
  twice = filled_twice;
  stamped = filled_at_its_mask;
  stays = mask_kept;
  canonical = filled_is_canonical;
}
