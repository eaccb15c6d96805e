use Rattle.link_state.proofs.Outlines.{mask_by_frames}
use Rattle.link_state.proofs.StateLaws.{zero_at_its_mask, mask_stays, one_state}
use Rattle.link_state.proofs.laws.law_mask.Goals as goal

pub returns : goal.returns
returns c = record {
  zero = zero_at_its_mask;
  stays = mask_stays;
  frames = mask_by_frames;
  one = one_state;
}
