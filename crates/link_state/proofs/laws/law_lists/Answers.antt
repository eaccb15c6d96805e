use Rattle.link_state.proofs.Outlines.{list_mask_by_frames}
use Rattle.link_state.proofs.Masks.{cleared_twice, zero_at_its_mask, one_list}
use Rattle.link_state.proofs.laws.law_lists.Goals as goal

pub returns : goal.returns
returns c = record {
  twice = cleared_twice;
  zero = zero_at_its_mask;
  frames = list_mask_by_frames;
  one = one_list;
}
