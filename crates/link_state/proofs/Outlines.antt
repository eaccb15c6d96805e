-- What a mask depends on.
use Rattle.std.proofs.Common.{◌≡◌, ℕ, zero, suc, ◌+◌, List, ◌++◌, length, take, drop, replicate, Bool, true, false}
use Rattle.std.proofs.Common.{sym, ap, ap₂, ◌∙◌, ◌-◌}
use Rattle.std.specs.Prelude.{min}
use Rattle.std.proofs.lemmas.List.{length-take, length-drop}
use Rattle.nla_wire.specs.Frames.{number, missing}
use Rattle.nla_wire.specs.Reading.{Step, step}
use Rattle.nla_wire.specs.Reading.Step.{End, Bad, Next}
use Rattle.link_msg.specs.Header.{header_size}
use Rattle.link_state.specs.Table.{Action, action_of}
use Rattle.link_state.specs.Table.Action.{Keep, Clear, ClearPart, Enter, EnterInfo}
use Rattle.link_state.specs.Masks.{part_mask, payload_mask, mask_on, mask_within, mask, same_payload, same_step}
use Rattle.link_state.specs.Masks.{same_frames_within, SameFrames}
use Rattle.link_state.specs.State.{change_mask_at}
use Rattle.link_state.specs.Laws.{MaskByFrames, ListMaskByFrames}
use Rattle.link_state.specs.declared.level.Level.{Level}

module _ (n : ℕ) (same_mask : (level : Level) (b c : List ℕ) → same_frames_within n level b c
    → mask_within n level b ≡ mask_within n level c) where
  payload_by_frames : (action : Action) (p q : List ℕ) → length p ≡ length q
      → same_payload (same_frames_within n) action p q
      → payload_mask (mask_within n) action p ≡ payload_mask (mask_within n) action q
  payload_by_frames Keep p q size same = ap (λ k. replicate k false) size
  payload_by_frames Clear p q size same = ap (λ k. replicate k true) size
  payload_by_frames (ClearPart from to) p q size same = ap (part_mask from to) size
  payload_by_frames (Enter level) p q size same = same_mask level p q same
  payload_by_frames EnterInfo p q size same =
      same_mask _ p q same.1 ∙ ap (λ level. mask_within n level q) same.0

  step_by_frames : (level : Level) (b c : List ℕ) (s t : Step) → length b ≡ length c
      → same_step (same_frames_within n) level s t
      → mask_on (mask_within n) level b s ≡ mask_on (mask_within n) level c t
  step_by_frames level b c End End size same = ap (λ k. replicate k false) size
  step_by_frames level b c (Bad e) (Bad g) size same = ap (λ k. replicate k false) size
  step_by_frames level b c (Next f rest) (Next g later) size same =
      let p = payload_by_frames (action_of level (number f)) f.payload g.payload same.1 same.2
      ∙ ap (λ k. payload_mask (mask_within n) (action_of level k) g.payload) same.0 in
      let padding : length (take (missing (length f.payload)) (drop (4 + length f.payload) b))
      ≡ length (take (missing (length g.payload)) (drop (4 + length g.payload) c)) =
      length-take _ (drop (4 + length f.payload) b) ∙ ap (min (missing (length f.payload))) (length-drop _ b)
      ∙ ap₂ (λ k i. min (missing k) (i - (4 + k))) same.1 size
      ∙ sym (ap (min (missing (length g.payload))) (length-drop _ c))
      ∙ sym (length-take _ (drop (4 + length g.payload) c)) in
      ap₂ (λ (ms : List Bool) (k : ℕ). replicate 4 false ++ ms ++ replicate k false ++ mask_within n level rest)
      p padding
      ∙ ap (λ (ms : List Bool). replicate 4 false ++ payload_mask (mask_within n) (action_of level (number g)) g.payload
      ++ replicate (length (take (missing (length g.payload)) (drop (4 + length g.payload) c))) false ++ ms)
      (same_mask level rest later same.3)
  step_by_frames level b c End (Bad e) size same = absurd same
  step_by_frames level b c End (Next g later) size same = absurd same
  step_by_frames level b c (Bad e) End size same = absurd same
  step_by_frames level b c (Bad e) (Next g later) size same = absurd same
  step_by_frames level b c (Next f rest) End size same = absurd same
  step_by_frames level b c (Next f rest) (Bad e) size same = absurd same

within_by_frames : (n : ℕ) (level : Level) (b c : List ℕ) → same_frames_within n level b c
    → mask_within n level b ≡ mask_within n level c
unfolding mask_within same_frames_within
within_by_frames zero level b c same = ap (λ k. replicate k false) same
within_by_frames (suc n) level b c same =
    step_by_frames n (within_by_frames n) level b c (step b) (step c) same.0 same.1

same_size : (n : ℕ) (level : Level) (b c : List ℕ) → same_frames_within n level b c → length b ≡ length c
unfolding same_frames_within
same_size zero level b c same = same
same_size (suc n) level b c same = same.0

pub list_mask_by_frames : ListMaskByFrames
unfolding mask SameFrames
list_mask_by_frames level b c same =
    within_by_frames (length b) level b c same ∙ ap (λ n. mask_within n level c) (same_size (length b) level b c same)

pub mask_by_frames : MaskByFrames
mask_by_frames s t family same =
    ap (λ (ms : List Bool). replicate change_mask_at false ++ replicate 4 true ++ ms)
    (list_mask_by_frames _ (drop header_size s) (drop header_size t) same
    ∙ ap (λ level. mask level (drop header_size t)) family)
