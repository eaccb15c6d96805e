-- Frames that are kept in order, up to a fault.
use Rattle.std.proofs.Common.{◌≡◌, List, [], ◌∷◌, ◌++◌, map, Ok, Err, true, false, refl, ap, sym, ◌∙◌}
use Rattle.nla_wire.specs.Frames.{Frame}
use Rattle.nla_wire.specs.Items.{Item}
use Rattle.nla_wire.specs.declared.error.Cause.{Cause}
use Rattle.link_info.specs.Styles.{are_frames}
use Rattle.link_info.specs.Tables.{frames_in}

no_frames : (fs : List Frame) (c : Cause) (xs : List Item) → are_frames (map (λ f. Ok f) fs ++ Err c ∷ xs) ≡ false
no_frames [] c xs = refl
no_frames (f ∷ fs) c xs = no_frames fs c xs

-- frames that are followed by a fault are not whole
pub not_whole : (fs : List Frame) (c : Cause) (left xs all : List Item) → map (λ f. Ok f) fs ++ left ≡ all
    → left ≡ Err c ∷ xs → are_frames all ≡ false
not_whole fs c left xs all e is =
    ap are_frames (sym e) ∙ ap (λ (ys : List Item). are_frames (map (λ f. Ok f) fs ++ ys)) is ∙ no_frames fs c xs

-- items without a fault are their frames
pub whole_frames : (xs : List Item) → are_frames xs ≡ true → xs ≡ map (λ f. Ok f) (frames_in xs)
whole_frames [] h = refl
whole_frames ((Ok f) ∷ xs) h = ap (λ (ys : List Item). Ok f ∷ ys) (whole_frames xs h)
whole_frames ((Err c) ∷ xs) h = absurd (cc h)
