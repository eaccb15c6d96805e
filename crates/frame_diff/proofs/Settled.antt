-- What of an entry is shown where it is told as a whole: all of one without attributes.
use Rattle.std.proofs.Common.{◌≡◌, ℕ, Bool, true, false, List, [], ◌∷◌, refl, ap}
use Rattle.nla_wire.specs.Frames.{Frame}
use Rattle.nla_wire.specs.Items.{items}
use Rattle.link_info.specs.Tables.{frames_in}
use Rattle.frame_shown.specs.Frames.{list_shown}
use Rattle.frame_shown.specs.declared.form.List.{List as Shape}
use Rattle.frame_diff.specs.Groups.{list_held}
use Rattle.frame_diff.specs.Members.{is_some}
use Rattle.frame_diff.specs.Settled.{settled, still_of}
use Rattle.frame_diff.specs.Walked.{Holding, Showing}
use Rattle.frame_diff.specs.declared.walk.Attributes.{Attributes}

none_left : (list : Shape) (p : List ℕ) (fs : List Frame) → is_some fs ≡ false → still_of list p fs ≡ p
none_left list p [] none = refl
none_left list p (f ∷ fs) none = absurd cc

pub settled_none : (is_state : Bool) (list : Shape) (p : List ℕ) → is_some (frames_in (items p)) ≡ false
    → settled is_state list p ≡ p
settled_none false list p none = refl
settled_none true list p none = none_left list p (frames_in (items p)) none

pub bare_shown : (nest : Showing) (inner : Holding) (is_state : Bool) (a : Attributes)
    → is_some (frames_in (items a.bytes.now)) ≡ false
    → (list_held nest inner is_state a).0 ≡ list_shown (nest a.around.now) a.around.now a.list a.bytes.now
bare_shown nest inner is_state a none =
    ap (list_shown (nest a.around.now) a.around.now a.list) (settled_none is_state a.list a.bytes.now none)
