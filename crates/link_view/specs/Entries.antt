-- Lists of entries over borrowed bytes: of virtual functions, and of ports.
use Rattle.std.specs.Prelude.{◌≡◌, ℕ, Bool, true, List, ◌∷◌, ◌++◌, filter, Result, Ok, Err}
use Rattle.nla_wire.specs.Frames.{Frame}
use Rattle.nla_wire.specs.Grammar.{Grammar, as_a, list, is_one}
use Rattle.nla_wire.specs.Items.{Item}
use Rattle.nla_wire.specs.declared.error.Cause.{Cause}
use Rattle.link_view.specs.Told.{all_read}

-- what `parse` reads of an entry's payload that is not empty: the entry with these members, or a fault
abbrev pub owned_entry : {V A : Type 0} → (List V → A) → Grammar Frame V → List ℕ → Result A Cause
owned_entry wrap member p = (as_a wrap (list member)).reads p

-- a frame with the number 1, or a fault
abbrev pub is_picked : Item → Bool
is_picked (Ok f) = is_one f
is_picked (Err c) = true

-- the items without frames of other numbers, which are dropped unread
abbrev pub picked_items : List Item → List Item
picked_items xs = filter is_picked xs

-- values, and then this fault
abbrev pub FaultAfter : {A : Type 0} → Cause → List (Result A Cause) → Type 0
FaultAfter {A} c rs = (vs : List A) × (more : List (Result A Cause)) × (rs ≡ all_read vs ++ Err c ∷ more)
