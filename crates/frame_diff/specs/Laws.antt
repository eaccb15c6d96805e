-- What is told of members beside others is what differs between the leaves of both.
use Rattle.std.specs.Prelude.{◌≡◌, ℕ, Bool, true, false, List, [], ◌∷◌, Some}
use Rattle.std.specs.List.{flat_map}
use Rattle.nla_wire.specs.Frames.{Frame, number}
use Rattle.frame_shown.specs.Tables.{is_each, row_in}
use Rattle.frame_shown.specs.declared.form.Around.{Around}
use Rattle.frame_shown.specs.declared.form.List.{List as Shape}
use Rattle.frame_diff.specs.Beside.{held_of}
use Rattle.frame_diff.specs.Counters.{action_at, action_in, is_clear, is_passed, level_in}
use Rattle.frame_diff.specs.Differences.{Change, both_told, changes, is_told, path_of, told}
use Rattle.frame_diff.specs.Forests.{AreApart, Forest, Path, Step, leaves}
use Rattle.frame_diff.specs.Items.{items_told, path_text}
use Rattle.frame_diff.specs.Members.{Parts, Reading, frame_member, is_unnamed, message_forest, message_made}
use Rattle.frame_diff.specs.Members.{value_with, way_inside}
use Rattle.frame_diff.specs.Ranges.{Told, apart, both_by, moved_by, told_by, told_items}
use Rattle.frame_diff.specs.Wholes.{between, opened, wholes}
use Rattle.frame_diff.specs.declared.message.Asked.{Asked}
use Rattle.frame_diff.specs.declared.message.Asked.TheVariants as Askeds
use Rattle.frame_diff.specs.declared.side.Side.{Side}

abbrev pub WhatDiffersIsTold : Type 0
WhatDiffersIsTold = (old new : Forest) → AreApart old → AreApart new
    → both_told old new ≡ changes (leaves old) (leaves new)

-- no path comes twice
abbrev pub AreOnce : List Change → Type 0
AreOnce [] = Unit {0}
AreOnce (c ∷ cs) = (is_told cs (path_of c) ≡ false) × AreOnce cs

abbrev pub EachIsToldOnce : Type 0
EachIsToldOnce = (old new : Forest) → AreApart old → AreApart new → AreOnce (both_told old new)

-- members that are the same in both tell nothing
abbrev pub SameIsSilent : Type 0
SameIsSilent = (side : Side) (path : Path) (f : Forest) → AreApart f → told side path f f ≡ []

-- so it is written: VLANs beside each other that changed alike as one change
abbrev pub ItemsAreChanges : Type 0
ItemsAreChanges = (side : Side) (path : Path) (f g : Forest)
    → items_told side (path_text path) f g ≡ flat_map told_items (told_by side path f g)

-- leaf by leaf, what is told of two is what differs between the leaves of both
abbrev pub WholesAreLeaves : Type 0
WholesAreLeaves = (old new : Forest) → AreApart old → AreApart new
    → flat_map (opened old new) (between old new) ≡ changes (leaves old) (leaves new)

-- ** of messages

-- what is told of two messages, or of two states: the order of the counters of IPv6 may be known of each
abbrev pub messages_told : Bool → Around → Around → Parts → Parts → List Change
messages_told is_state cx other old new =
    between (message_forest is_state cx old) (message_forest is_state other new)

-- as it is written
abbrev pub messages_by : Bool → Around → Around → Parts → Parts → List Told
messages_by is_state cx other old new =
    both_by (message_made is_state cx old) (message_made is_state other new)

-- lists whose values both have in another order, or written otherwise
abbrev pub messages_moved : Bool → Around → Around → Parts → Parts → List Told
messages_moved is_state cx other old new =
    moved_by (message_made is_state cx old) (message_made is_state other new)

abbrev pub messages_asked : Asked → Bool → Around → Around → Parts → Parts → List Told
messages_asked Askeds.Changes is_state cx other old new = messages_by is_state cx other old new
messages_asked Askeds.Moved is_state cx other old new = messages_moved is_state cx other old new

-- VLAN by VLAN, what is written of two messages is what is told of them
abbrev pub RangesAreChanges : Type 0
RangesAreChanges = (is_state : Bool) (cx other : Around) (old new : Parts)
    → flat_map apart (messages_by is_state cx other old new) ≡ messages_told is_state cx other old new

abbrev pub is_empty : {X : Type 0} → List X → Bool
is_empty [] = true
is_empty (x ∷ xs) = false

-- nothing is written of two messages where nothing is told of them; and where neither that is written nor a list in
-- another order, nothing is told
pub record WrittenIsTold : Type 0 where
  pub silent : (is_state : Bool) (cx other : Around) (old new : Parts)
      → messages_told is_state cx other old new ≡ [] → flat_map told_items
      (messages_by is_state cx other old new) ≡ []
  pub moved : (is_state : Bool) (cx other : Around) (old new : Parts)
      → flat_map told_items (messages_by is_state cx other old new) ≡ []
      → flat_map told_items (messages_moved is_state cx other old new) ≡ []
      → messages_told is_state cx other old new ≡ []

-- it is what differs between all leaves of both, where a value with a label that stands alone is a leaf; leaf by leaf
-- it is what differs between all leaves; and each path is told once
pub record MessagesAreTold : Type 0 where
  pub all : (is_state : Bool) (cx other : Around) (old new : Parts)
      → let f = message_forest is_state cx old in let g = message_forest is_state other new in
      messages_told is_state cx other old new ≡ changes (leaves (wholes f g)) (leaves (wholes g f))
  pub by_leaves : (is_state : Bool) (cx other : Around) (old new : Parts)
      → let f = message_forest is_state cx old in let g = message_forest is_state other new in
      flat_map (opened f g) (messages_told is_state cx other old new) ≡ changes (leaves f) (leaves g)
  pub once : (is_state : Bool) (cx other : Around) (old new : Parts)
      → AreOnce (messages_told is_state cx other old new)
  pub silent : (is_state : Bool) (cx : Around) (m : Parts) → messages_told is_state cx cx m m ≡ []

-- an attribute is passed over exactly where the table clears its number, and then only of a state: it has its place,
-- and no leaf
pub record CountersArePassed : Type 0 where
  pub member : (r : Reading) (list : Shape) (f : Frame)
      → is_unnamed (row_in r.around list (number f)).1 f.payload ≡ false
      → frame_member r list f ≡ (Step.name (row_in r.around list (number f)).0, held_of r list f) ∷ []
  pub value : (r : Reading) (list : Shape) (f : Frame) → is_each (row_in r.around list (number f)).1 ≡ true
      → value_with r list (number f) f ≡ Some (held_of r list f) ∷ []
  pub passed : (r : Reading) (list : Shape) (f : Frame) → is_passed r.is_state list (number f) ≡ true
      → (held_of r list f).1 ≡ Forest.passed
  pub told : (r : Reading) (list : Shape) (f : Frame) → is_passed r.is_state list (number f) ≡ false
      → (held_of r list f).1 ≡ way_inside r.inner r.around (action_in r.is_state list (number f))
      (row_in r.around list (number f)).1 f.payload
  pub whole : (list : Shape) (n : ℕ) → is_passed false list n ≡ false
  pub state : (list : Shape) (n : ℕ) → is_passed true list n ≡ is_clear (action_at (level_in list) n)
