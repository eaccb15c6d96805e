-- What is told of members beside others, where VLANs beside each other that changed alike are one change.
use Rattle.std.specs.Prelude.{ℕ, List, [], ◌∷◌, ◌++◌, Bool, Option, None, Some, cond, map}
use Rattle.std.specs.List.{flat_map}
use Rattle.json.specs.Token.{Token}
use Rattle.link_vlans.specs.Pieces.{pieces_of, vids_of}
use Rattle.link_vlans.specs.declared.pieces.Piece.{Piece}
use Rattle.link_vlans.specs.declared.run.Run.{Run}
use Rattle.link_vlans.specs.declared.run.Said.{Said}
use Rattle.shown.specs.Drafts.{Members}
use Rattle.frame_diff.specs.Differences.{Change, inside_in, leaf_change, leaf_in, told}
use Rattle.frame_diff.specs.Forests.{Forest, Held, Path, Step, find, runs_inside}
use Rattle.frame_diff.specs.Items.{change_item, is_list, is_loose, path_text, piece_items, texts_items}
use Rattle.frame_diff.specs.Sides.{is_moved}
use Rattle.frame_diff.specs.Vlans.{vlan_inside, vlan_shown, vlan_step}
use Rattle.frame_diff.specs.Wholes.{cut}
use Rattle.frame_diff.specs.declared.side.Side.{Side}
use Rattle.frame_diff.specs.declared.side.Side.TheVariants.{Old, New, Moved}

-- a change; or VLANs of a list at this path of which one side says this, and the other one something else; or a list of
-- texts, which has this value, beside what the other side has there
pub data Told : Type 0 where
  one : Change → Told
  texts : (side : Side) (path : Path) (value : List Token) (values : List (List Token)) (beside : Option Held) → Told
  vlans : (side : Side) (path : Path) (piece : Piece) → Told

-- ** VLAN by VLAN

abbrev pub vlan_told : Side → Path → ℕ → Said → Option Said → List Change
vlan_told side path vid s None = leaf_change side (path ++ vlan_step vid ∷ []) (vlan_shown vid s) None
vlan_told side path vid s (Some b) =
    told side (path ++ vlan_step vid ∷ []) (vlan_inside vid s) (vlan_inside vid b)

abbrev pub apart : Told → List Change
apart (Told.one c) = c ∷ []
apart (Told.texts side path v vs beside) = leaf_change side path v (leaf_in beside)
apart (Told.vlans side path p) = flat_map (λ vid. vlan_told side path vid p.own.said p.beside) (vids_of p.own)

-- ** member by member

abbrev pub runs_told : Side → Path → List Run → List Run → List Told
runs_told side path runs others = cond (is_moved side) [] (map (Told.vlans side path) (pieces_of runs others))

abbrev pub member_by : Side → Path → List Token → Forest → (Forest → List Told) → Option Held → List Told
member_by side path v Forest.none told beside = map Told.one (leaf_change side path v (leaf_in beside))
member_by side path v Forest.passed told beside = []
member_by side path v (Forest.vlans runs) told beside = told (inside_in beside)
member_by side path v (Forest.texts vs) told beside = Told.texts side path v vs beside ∷ []
member_by side path v (Forest.tree a b c d) told beside = told (inside_in beside)

-- a list that both have in another order, or written otherwise
abbrev pub whole_told : Bool → Path → List Token → Option Held → List Told
whole_told loose path v None = []
whole_told loose path v (Some held) = cond loose (map Told.one (leaf_change Old path v (Some held.0))) []

abbrev pub list_told : Side → Path → Step → List Token → Forest → Option Held → List Told
list_told side path s v i beside = cond (is_list s) (cond (is_moved side) (whole_told (is_loose i) path v beside) []) []

-- a value with a label that stands alone is told as a whole
abbrev pub told_by : Side → Path → Forest → Forest → List Told
told_by side path Forest.none others = []
told_by side path Forest.passed others = []
told_by side path (Forest.vlans runs) others = runs_told side path runs (runs_inside others)
told_by side path (Forest.texts vs) others = []
told_by side path (Forest.tree s v i rest) others =
    list_told side (path ++ s ∷ []) s v i (find s others)
    ++ (member_by side (path ++ s ∷ []) v (cut s (find s others) i) (told_by side (path ++ s ∷ []) i) (find s others)
    ++ told_by side path rest others)

abbrev pub both_by : Forest → Forest → List Told
both_by old new = told_by Old [] old new ++ told_by New [] new old

-- where nothing of that is written: lists whose values both have, in another order or written otherwise
abbrev pub moved_by : Forest → Forest → List Told
moved_by old new = told_by Moved [] old new

-- ** as it is written

abbrev pub told_items : Told → List Members
told_items (Told.one c) = change_item c ∷ []
told_items (Told.vlans side path p) = piece_items side (path_text path) p
told_items (Told.texts side path v vs beside) = texts_items side (path_text path) v vs beside
