-- What is told, as it is written: an object for each change, with its path, the old value and the new one.
use Rattle.std.specs.Prelude.{ℕ, List, [], ◌∷◌, ◌++◌, ◌&&◌, Bool, true, false, Option, Some, None, codes, cond, decimal}
use Rattle.std.specs.Prelude.{nat_lt, option_map}
use Rattle.std.specs.List.{flat_map}
use Rattle.json.specs.Token.{Token, string}
use Rattle.shown.specs.Drafts.{Members}
use Rattle.frame_diff.specs.Differences.{Change, inside_in, is_shown_same, leaf_in}
use Rattle.frame_diff.specs.Forests.{Forest, Held, Path, Step, find, is_label, runs_inside}
use Rattle.frame_diff.specs.Labels.{label_text}
use Rattle.frame_diff.specs.Sides.{is_moved, side_name}
use Rattle.frame_diff.specs.Texts.{left_over}
use Rattle.frame_diff.specs.Vlans.{flags_shown, range_text, run_shown}
use Rattle.frame_diff.specs.Wholes.{cut}
use Rattle.frame_shown.specs.Values.{number_tokens}
use Rattle.link_vlans.specs.Pieces.{pieces_of}
use Rattle.link_vlans.specs.Runs.{id_at}
use Rattle.link_vlans.specs.declared.pieces.Piece.{Piece}
use Rattle.link_vlans.specs.declared.run.Run.{Run}
use Rattle.link_vlans.specs.declared.run.Said.{Said}
use Rattle.frame_diff.specs.declared.side.Side.{Side}
use Rattle.frame_diff.specs.declared.side.Side.TheVariants.{Old, New, Moved}

-- ** paths

abbrev pub step_text : Step → List ℕ
step_text (Step.name text) = text
step_text (Step.array text) = text
step_text (Step.part sort text) = text
step_text (Step.place n) = decimal n
step_text (Step.label name label) = label_text name label
step_text Step.repeated = codes "repeated"
step_text Step.other = codes "other"

-- with a point between steps
abbrev pub joined : List ℕ → List ℕ → List ℕ
joined [] step = step
joined (x ∷ text) step = (x ∷ text) ++ 46 ∷ step

abbrev pub further : List ℕ → Step → List ℕ
further text s = cond (is_label s) (text ++ step_text s) (joined text (step_text s))

-- the text of a path that goes on from another one
abbrev pub text_behind : List ℕ → Path → List ℕ
text_behind text [] = text
text_behind text (s ∷ path) = text_behind (further text s) path

abbrev pub path_text : Path → List ℕ
path_text path = text_behind [] path

-- ** changes

abbrev pub alone_item : List ℕ → Side → List Token → Members
alone_item text side v = (codes "path", string text ∷ []) ∷ (side_name side, v) ∷ []

abbrev pub turned_item : List ℕ → List Token → List Token → Members
turned_item text was is = (codes "path", string text ∷ []) ∷ (codes "old", was) ∷ (codes "new", is) ∷ []

abbrev pub change_item : Change → Members
change_item (Change.came path value) = alone_item (path_text path) New value
change_item (Change.went path value) = alone_item (path_text path) Old value
change_item (Change.turned path was is) = turned_item (path_text path) was is

-- ** as they are told member by member, behind the text of a path

-- a value is shown as the one beside it, or what turned is told of the old one, or lists in another order alone are
-- told
abbrev pub is_leaf_untold : Side → List Token → Option (List Token) → Bool
is_leaf_untold side v None = is_moved side
is_leaf_untold Old v (Some w) = is_shown_same v w
is_leaf_untold New v (Some w) = true
is_leaf_untold Moved v (Some w) = true

abbrev pub leaf_item : Side → List ℕ → List Token → Option (List Token) → Members
leaf_item side text v None = alone_item text side v
leaf_item side text v (Some w) = turned_item text v w

-- a value that one side alone has
abbrev pub alone_items : Side → List ℕ → List Token → List Members
alone_items side text v = cond (is_moved side) [] (alone_item text side v ∷ [])

abbrev pub leaf_items : Side → List ℕ → List Token → Option (List Token) → List Members
leaf_items side text v None = alone_items side text v
leaf_items Old text v (Some w) = cond (is_shown_same v w) [] (turned_item text v w ∷ [])
leaf_items New text v (Some w) = []
leaf_items Moved text v (Some w) = []

-- of a list of texts each one, where the other side has fewer of it; where both have the same ones, and nothing else is
-- told, the list as a whole
abbrev pub each_items : Side → List ℕ → List (List Token) → List Members
each_items side text vs = flat_map (λ v. leaf_items side (text ++ codes "[]") v None) vs

abbrev pub texts_by : Side → List ℕ → List Token → List (List Token) → List Token → List (List Token) → List Members
texts_by side text v vs w ws =
    cond (is_moved side) (turned_item text v w ∷ []) (each_items side text (left_over ws vs))

-- an empty list is told as it is
abbrev pub alone_texts : Side → List ℕ → List Token → List (List Token) → Option (List Token) → List Members
alone_texts side text v vs (Some w) = leaf_items side text v (Some w)
alone_texts side text v [] None = leaf_items side text v None
alone_texts side text v (x ∷ xs) None = each_items side text (x ∷ xs)

abbrev pub texts_items : Side → List ℕ → List Token → List (List Token) → Option Held → List Members
texts_items side text v vs (Some (w, Forest.texts ws)) =
    cond (is_shown_same v w) [] (texts_by side text v vs w ws)
texts_items side text v vs None = alone_texts side text v vs None
texts_items side text v vs (Some (w, Forest.none)) = alone_texts side text v vs (Some w)
texts_items side text v vs (Some (w, Forest.passed)) = alone_texts side text v vs None
texts_items side text v vs (Some (w, Forest.vlans runs)) = alone_texts side text v vs None
texts_items side text v vs (Some (w, Forest.tree a b c d)) = alone_texts side text v vs None

abbrev pub member_items : Side → List ℕ → List Token → Forest → (Forest → List Members) → Option Held → List Members
member_items side text v Forest.none items beside = leaf_items side text v (leaf_in beside)
member_items side text v Forest.passed items beside = []
member_items side text v (Forest.vlans runs) items beside = items (inside_in beside)
member_items side text v (Forest.texts vs) items beside = texts_items side text v vs beside
member_items side text v (Forest.tree a b c d) items beside = items (inside_in beside)

-- of VLANs as one change: each beside what the other one says of them
abbrev pub id_items : Side → List ℕ → Option ℕ → Option ℕ → List Members
id_items side text None other = []
id_items side text (Some id) other =
    leaf_items side (joined text (codes "id")) (number_tokens id) (option_map number_tokens other)

abbrev pub vlan_items : Side → List ℕ → ℕ → Said → Said → List Members
vlan_items side text vid s b = id_items side text (id_at vid s.ahead) (id_at vid b.ahead)
    ++ leaf_items side (joined text (codes "flags")) (flags_shown s.flags) (Some (flags_shown b.flags))

abbrev pub piece_items_by : Side → List ℕ → Run → Option Said → List Members
piece_items_by side text r None = alone_item text side (run_shown r) ∷ []
piece_items_by side text r (Some b) = vlan_items side text r.first r.said b

abbrev pub piece_items : Side → List ℕ → Piece → List Members
piece_items side text p = piece_items_by side (text ++ range_text p.own) p.own p.beside

abbrev pub runs_items : Side → List ℕ → List Run → List Run → List Members
runs_items side text runs others = cond (is_moved side) [] (flat_map (piece_items side text) (pieces_of runs others))

-- ** lists in another order

-- a step to a list of values
abbrev pub is_list : Step → Bool
is_list (Step.array text) = true
is_list (Step.part sort text) = nat_lt 0 sort && nat_lt sort 4
is_list Step.other = true
is_list (Step.name text) = false
is_list (Step.place n) = false
is_list (Step.label name label) = false
is_list Step.repeated = false

-- values that are told by what they say, and not by their places
abbrev pub is_loose : Forest → Bool
is_loose Forest.none = false
is_loose Forest.passed = false
is_loose (Forest.vlans []) = false
is_loose (Forest.vlans (r ∷ rs)) = true
is_loose (Forest.texts vs) = false
is_loose (Forest.tree s v i rest) = is_label s

-- such a list that both have, where they write it otherwise, as a whole
abbrev pub whole_items : Bool → List ℕ → List Token → Option Held → List Members
whole_items loose text v None = []
whole_items loose text v (Some held) = cond loose (leaf_items Old text v (Some held.0)) []

abbrev pub moved_items : Side → List ℕ → List Token → Forest → Option Held → List Members
moved_items side text v i beside = cond (is_moved side) (whole_items (is_loose i) text v beside) []

abbrev pub list_items : Side → List ℕ → Step → List Token → Forest → Option Held → List Members
list_items side text s v i beside = cond (is_list s) (moved_items side text v i beside) []

-- ** what members tell

-- a value with a label that stands alone is told as a whole
abbrev pub items_told : Side → List ℕ → Forest → Forest → List Members
items_told side text Forest.none others = []
items_told side text Forest.passed others = []
items_told side text (Forest.vlans runs) others = runs_items side text runs (runs_inside others)
items_told side text (Forest.texts vs) others = []
items_told side text (Forest.tree s v i rest) others =
    (list_items side (further text s) s v i (find s others)
    ++ member_items side (further text s) v (cut s (find s others) i) (items_told side (further text s) i)
    (find s others)) ++ items_told side text rest others
