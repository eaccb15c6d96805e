-- What frames are shown as, by the rows of their numbers.
use Rattle.std.specs.Prelude.{ℕ, zero, suc, Bool, cond, ◌==◌, List, [], ◌∷◌, map, nat_lt}
use Rattle.json.specs.Token.{Token}
use Rattle.nla_wire.specs.Frames.{Frame, number}
use Rattle.nla_wire.specs.Items.{Item as Read, items}
use Rattle.link_info.specs.Tables.{frames_in}
use Rattle.link_info.specs.declared.style.Style.{Style}
use Rattle.shown.specs.Drafts.{Members, object_of}
use Rattle.frame_shown.specs.declared.form.Around.{Around}
use Rattle.frame_shown.specs.declared.form.List.{List as Shape}
use Rattle.frame_shown.specs.declared.form.List.TheVariants as Shapes
use Rattle.frame_shown.specs.declared.form.Way.{Way}
use Rattle.frame_shown.specs.declared.form.Way.TheVariants as Ways
use Rattle.frame_shown.specs.Items.{Item, are_any, earlier_ones, members_of, listed_under, objects_under}
use Rattle.frame_shown.specs.Tables.{Known, entry_list, group_name, is_each, is_kept, kind_shown, lists_in, row_in}
use Rattle.frame_shown.specs.Values.{Nesting, form_shown, hexadecimal, style_shown}

abbrev pub way_shown : Nesting → Around → Way → List ℕ → List Token
way_shown nest cx (Ways.Own form) p = form_shown nest cx form p
way_shown nest cx (Ways.By style) p = style_shown nest style p

-- a frame, by the row of its number: kept, a value of a list, or under its name
abbrev pub by_row : Nesting → Around → Known → Frame → Item
by_row nest cx row f = cond (is_kept row.1 f.payload) (Item.as_is row.0 (kind_shown row.1 f.kind) f.payload)
    (cond (is_each row.1) (Item.each (number f) (way_shown nest cx row.1 f.payload))
    (Item.named (number f) ((row.0, way_shown nest cx row.1 f.payload) ∷ [])))

abbrev pub frame_item : Nesting → Around → Shape → Frame → Item
frame_item nest cx list f = by_row nest cx (row_in cx list (number f)) f

-- all frames of a list
abbrev pub items_in : Nesting → Around → Shape → List Read → List Item
items_in nest cx list xs = map (frame_item nest cx list) (frames_in xs)

-- a frame by its number alone, where that can have a row
abbrev pub by_number : Frame → Item
by_number f = cond (nat_lt (number f) 256) (Item.named (number f) []) (Item.as_is [] 0 [])

-- whether a number that can have a row stands twice
abbrev pub are_twice : List Read → Bool
are_twice xs = are_any (earlier_ones (map by_number (frames_in xs)))

-- the objects in the attributes of number 1
abbrev pub entries_in : Nesting → Around → Shape → List Frame → List Members
entries_in nest cx list [] = []
entries_in nest cx list (f ∷ fs) = cond (number f == 1)
    (members_of (lists_in cx list) (items_in nest cx list (items f.payload)) ∷ entries_in nest cx list fs)
    (entries_in nest cx list fs)

-- what the payloads of the attributes of a number are shown as by a style
abbrev pub values_by : Nesting → Style → ℕ → List Frame → List (List Token)
values_by nest style n [] = []
values_by nest style n (f ∷ fs) = cond (number f == n)
    (style_shown nest style f.payload ∷ values_by nest style n fs) (values_by nest style n fs)

-- a list of attributes
abbrev pub list_shown : Nesting → Around → Shape → List ℕ → List Token
list_shown nest cx (Shapes.Listed group table) p =
    object_of (listed_under (group_name group) (items_in nest cx (Shapes.Listed group table) (items p)))
list_shown nest cx (Shapes.Entries group) p =
    object_of (objects_under (group_name group) (entries_in nest cx (entry_list group) (frames_in (items p))))
list_shown nest cx list p = object_of (members_of (lists_in cx list) (items_in nest cx list (items p)))

-- so many levels deep, and below these their bytes
abbrev pub levels : ℕ → Around → Nesting
levels zero cx list p = hexadecimal p
levels (suc n) cx list p = list_shown (levels n cx) cx list p
