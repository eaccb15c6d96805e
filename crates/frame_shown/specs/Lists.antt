-- Which attributes are values of lists.
use Rattle.std.specs.Prelude.{◌≡◌, ℕ, ◌==◌, [], ◌∷◌, Bool, true, false, codes}
use Rattle.std.specs.List.{list_any}
use Rattle.link_info.specs.declared.place.Place.{Place}
use Rattle.link_info.specs.declared.place.Place.TheVariants as Places
use Rattle.frame_shown.specs.Items.{Lists}
use Rattle.frame_shown.specs.Plain.{IsPlain}
use Rattle.frame_shown.specs.Tables.{is_each, lists_in, row_in}
use Rattle.frame_shown.specs.declared.form.Around.{Around}
use Rattle.frame_shown.specs.declared.form.List.{List as Shape}
use Rattle.frame_shown.specs.declared.form.List.TheVariants as Shapes
use Rattle.frame_shown.specs.declared.form.Order.{Order}
use Rattle.frame_shown.specs.declared.list.left.Left.{Left}
use Rattle.frame_shown.specs.declared.list.left.Left.TheVariants as Lefts
use Rattle.frame_shown.specs.declared.list.left.Said.{Said}
use Rattle.frame_shown.specs.declared.list.left.Said.TheVariants as Saids

-- an attribute is kept as it is, or is a value of a list
abbrev pub said_kept : Said → Bool
said_kept Saids.Named = false
said_kept Saids.Kept = true
said_kept Saids.Value = false

abbrev pub said_value : Said → Bool
said_value Saids.Named = false
said_value Saids.Kept = false
said_value Saids.Value = true

-- of attributes there is one that is kept as it is, or one that is a value of a list
abbrev pub left_kept : Left → Bool
left_kept Lefts.Nothing = false
left_kept Lefts.Kept = true
left_kept Lefts.Values = false
left_kept Lefts.Both = true

abbrev pub left_value : Left → Bool
left_value Lefts.Nothing = false
left_value Lefts.Kept = false
left_value Lefts.Values = true
left_value Lefts.Both = true

-- the number and the name of each list of a place
abbrev pub place_lists : Place → Lists
place_lists Places.VlanQos = (1, codes "mapping") ∷ []
place_lists Places.MacvlanAddresses = (4, codes "macaddr") ∷ []
place_lists Places.BridgeSpec = (2, codes "vlan-info") ∷ (3, codes "vlan-tunnel-info") ∷ []
place_lists Places.BridgeMst = (1, codes "entry") ∷ []
place_lists _ = []

abbrev pub lists_at : Shape → Lists
lists_at (Shapes.Of place) = place_lists place
lists_at _ = []

-- whether one is of this number
abbrev pub has_list : ℕ → Lists → Bool
has_list n lists = list_any (λ l. l.0 == n) lists

pub record ListsAreThese : Type 0 where
  -- by the rows of each place they are these
  pub these : (order : Order) (cx : Around) → IsPlain order cx → (list : Shape) → lists_in cx list ≡ lists_at list
  -- and the attributes of these numbers are values
  pub values : (order : Order) (cx : Around) → IsPlain order cx → (list : Shape) (n : ℕ)
      → has_list n (lists_at list) ≡ true → is_each (row_in cx list n).1 ≡ true
  -- by any rows each attribute that is a value is one of a list
  pub has : (cx : Around) (list : Shape) (n : ℕ) → is_each (row_in cx list n).1 ≡ true
      → has_list n (lists_in cx list) ≡ true
