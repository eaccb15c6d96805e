-- With the rows of `link_info` the lists that attributes are the values of are these, and no two have one name.
use Rattle.std.proofs.Common.{◌≡◌, refl, sym, ap, ◌∙◌, subst}
use Rattle.link_info.specs.Places.{rows_of}
use Rattle.link_info.specs.Rows.{AreAllRows, own_rows}
use Rattle.link_info.specs.declared.place.Place.{Place}
use Rattle.link_info.specs.declared.place.Place.TheVariants as Places
use Rattle.frame_shown.specs.Lists.{lists_at, place_lists}
use Rattle.frame_shown.specs.Tables.{lists_in, lists_of}
use Rattle.frame_shown.specs.declared.form.Around.{Around}
use Rattle.frame_shown.specs.declared.form.List.{List as Shape}
use Rattle.frame_shown.specs.declared.form.List.TheVariants as Shapes
use Rattle.frame_shown.proofs.Plain.{lists_of_now}
use Rattle.frame_diff.specs.Shown.{AreListsApart}

own_lists : (place : Place) → lists_of (own_rows place) ≡ place_lists place
own_lists Places.Vlan = refl
own_lists _ = refl

own_lists_apart : (place : Place) → AreListsApart (place_lists place)
own_lists_apart Places.VlanQos = (tt, tt)
own_lists_apart Places.MacvlanAddresses = (tt, tt)
own_lists_apart Places.BridgeSpec = ((refl, tt), (tt, tt))
own_lists_apart Places.BridgeMst = (tt, tt)
own_lists_apart _ = tt

at_apart : (list : Shape) → AreListsApart (lists_at list)
at_apart (Shapes.Of place) = own_lists_apart place
at_apart _ = tt

module _ (cx : Around) (all : AreAllRows cx.tables.now) where
  placed_lists : (place : Place) → lists_in cx (Shapes.Of place) ≡ place_lists place
  placed_lists place =
      sym (lists_of_now (rows_of cx.tables.now place)) ∙ ap lists_of (all place) ∙ own_lists place

  pub lists_are : (list : Shape) → lists_in cx list ≡ lists_at list
  lists_are (Shapes.Of place) = placed_lists place
  lists_are Shapes.ProtoInet6 = placed_lists Places.Inet6
  lists_are _ = refl

  pub lists_apart : (list : Shape) → AreListsApart (lists_in cx list)
  lists_apart list = subst AreListsApart (sym (lists_are list)) (at_apart list)
