-- Contexts that have the same rows, wherever these stand in memory, show a message the same.
use Rattle.std.proofs.Common.{◌≡◌, ℕ, zero, suc, Bool, true, false, List, [], ◌∷◌, ◌++◌, refl, sym, ap, ◌∙◌}
use Rattle.std.specs.Prelude.{◌==◌, ◌&&◌, Option, Some, codes, cond, drop, map, nat_lt, slice_index, take}
use Rattle.std.specs.Int.{w32}
use Rattle.json.specs.Token.{string}
use Rattle.nla_wire.specs.Fields.{signed_at, zero_filled}
use Rattle.nla_wire.specs.Frames.{Frame, number}
use Rattle.nla_wire.specs.Items.{Item as Read, items}
use Rattle.link_info.specs.Lent.{lent, member_now, row_now, style_now}
use Rattle.link_info.specs.Places.{rows_of}
use Rattle.link_info.specs.Tables.{frames_in, row_at}
use Rattle.link_info.specs.declared.place.Place.{Place}
use Rattle.link_info.specs.declared.place.Place.TheVariants as Places
use Rattle.link_info.specs.declared.style.Row.{Row}
use Rattle.link_info.specs.declared.style.Style.{Style}
use Rattle.link_info.specs.declared.style.Style.TheVariants as S
use Rattle.shown.specs.Drafts.{object_of}
use Rattle.shown.specs.Values.{hardware_address, numbered}
use Rattle.frame_shown.specs.Accepted.{accepted, before_members, lenient_members}
use Rattle.frame_shown.specs.Frames.{by_row, entries_in, frame_item, items_in, levels, list_shown, way_shown}
use Rattle.frame_shown.specs.Items.{Item, listed_under, members_of, objects_under}
use Rattle.frame_shown.specs.Messages.{address_len, attribute_members, frames_shown, header_members, message_members}
use Rattle.frame_shown.specs.Messages.{with_address_len}
use Rattle.frame_shown.specs.Plain.{IsPlain, ShownByOrder}
use Rattle.frame_shown.specs.Tables.{Known, entry_list, group_name, is_kept, kind_shown, listed_row, no_row, place_row}
use Rattle.frame_shown.specs.Tables.{is_each, is_listed, lists_in, lists_of, row_in, styled, xstats_row}
use Rattle.frame_shown.specs.Values.{Nesting, field_shown, fields_in, fields_shown, form_shown, hexadecimal}
use Rattle.frame_shown.specs.Values.{ipv6_counters_shown, signed_value}
use Rattle.frame_shown.specs.declared.form.Around.{Around}
use Rattle.frame_shown.specs.declared.form.Field.{Field}
use Rattle.frame_shown.specs.declared.form.Field.TheVariants as Kinds
use Rattle.frame_shown.specs.declared.form.Form.{Form}
use Rattle.frame_shown.specs.declared.form.Form.TheVariants as Forms
use Rattle.frame_shown.specs.declared.form.List.{List as Shape}
use Rattle.frame_shown.specs.declared.form.List.TheVariants as Shapes
use Rattle.frame_shown.specs.declared.form.Order.{Order}
use Rattle.frame_shown.specs.declared.form.Way.{Way}
use Rattle.frame_shown.specs.declared.form.Way.TheVariants as Ways
use Rattle.frame_shown.proofs.PlainStyles.{style_now_same}

-- ** rows as values

abbrev pub way_now : Way → Way
way_now (Ways.Own form) = Ways.Own form
way_now (Ways.By style) = Ways.By (style_now style)

abbrev pub known_now : Known → Known
known_now row = (row.0, way_now row.1)

pub kept_now : (way : Way) (p : List ℕ) → is_kept (way_now way) p ≡ is_kept way p
kept_now (Ways.Own form) p = refl
kept_now (Ways.By style) p = refl

listed_now : (style : Style) → is_listed (style_now style) ≡ is_listed style
listed_now S.Bytes = refl
listed_now _ = refl

pub each_now : (way : Way) → is_each (way_now way) ≡ is_each way
each_now (Ways.Own form) = refl
each_now (Ways.By style) = listed_now style

pub lists_of_now : (rows : List Row) → lists_of (map row_now rows) ≡ lists_of rows
lists_of_now [] = refl
lists_of_now (row ∷ rows) = λ i. cond (listed_now row.2 i) ((row.0, row.1.now) ∷ lists_of_now rows i)
    (lists_of_now rows i)

pub kind_now : (way : Way) (kind : ℕ) → kind_shown (way_now way) kind ≡ kind_shown way kind
kind_now (Ways.Own form) kind = refl
kind_now (Ways.By style) kind = refl

pub way_shown_now : (nest : Nesting) (cx : Around) (way : Way) (p : List ℕ)
    → way_shown nest cx (way_now way) p ≡ way_shown nest cx way p
way_shown_now nest cx (Ways.Own form) p = refl
way_shown_now nest cx (Ways.By style) p = style_now_same nest style p

by_row_now : (nest : Nesting) (cx : Around) (row : Known) (f : Frame)
    → by_row nest cx (known_now row) f ≡ by_row nest cx row f
by_row_now nest cx row f = λ i.
    cond (kept_now row.1 f.payload i) (Item.as_is row.0 (kind_now row.1 f.kind i) f.payload)
    (cond (each_now row.1 i) (Item.each (number f) (way_shown_now nest cx row.1 f.payload i))
    (Item.named (number f) ((row.0, way_shown_now nest cx row.1 f.payload i) ∷ [])))

found_now : (b : Bool) (row : Row) (x y : Option Row) → known_now (styled x) ≡ styled y
    → known_now (styled (cond b (Some row) x)) ≡ styled (cond b (Some (row_now row)) y)
found_now true row x y same = refl
found_now false row x y same = same

pub row_at_now : (all : List Row) (n : ℕ) → known_now (styled (row_at all n)) ≡ styled (row_at (map row_now all) n)
row_at_now [] n = refl
row_at_now (row ∷ all) n = found_now (row.0 == n) row _ _ (row_at_now all n)

either_row : (b : Bool) (x y u v : Known) → known_now x ≡ known_now y → known_now u ≡ known_now v
    → known_now (cond b x u) ≡ known_now (cond b y v)
either_row true x y u v first second = first
either_row false x y u v first second = second

-- ** the same but for where in memory it stands

pub record AreAlike (cx other : Around) : Type 0 where
  pub tables : (place : Place)
      → map row_now (rows_of cx.tables.now place) ≡ map row_now (rows_of other.tables.now place)
  pub counters : map member_now cx.can_stats.now ≡ map member_now other.can_stats.now
  pub order : cx.order ≡ other.order
  pub address : cx.address_len ≡ other.address_len

pub plainly_alike : (order : Order) (cx other : Around) → IsPlain order cx → IsPlain order other → AreAlike cx other
plainly_alike order cx other one two = record {
  tables = λ place. one.tables place ∙ sym (two.tables place);
  counters = one.counters ∙ sym two.counters;
  order = one.order_is ∙ sym two.order_is;
  address = one.address ∙ sym two.address;
}

module _ (cx other : Around) (s : AreAlike cx other) where
  pub with_len_alike : (len : ℕ) → AreAlike (with_address_len cx len) (with_address_len other len)
  with_len_alike len = record { tables = s.tables; counters = s.counters; order = s.order; address = refl }

  placed : (place : Place) (n : ℕ) → known_now (place_row cx place n) ≡ known_now (place_row other place n)
  placed place n =
      row_at_now (rows_of cx.tables.now place) n ∙ ap (λ all. styled (row_at all n)) (s.tables place)
      ∙ sym (row_at_now (rows_of other.tables.now place) n)

  xstats : (link : Option Place) → known_now (xstats_row cx link) ≡ known_now (xstats_row other link)
  xstats (Some Places.Can) = ap (λ ms. (codes "xstats", Ways.By (S.Record (lent ms)))) s.counters
  xstats _ = refl

  listed_same : (list : Shape) (n : ℕ) → known_now (listed_row cx list n) ≡ known_now (listed_row other list n)
  listed_same (Shapes.Of place) n = placed place n
  listed_same Shapes.ProtoInet6 n =
      either_row (n == 2) _ _ _ _ refl (either_row (n == 3) _ _ _ _ refl
      (either_row (n == 6) _ _ _ _ refl (placed Places.Inet6 n)))
  listed_same (Shapes.Info link port) n =
      either_row (n == 1) _ _ _ _ refl (either_row (n == 2) _ _ _ _ refl
      (either_row (n == 3) _ _ _ _ (xstats link) refl))
  listed_same _ n = refl

  pub row_same : (list : Shape) (n : ℕ) → known_now (row_in cx list n) ≡ known_now (row_in other list n)
  row_same list n =
      either_row (nat_lt n 256) (listed_row cx list n) (listed_row other list n) no_row no_row (listed_same list n) refl

  field_same : (kind : Field) (p : List ℕ) (place : ℕ) → field_shown cx kind p place ≡ field_shown other kind p place
  field_same Kinds.Address p place =
      let bytes : List ℕ = zero_filled 32 (drop place p) in
      ap (λ len. cond (nat_lt 0 len && nat_lt len 33) (string (hardware_address (take len bytes)) ∷ [])
      (hexadecimal bytes)) s.address
  field_same _ p place = refl

  pub fields_same : (fields : List (List ℕ × (ℕ × Field))) (p : List ℕ)
      → fields_shown cx fields p ≡ fields_shown other fields p
  fields_same fields p = λ i. map (λ f. (f.0, field_same f.1.1 p f.1.0 i)) fields

  form_same : (nest : Nesting) (form : Form) (p : List ℕ) → form_shown nest cx form p ≡ form_shown nest other form p
  form_same nest Forms.Ipv6Counters p = ap (λ (order : Order). ipv6_counters_shown order p) s.order
  form_same nest (Forms.Record parts) p = ap object_of (fields_same (fields_in parts) p)
  form_same nest (Forms.Field kind) p = field_same kind p 0
  form_same nest _ p = refl

  pub way_same : (nest : Nesting) (way : Way) (p : List ℕ) → way_shown nest cx way p ≡ way_shown nest other way p
  way_same nest (Ways.Own form) p = form_same nest form p
  way_same nest (Ways.By style) p = refl

  by_row_same : (nest : Nesting) (row : Known) (f : Frame) → by_row nest cx row f ≡ by_row nest other row f
  by_row_same nest row f =
      ap (λ tokens. cond (is_kept row.1 f.payload) (Item.as_is row.0 (kind_shown row.1 f.kind) f.payload)
      (cond (is_each row.1) (Item.each (number f) tokens) (Item.named (number f) ((row.0, tokens) ∷ []))))
      (way_same nest row.1 f.payload)

  item_same : (nest : Nesting) (list : Shape) (f : Frame) → frame_item nest cx list f ≡ frame_item nest other list f
  item_same nest list f =
      sym (by_row_now nest cx (row_in cx list (number f)) f)
      ∙ ap (λ (row : Known). by_row nest cx row f) (row_same list (number f))
      ∙ by_row_now nest cx (row_in other list (number f)) f
      ∙ by_row_same nest (row_in other list (number f)) f

  place_lists_same : (place : Place) → lists_in cx (Shapes.Of place) ≡ lists_in other (Shapes.Of place)
  place_lists_same place =
      sym (lists_of_now (rows_of cx.tables.now place)) ∙ ap lists_of (s.tables place)
      ∙ lists_of_now (rows_of other.tables.now place)

  pub lists_same : (list : Shape) → lists_in cx list ≡ lists_in other list
  lists_same (Shapes.Of place) = place_lists_same place
  lists_same Shapes.ProtoInet6 = place_lists_same Places.Inet6
  lists_same _ = refl

  -- ** lists, where lists in them are shown the same

  module _ (nest deep : Nesting) (same : nest ≡ deep) where
    each_same : (list : Shape) (f : Frame) → frame_item nest cx list f ≡ frame_item deep other list f
    each_same list f = ap (λ (x : Nesting). frame_item x cx list f) same ∙ item_same deep list f

    pub items_same : (list : Shape) (xs : List Read) → items_in nest cx list xs ≡ items_in deep other list xs
    items_same list xs = λ i. map (λ f. each_same list f i) (frames_in xs)

    entries_same : (list : Shape) (fs : List Frame) → entries_in nest cx list fs ≡ entries_in deep other list fs
    entries_same list [] = refl
    entries_same list (f ∷ fs) = λ i. cond (number f == 1)
        (members_of (lists_same list i) (items_same list (items f.payload) i) ∷ entries_same list fs i)
        (entries_same list fs i)

    object_same : (list : Shape) (p : List ℕ)
        → object_of (members_of (lists_in cx list) (items_in nest cx list (items p)))
        ≡ object_of (members_of (lists_in other list) (items_in deep other list (items p)))
    object_same list p = λ i. object_of (members_of (lists_same list i) (items_same list (items p) i))

    list_same : (list : Shape) (p : List ℕ) → list_shown nest cx list p ≡ list_shown deep other list p
    list_same (Shapes.Listed group table) p =
        ap (λ xs. object_of (listed_under (group_name group) xs)) (items_same (Shapes.Listed group table) (items p))
    list_same (Shapes.Entries group) p =
        ap (λ es. object_of (objects_under (group_name group) es))
        (entries_same (entry_list group) (frames_in (items p)))
    list_same (Shapes.Message family) p = object_same (Shapes.Message family) p
    list_same (Shapes.Own table) p = object_same (Shapes.Own table) p
    list_same (Shapes.Of place) p = object_same (Shapes.Of place) p
    list_same Shapes.ProtoInet6 p = object_same Shapes.ProtoInet6 p
    list_same (Shapes.Info link port) p = object_same (Shapes.Info link port) p
    list_same Shapes.Refused p = object_same Shapes.Refused p

  pub levels_same : (n : ℕ) (list : Shape) (p : List ℕ) → levels n cx list p ≡ levels n other list p
  levels_same zero list p = refl
  levels_same (suc n) list p =
      list_same (levels n cx) (levels n other) (λ i list p. levels_same n list p i) list p

  frames_same : (family : ℕ) (bytes : List ℕ) → frames_shown cx family bytes ≡ frames_shown other family bytes
  unfolding frames_shown
  frames_same family bytes =
      ap (members_of []) (items_same (levels 5 cx) (levels 5 other) (λ i list p. levels_same 5 list p i)
      (Shapes.Message family) (items bytes))

-- ** messages

module _ (cx other : Around) (s : AreAlike cx other) where
  attributes_same : (family : ℕ) (bytes : List ℕ)
      → attribute_members cx family bytes ≡ attribute_members other family bytes
  attributes_same family bytes =
      let len : ℕ = address_len (frames_in (items bytes)) in
      frames_same (with_address_len cx len) (with_address_len other len) (with_len_alike cx other s len) family bytes

  whole_same : (bytes : List ℕ) → message_members cx bytes ≡ message_members other bytes
  whole_same bytes =
      ap (λ ms. header_members bytes ++ ms) (attributes_same (slice_index bytes 0) (drop 16 bytes))

  accepted_same : (bytes : List ℕ) → lenient_members cx bytes ≡ lenient_members other bytes
  accepted_same bytes =
      let family : ℕ = slice_index bytes 0 in
      ap (λ ms. header_members bytes ++ ms) (attributes_same family (accepted true family (drop 16 bytes)))

  before_same : (bytes : List ℕ) → before_members cx bytes ≡ before_members other bytes
  before_same bytes =
      let family : ℕ = slice_index bytes 0 in
      ap (λ ms. numbered (codes "ifi-family") family ∷ (codes "ifi-index", signed_value (signed_at w32 bytes 4))
      ∷ (codes "before", object_of ms) ∷ []) (attributes_same family (accepted false family (drop 16 bytes)))

pub plain_alike : ShownByOrder
plain_alike order cx other one two =
    let s : AreAlike cx other = plainly_alike order cx other one two in
    record { whole = whole_same cx other s; accepted = accepted_same cx other s; before = before_same cx other s }
