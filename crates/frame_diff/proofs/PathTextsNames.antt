-- The name of each row is that of no other step, and says what its attribute holds: by computation over the rows.
use Rattle.std.proofs.Common.{◌≡◌, ℕ, zero, suc, Bool, true, false, List, [], ◌∷◌, refl, sym, ap, ◌∙◌, map, get_or}
use Rattle.std.proofs.Common.{subst}
use Rattle.std.proofs.lemmas.Bool.{and_from, and_parts}
use Rattle.std.specs.Prelude.{Option, Some, None, ◌==◌, ◌&&◌, ◌||◌, codes, cond, nat_lt, option_and_then}
use Rattle.std.specs.List.{find, list_all}
use Rattle.link_info.specs.Lent.{row_now, style_now}
use Rattle.link_info.specs.Places.{Kind, kinds, place_in, place_of_kind, place_of_slave_kind, rows_of, slave_kinds}
use Rattle.link_info.specs.Rows.{AreAllRows, own_rows}
use Rattle.link_info.specs.Tables.{row_at, frames_in}
use Rattle.link_info.specs.declared.place.Place.{Place}
use Rattle.link_info.specs.declared.place.Place.TheVariants as Places
use Rattle.link_info.specs.declared.style.Row.{Row}
use Rattle.link_info.specs.declared.style.Element.TheVariants as E
use Rattle.link_info.specs.declared.style.Style.{Style}
use Rattle.link_info.specs.declared.style.Style.TheVariants as S
use Rattle.frame_shown.specs.Tables.{Known, Rows, af_spec_form, info_row, listed_row, message_row, nest_row, lists_in}
use Rattle.frame_shown.specs.Tables.{place_row}
use Rattle.frame_shown.specs.Tables.{no_row, proto_inet6_row, proto_info_form, refused_row, row_by, row_found, row_in}
use Rattle.frame_shown.specs.Tables.{rows_in, styled, xstats_row}
use Rattle.frame_shown.specs.Items.{Lists}
use Rattle.frame_shown.specs.Lists.{lists_at, place_lists}
use Rattle.frame_shown.proofs.Plain.{row_at_now, way_now}
use Rattle.frame_shown.specs.declared.form.Around.{Around}
use Rattle.frame_shown.specs.declared.form.Form.{Form}
use Rattle.frame_shown.specs.declared.form.Form.TheVariants as Forms
use Rattle.frame_shown.specs.declared.form.List.{List as Shape}
use Rattle.frame_shown.specs.declared.form.List.TheVariants as Shapes
use Rattle.frame_shown.specs.declared.form.Table.{Table}
use Rattle.frame_shown.specs.declared.form.Table.TheVariants as Tables
use Rattle.frame_shown.specs.declared.form.Way.{Way}
use Rattle.frame_shown.specs.declared.form.Way.TheVariants as Ways
use Rattle.frame_shown.specs.declared.tables.link.TheConstants.{KERNEL_NAMES, MESSAGE}
use Rattle.frame_diff.specs.Members.{is_unnamed}
use Rattle.frame_diff.proofs.ListRows.{lists_are}
use Rattle.frame_diff.proofs.PathTexts.{Sort, Whose, is_array, is_name, within}
use Rattle.frame_diff.specs.Forests.{is_text}
use Rattle.frame_shown.specs.Values.{first_text, info_of}
use Rattle.nla_wire.specs.Items.{items}

-- ** the sorts of lists

abbrev pub whose_table : Table → Whose
whose_table Tables.Function = Whose.function
whose_table _ = Whose.other

abbrev pub whose_place : Place → Whose
whose_place Places.MacvlanAddresses = Whose.addresses
whose_place _ = Whose.other

abbrev is_whose : Whose → Whose → Bool
is_whose Whose.function Whose.function = true
is_whose Whose.addresses Whose.addresses = true
is_whose Whose.other Whose.other = true
is_whose _ _ = false

abbrev pub sort_of : Shape → Sort
sort_of (Shapes.Message family) = Sort.attributes Whose.other
sort_of (Shapes.Own table) = Sort.attributes (whose_table table)
sort_of (Shapes.Listed group table) = Sort.listed
sort_of (Shapes.Entries group) = Sort.entries
sort_of (Shapes.Of place) = Sort.attributes (whose_place place)
sort_of Shapes.ProtoInet6 = Sort.attributes Whose.other
sort_of (Shapes.Info link port) = Sort.attributes Whose.other
sort_of Shapes.Refused = Sort.attributes Whose.other

-- tables of which no attribute holds more than fields
abbrev is_flat : Table → Bool
is_flat Tables.Props = true
is_flat Tables.FunctionVlans = true
is_flat _ = false

-- what a link's kinds have tables for is no list of addresses
abbrev is_other : Option Place → Bool
is_other None = true
is_other (Some place) = is_whose Whose.other (whose_place place)

-- the lists of values that are in use are of such tables
abbrev pub is_known : Shape → Bool
is_known (Shapes.Listed group table) = is_flat table
is_known (Shapes.Info link port) = is_other link && is_other port
is_known _ = true

same_whose : (a b : Whose) → is_whose a b ≡ true → a ≡ b
same_whose Whose.function Whose.function h = refl
same_whose Whose.addresses Whose.addresses h = refl
same_whose Whose.other Whose.other h = refl
same_whose a b h = absurd cc

abbrev pub is_same : Sort → Sort → Bool
is_same Sort.fields Sort.fields = true
is_same Sort.entries Sort.entries = true
is_same Sort.listed Sort.listed = true
is_same (Sort.attributes one) (Sort.attributes two) = is_whose one two
is_same _ _ = false

pub same_sort : (a b : Sort) → is_same a b ≡ true → a ≡ b
same_sort Sort.fields Sort.fields h = refl
same_sort Sort.entries Sort.entries h = refl
same_sort Sort.listed Sort.listed h = refl
same_sort (Sort.attributes one) (Sort.attributes two) h = ap Sort.attributes (same_whose one two h)
same_sort a b h = absurd cc

kind_other : (ks : List Kind) → list_all (λ k. is_other (Some k.1)) ks ≡ true → (kind : List ℕ)
    → is_other (place_in ks kind) ≡ true
kind_other [] all kind = refl
kind_other (k ∷ ks) all kind =
    let both = and_parts (is_other (Some k.1)) (list_all (λ k. is_other (Some k.1)) ks) all in
    by (is_text k.0 kind) both.0 (kind_other ks both.1 kind)
  where
    by : (b : Bool) → is_other (Some k.1) ≡ true → is_other (place_in ks kind) ≡ true
        → is_other (cond b (Some k.1) (place_in ks kind)) ≡ true
    by true here later = here
    by false here later = later

then_other : (f : List ℕ → Option Place) → ((kind : List ℕ) → is_other (f kind) ≡ true) → (o : Option (List ℕ))
    → is_other (option_and_then f o) ≡ true
then_other f all None = refl
then_other f all (Some kind) = all kind

pub info_known : (p : List ℕ) → is_known (info_of p) ≡ true
info_known p =
    and_from (is_other (option_and_then place_of_kind (first_text 1 (frames_in (items p)))))
    (is_other (option_and_then place_of_slave_kind (first_text 4 (frames_in (items p)))))
    (then_other place_of_kind (kind_other kinds refl) (first_text 1 (frames_in (items p))))
    (then_other place_of_slave_kind (kind_other slave_kinds refl) (first_text 4 (frames_in (items p))))

-- ** what a payload holds is of a sort, or nothing

abbrev pub form_fits : Sort → Form → Bool
form_fits sort (Forms.Counters words) = is_same sort Sort.fields
form_fits sort Forms.Ipv6Counters = is_same sort Sort.fields
form_fits sort (Forms.Settings set) = is_same sort Sort.fields
form_fits sort (Forms.Record parts) = is_same sort Sort.fields
form_fits sort Forms.Wireless = is_same sort Sort.fields
form_fits sort (Forms.List list) = is_known list && is_same sort (sort_of list)
form_fits sort Forms.Info = is_same sort (Sort.attributes Whose.other)
form_fits sort _ = true

abbrev pub style_fits : Sort → Style → Bool
style_fits sort (S.Record members) = is_same sort Sort.fields
style_fits sort (S.Nest place) = is_same sort (Sort.attributes (whose_place place))
style_fits sort (S.Each (E.Record members)) = is_same sort Sort.fields
style_fits sort (S.Each (E.Nest place)) = is_same sort (Sort.attributes (whose_place place))
style_fits sort (S.Each (E.Plain plain)) = true
style_fits sort _ = true

abbrev pub way_fits : Sort → Way → Bool
way_fits sort (Ways.Own form) = form_fits sort form
way_fits sort (Ways.By style) = style_fits sort style

-- always kept as it is, or a value of a list
abbrev is_nameless : Way → Bool
is_nameless (Ways.Own Forms.Kept) = true
is_nameless (Ways.Own Forms.Unflagged) = true
is_nameless (Ways.By (S.Each element)) = true
is_nameless _ = false

-- among attributes
abbrev whose_in : Sort → Whose
whose_in (Sort.attributes whose) = whose
whose_in _ = Whose.other

abbrev pub row_fits : Sort → Known → Bool
row_fits sort row = is_nameless row.1 || is_name (whose_in sort) row.0 && way_fits (within sort row.0) row.1

-- in a list of values
abbrev pub value_fits : Known → Bool
value_fits row = is_nameless row.1 || way_fits Sort.fields row.1

named_way : (way : Way) (p : List ℕ) → is_unnamed way p ≡ false → is_nameless way ≡ false
named_way (Ways.Own Forms.Kept) p h = absurd cc
named_way (Ways.Own Forms.Unflagged) p h = absurd cc
named_way (Ways.By (S.Each element)) p h = absurd cc
named_way way p h = refl

pub row_named : (sort : Sort) (row : Known) (p : List ℕ) → row_fits sort row ≡ true → is_unnamed row.1 p ≡ false
    → (is_name (whose_in sort) row.0 ≡ true) × (way_fits (within sort row.0) row.1 ≡ true)
row_named sort row p fits named =
    and_parts (is_name (whose_in sort) row.0) (way_fits (within sort row.0) row.1)
    (sym (ap (λ b. b || is_name (whose_in sort) row.0 && way_fits (within sort row.0) row.1)
    (named_way row.1 p named)) ∙ fits)

pub value_named : (row : Known) (p : List ℕ) → value_fits row ≡ true → is_unnamed row.1 p ≡ false
    → way_fits Sort.fields row.1 ≡ true
value_named row p fits named =
    sym (ap (λ b. b || way_fits Sort.fields row.1) (named_way row.1 p named)) ∙ fits

-- ** of rows of which all pass a test

module _ (passes : Known → Bool) where
  either : (b : Bool) (x y : Known) → passes x ≡ true → passes y ≡ true → passes (cond b x y) ≡ true
  either true x y h k = h
  either false x y h k = k

  abbrev own_passes : ℕ × (List ℕ × Form) → Bool
  own_passes row = passes (row.1.0, Ways.Own row.1.1)

  by_passes : (rows : Rows) (n : ℕ) → passes no_row ≡ true → list_all own_passes rows ≡ true
      → passes (row_by rows n) ≡ true
  by_passes [] n none all = none
  by_passes (row ∷ rows) n none all =
      let both = and_parts (own_passes row) (list_all own_passes rows) all in
      by (row.0 == n) both.0 (by_passes rows n none both.1)
    where
      by : (b : Bool) → own_passes row ≡ true → passes (row_by rows n) ≡ true
          → passes (row_found (cond b (Some row) (find (λ r. r.0 == n) rows))) ≡ true
      by true first later = first
      by false first later = later

  at_passes : (rows : List Row) (n : ℕ) → passes no_row ≡ true
      → list_all (λ row. passes (styled (Some row))) rows ≡ true → passes (styled (row_at rows n)) ≡ true
  at_passes [] n none all = none
  at_passes (row ∷ rows) n none all =
      let both = and_parts (passes (styled (Some row))) (list_all (λ row. passes (styled (Some row))) rows) all in
      by (row.0 == n) both.0 (at_passes rows n none both.1)
    where
      by : (b : Bool) → passes (styled (Some row)) ≡ true → passes (styled (row_at rows n)) ≡ true
          → passes (styled (cond b (Some row) (row_at rows n))) ≡ true
      by true first later = first
      by false first later = later

get_passes : {A : Type 0} (passes : A → Bool) (rows : List A) (n : ℕ) (none : A) → passes none ≡ true
    → list_all passes rows ≡ true → passes (get_or rows n none) ≡ true
get_passes passes [] n none h all = h
get_passes passes (row ∷ rows) zero none h all = (and_parts (passes row) (list_all passes rows) all).0
get_passes passes (row ∷ rows) (suc n) none h all =
    get_passes passes rows n none h (and_parts (passes row) (list_all passes rows) all).1

-- ** the tables of `frame_shown`, each in a case of its own

table_fits : (table : Table)
    → list_all (own_passes (row_fits (Sort.attributes (whose_table table)))) (rows_in table) ≡ true
table_fits Tables.Families = refl
table_fits table = refl

flat_fits : (table : Table) → is_flat table ≡ true
    → list_all (own_passes value_fits) (rows_in table) ≡ true
flat_fits Tables.Props h = refl
flat_fits Tables.FunctionVlans h = refl
flat_fits table h = absurd cc

-- ** rows of link data

abbrev others : Sort
others = Sort.attributes Whose.other

abbrev among : Place → Sort
among place = Sort.attributes (whose_place place)

own_fits : (place : Place) → list_all (λ row. row_fits (among place) (styled (Some row))) (own_rows place) ≡ true
own_fits Places.Vlan = refl
own_fits place = refl

style_alike : (sort : Sort) (style : Style) → style_fits sort (style_now style) ≡ style_fits sort style
style_alike sort (S.Record members) = refl
style_alike sort (S.Each (E.Record members)) = refl
style_alike sort (S.Each (E.Nest place)) = refl
style_alike sort (S.Each (E.Plain plain)) = refl
style_alike sort style = refl

way_alike : (sort : Sort) (way : Way) → way_fits sort (way_now way) ≡ way_fits sort way
way_alike sort (Ways.Own form) = refl
way_alike sort (Ways.By style) = style_alike sort style

nameless_alike : (style : Style) → is_nameless (Ways.By (style_now style)) ≡ is_nameless (Ways.By style)
nameless_alike (S.Each element) = refl
nameless_alike style = refl

rows_alike : (sort : Sort) (rows : List Row)
    → list_all (λ row. row_fits sort (styled (Some row))) (map row_now rows)
    ≡ list_all (λ row. row_fits sort (styled (Some row))) rows
rows_alike sort [] = refl
rows_alike sort (row ∷ rows) =
    (λ k. (nameless_alike row.2 k || is_name (whose_in sort) row.1.now
    && style_alike (within sort row.1.now) row.2 k) && rows_alike sort rows k)

-- ** of all lists

module _ (cx : Around) (all : AreAllRows cx.tables.now) where
  place_fits : (place : Place) (n : ℕ)
      → row_fits (among place) (styled (row_at (rows_of cx.tables.now place) n)) ≡ true
  place_fits place n =
      at_passes (row_fits (among place)) (rows_of cx.tables.now place) n refl
      (sym (rows_alike (among place) (rows_of cx.tables.now place))
      ∙ ap (list_all (λ row. row_fits (among place) (styled (Some row)))) (all place) ∙ own_fits place)

  inet6_fits : (n : ℕ) → row_fits others (proto_inet6_row cx n) ≡ true
  inet6_fits n =
      let own = by_passes (row_fits others) (rows_in Tables.Inet6) n refl (table_fits Tables.Inet6) in
      either (row_fits others) (n == 2) _ _ own
      (either (row_fits others) (n == 3) _ _ own
      (either (row_fits others) (n == 6) _ _ own (place_fits Places.Inet6 n)))

  nest_fits : (name : List ℕ) → is_name Whose.other name ≡ true → within others name ≡ others
      → (place : Option Place) → is_other place ≡ true → row_fits others (nest_row name place) ≡ true
  nest_fits name named is None h = refl
  nest_fits name named is (Some place) h =
      and_from (is_name Whose.other name) (is_same (within others name) (Sort.attributes (whose_place place))) named
      (ap (λ s. is_same s (Sort.attributes (whose_place place))) is ∙ h)

  xstats_fits : (link : Option Place) → row_fits others (xstats_row cx link) ≡ true
  xstats_fits None = refl
  xstats_fits (Some place) = by place
    where
      by : (place : Place) → row_fits others (xstats_row cx (Some place)) ≡ true
      by Places.Can = refl
      by place = refl

  info_fits : (link port : Option Place) → is_other link ≡ true → is_other port ≡ true → (n : ℕ)
      → row_fits others (info_row cx link port n) ≡ true
  info_fits link port h k n =
      either (row_fits others) (n == 1) _ _ refl
      (either (row_fits others) (n == 2) _ _ (nest_fits (codes "data") refl refl link h)
      (either (row_fits others) (n == 3) _ _ (xstats_fits link)
      (either (row_fits others) (n == 4) _ _ refl
      (either (row_fits others) (n == 5) _ _ (nest_fits (codes "slave-data") refl refl port k) refl))))

af_spec_fits : (family : ℕ) → row_fits others (codes "af-spec", Ways.Own (af_spec_form family)) ≡ true
af_spec_fits family = by (family == 0) (family == 7)
  where
    by : (b c : Bool)
        → row_fits others (
          codes "af-spec",
          Ways.Own (cond b (Forms.List (Shapes.Own Tables.Families))
              (cond c (Forms.List (Shapes.Of Places.BridgeSpec)) Forms.Unflagged)),
        ) ≡ true
    by true c = refl
    by false true = refl
    by false false = refl

proto_info_fits : (family : ℕ) → row_fits others (codes "protinfo", Ways.Own (proto_info_form family)) ≡ true
proto_info_fits family = by (family == 7) (family == 10)
  where
    by : (b c : Bool)
        → row_fits others (
          codes "protinfo",
          Ways.Own (cond b (Forms.List (Shapes.Of Places.BridgePort))
              (cond c (Forms.List Shapes.ProtoInet6) Forms.Kept)),
        ) ≡ true
    by true c = refl
    by false true = refl
    by false false = refl

abbrev message_rows : List (List ℕ × Form)
message_rows = map (λ row. (row.0.now, row.1)) MESSAGE

message_fits : (family n : ℕ) → row_fits others (message_row family n) ≡ true
message_fits family n =
    either (row_fits others) (n == 26) _ _ (af_spec_fits family)
    (either (row_fits others) (n == 12) _ _ (proto_info_fits family)
    (get_passes (λ row. row_fits others (row.0, Ways.Own row.1)) message_rows n ([], Forms.Kept) refl refl))

abbrev refused_rows : List Known
refused_rows = map (λ name. (name.now, Ways.By S.Bytes)) KERNEL_NAMES

refused_fits : (n : ℕ) → row_fits others (refused_row n) ≡ true
refused_fits n = get_passes (row_fits others) refused_rows n no_row refl refl

-- a number behind all rows has none
in_row : (passes : Known → Bool) (cx : Around) (list : Shape) (n : ℕ) → passes no_row ≡ true
    → passes (listed_row cx list n) ≡ true → passes (row_in cx list n) ≡ true
in_row passes cx list n none h = either passes (nat_lt n 256) (listed_row cx list n) no_row h none

-- what the row of a list is to be
abbrev pub suits : Shape → Known → Bool
suits (Shapes.Listed group table) row = value_fits row
suits list row = row_fits (sort_of list) row

pub rows_suit : (cx : Around) → AreAllRows cx.tables.now → (list : Shape) → is_known list ≡ true → (n : ℕ)
    → suits list (row_in cx list n) ≡ true
rows_suit cx all (Shapes.Message family) known n =
    in_row (row_fits others) cx (Shapes.Message family) n refl (message_fits family n)
rows_suit cx all (Shapes.Own table) known n =
    in_row (row_fits (Sort.attributes (whose_table table))) cx (Shapes.Own table) n refl
    (by_passes (row_fits (Sort.attributes (whose_table table))) (rows_in table) n refl (table_fits table))
rows_suit cx all (Shapes.Listed group table) known n =
    in_row value_fits cx (Shapes.Listed group table) n refl
    (by_passes value_fits (rows_in table) n refl (flat_fits table known))
rows_suit cx all (Shapes.Entries group) known n = in_row (row_fits Sort.entries) cx (Shapes.Entries group) n refl refl
rows_suit cx all (Shapes.Of place) known n =
    in_row (row_fits (among place)) cx (Shapes.Of place) n refl (place_fits cx all place n)
rows_suit cx all Shapes.ProtoInet6 known n =
    in_row (row_fits others) cx Shapes.ProtoInet6 n refl (inet6_fits cx all n)
rows_suit cx all (Shapes.Info link port) known n =
    in_row (row_fits others) cx (Shapes.Info link port) n refl
    (info_fits cx all link port (and_parts (is_other link) (is_other port) known).0
    (and_parts (is_other link) (is_other port) known).1 n)
rows_suit cx all Shapes.Refused known n = in_row (row_fits others) cx Shapes.Refused n refl (refused_fits n)

-- ** lists of values

abbrev pub is_values : Sort → Bool
is_values (Sort.values sort) = true
is_values _ = false

-- the sort of one of them
abbrev pub sort_of_each : Sort → Sort
sort_of_each (Sort.values sort) = sort
sort_of_each _ = Sort.nothing

-- what a list of this number and this name is to be, by the row of its number
abbrev pub list_fits : Whose → Known → List ℕ → Bool
list_fits whose row name =
    is_array whose name && (is_values (within (Sort.attributes whose) name)
    && way_fits (sort_of_each (within (Sort.attributes whose) name)) row.1)

abbrev pub AllFit : Whose → (ℕ → Known) → Lists → Type 0
AllFit whose row [] = Unit {0}
AllFit whose row (l ∷ lists) = (list_fits whose (row l.0) l.1 ≡ true) × AllFit whose row lists

abbrev own_row : Place → ℕ → Known
own_row place n = cond (nat_lt n 256) (styled (row_at (own_rows place) n)) no_row

own_lists_fit : (place : Place) → AllFit (whose_place place) (own_row place) (place_lists place)
own_lists_fit Places.VlanQos = (refl, tt)
own_lists_fit Places.MacvlanAddresses = (refl, tt)
own_lists_fit Places.BridgeSpec = (refl, (refl, tt))
own_lists_fit Places.BridgeMst = (refl, tt)
own_lists_fit _ = tt

fit_alike : (whose : Whose) (one two : ℕ → Known)
    → ((sort : Sort) (n : ℕ) → way_fits sort (one n).1 ≡ way_fits sort (two n).1) → (lists : Lists)
    → AllFit whose two lists → AllFit whose one lists
fit_alike whose one two same [] all = tt
fit_alike whose one two same (l ∷ lists) all = (
  (λ k. is_array whose l.1 && (is_values (within (Sort.attributes whose) l.1)
      && same (sort_of_each (within (Sort.attributes whose) l.1)) l.0 k)) ∙ all.0,
  fit_alike whose one two same lists all.1,
)

same_way : (sort : Sort) (b : Bool) (x y : Known) → way_fits sort x.1 ≡ way_fits sort y.1
    → way_fits sort (cond b x no_row).1 ≡ way_fits sort (cond b y no_row).1
same_way sort true x y same = same
same_way sort false x y same = refl

module _ (cx : Around) (all : AreAllRows cx.tables.now) where
  own_way : (place : Place) (sort : Sort) (n : ℕ)
      → way_fits sort (row_in cx (Shapes.Of place) n).1 ≡ way_fits sort (own_row place n).1
  own_way place sort n =
      same_way sort (nat_lt n 256) (place_row cx place n) (styled (row_at (own_rows place) n))
      (sym (way_alike sort (place_row cx place n).1)
      ∙ ap (λ (row : Known). way_fits sort row.1) (row_at_now (rows_of cx.tables.now place) n)
      ∙ ap (λ rows. way_fits sort (styled (row_at rows n)).1) (all place))

  lists_at_fit : (list : Shape) (whose : Whose) → sort_of list ≡ Sort.attributes whose
      → AllFit whose (row_in cx list) (lists_at list)
  lists_at_fit (Shapes.Of place) whose is =
      subst (λ w. AllFit w (row_in cx (Shapes.Of place)) (place_lists place)) (ap whose_in is)
      (fit_alike (whose_place place) (row_in cx (Shapes.Of place)) (own_row place) (own_way place)
      (place_lists place) (own_lists_fit place))
  lists_at_fit _ whose is = tt

  pub lists_fit : (list : Shape) (whose : Whose) → sort_of list ≡ Sort.attributes whose
      → AllFit whose (row_in cx list) (lists_in cx list)
  lists_fit list whose is =
      subst (AllFit whose (row_in cx list)) (sym (lists_are cx all list)) (lists_at_fit list whose is)
