-- A state has no counters of IPv6: wherever a list has a row of them, their number is passed over.
use Rattle.std.proofs.Common.{◌≡◌, ◌==◌, ◌&&◌, ℕ, zero, suc, Bool, true, false, List, [], ◌∷◌, map, refl, sym, ap, ◌∙◌}
use Rattle.std.proofs.Common.{eqb-true, get_or, subst}
use Rattle.std.specs.Prelude.{Option, Some, None, codes, cond, nat_lt, not}
use Rattle.std.specs.List.{find, list_all}
use Rattle.link_info.specs.Places.{rows_of}
use Rattle.link_info.specs.Tables.{row_at}
use Rattle.link_info.specs.declared.place.Place.{Place}
use Rattle.link_info.specs.declared.place.Place.TheVariants as Places
use Rattle.link_info.specs.declared.style.Row.{Row as PlaceRow}
use Rattle.link_info.specs.declared.style.Style.TheVariants as S
use Rattle.frame_shown.specs.Tables.{Known, Rows, info_row, listed_row, message_row, nest_row, no_row, place_row}
use Rattle.frame_shown.specs.Tables.{proto_inet6_row, refused_row, row_by, row_found, row_in, row_of_list, rows_in}
use Rattle.frame_shown.specs.Tables.{af_spec_form, proto_info_form, styled, xstats_row}
use Rattle.frame_shown.specs.declared.form.Around.{Around}
use Rattle.frame_shown.specs.declared.form.Form.{Form}
use Rattle.frame_shown.specs.declared.form.Form.TheVariants as Forms
use Rattle.frame_shown.specs.declared.form.List.{List as Shape}
use Rattle.frame_shown.specs.declared.form.List.TheVariants as Shapes
use Rattle.frame_shown.specs.declared.form.Table.{Table}
use Rattle.frame_shown.specs.declared.form.Table.TheVariants as Tables
use Rattle.frame_shown.specs.declared.form.Way.{Way}
use Rattle.frame_shown.specs.declared.form.Way.TheVariants as Ways
use Rattle.frame_shown.specs.declared.tables.link.TheConstants.{KERNEL_NAMES, MESSAGE}
use Rattle.frame_diff.specs.Counters.{is_passed}

-- the table of what IPv6 says
abbrev pub is_inet6 : Table → Bool
is_inet6 Tables.Inet6 = true
is_inet6 _ = false

-- a list whose values stand in one list has no rows of what IPv6 says
abbrev pub is_shape : Shape → Bool
is_shape (Shapes.Listed group table) = not (is_inet6 table)
is_shape _ = true

-- a row of such a list, and of counters of IPv6 only where they are passed over
abbrev pub is_form : Bool → Form → Bool
is_form passed Forms.Ipv6Counters = passed
is_form passed (Forms.List list) = is_shape list
is_form passed _ = true

abbrev pub is_way : Bool → Way → Bool
is_way passed (Ways.Own form) = is_form passed form
is_way passed (Ways.By style) = true

form_more : (passed : Bool) (form : Form) → is_form false form ≡ true → is_form passed form ≡ true
form_more passed Forms.Ipv6Counters h = absurd cc
form_more passed (Forms.List list) h = h
form_more passed _ h = refl

way_more : (passed : Bool) (way : Way) → is_way false way ≡ true → is_way passed way ≡ true
way_more passed (Ways.Own form) h = form_more passed form h
way_more passed (Ways.By style) h = refl

both : (a b : Bool) → (a && b) ≡ true → (a ≡ true) × (b ≡ true)
both true true h = (refl, refl)
both true false h = absurd cc
both false b h = absurd cc

not_true : (b : Bool) → not b ≡ true → b ≡ false
not_true true h = absurd cc
not_true false h = refl

if_way : (b passed : Bool) (x y : Known) → is_way passed x.1 ≡ true → is_way passed y.1 ≡ true
    → is_way passed (cond b x y).1 ≡ true
if_way true passed x y h k = h
if_way false passed x y h k = k

-- ** tables with numbers

-- the number of the counters of IPv6 in their table is 3
abbrev pub is_row : ℕ × (List ℕ × Form) → Bool
is_row row = is_form (row.0 == 3) row.1.1

by_number : (passed : Bool) (rows : Rows) (n : ℕ) → list_all is_row rows ≡ true → (n ≡ 3 → passed ≡ true)
    → is_way passed (row_by rows n).1 ≡ true
by_number passed [] n h at = refl
by_number passed (row ∷ rows) n h at =
    let parts = both (is_row row) (list_all is_row rows) h in
    by (row.0 == n) refl parts.0 (by_number passed rows n parts.1 at)
  where
    own : (c : Bool) → (row.0 == 3) ≡ c → row.0 ≡ n → is_form c row.1.1 ≡ true → is_form passed row.1.1 ≡ true
    own true three same is = subst (λ b. is_form b row.1.1 ≡ true) (sym (at (sym same ∙ eqb-true row.0 3 three))) is
    own false other same is = form_more passed row.1.1 is

    by : (b : Bool) → (row.0 == n) ≡ b → is_row row ≡ true → is_way passed (row_by rows n).1 ≡ true
        → is_way passed (row_found (cond b (Some row) (find (λ r. r.0 == n) rows))).1 ≡ true
    by true same is later = own (row.0 == 3) refl (eqb-true row.0 n same) is
    by false other is later = later

-- no other table than that of IPv6 has them
abbrev is_plain_row : ℕ × (List ℕ × Form) → Bool
is_plain_row row = is_form false row.1.1

by_none : (rows : Rows) (n : ℕ) → list_all is_plain_row rows ≡ true → is_way false (row_by rows n).1 ≡ true
by_none [] n h = refl
by_none (row ∷ rows) n h =
    let parts = both (is_plain_row row) (list_all is_plain_row rows) h in
    by (row.0 == n) parts.0 (by_none rows n parts.1)
  where
    by : (b : Bool) → is_plain_row row ≡ true → is_way false (row_by rows n).1 ≡ true
        → is_way false (row_found (cond b (Some row) (find (λ r. r.0 == n) rows))).1 ≡ true
    by true is later = is
    by false is later = later

-- what IPv6 says: its counters are passed over
inet6_row : (list : Shape) (n : ℕ) → is_passed true list 3 ≡ true
    → is_way (is_passed true list n) (row_by (rows_in Tables.Inet6) n).1 ≡ true
inet6_row list n three =
    by_number (is_passed true list n) (rows_in Tables.Inet6) n refl
    (λ same. ap (is_passed true list) same ∙ three)

own_row : (table : Table) (n : ℕ)
    → is_way (is_passed true (Shapes.Own table) n) (row_by (rows_in table) n).1 ≡ true
own_row Tables.Inet6 n = inet6_row (Shapes.Own Tables.Inet6) n refl
own_row table n =
    way_more (is_passed true (Shapes.Own table) n) (row_by (rows_in table) n).1 (by_none (rows_in table) n refl)

value_row : (table : Table) (n : ℕ) → is_inet6 table ≡ false → is_way false (row_by (rows_in table) n).1 ≡ true
value_row Tables.Inet6 n h = absurd cc
value_row table n h = by_none (rows_in table) n refl

-- ** other lists

style_row : (passed : Bool) (row : Option PlaceRow) → is_way passed (styled row).1 ≡ true
style_row passed None = refl
style_row passed (Some row) = refl

place_way : (passed : Bool) (cx : Around) (place : Place) (n : ℕ) → is_way passed (place_row cx place n).1 ≡ true
place_way passed cx place n = style_row passed (row_at (rows_of cx.tables.now place) n)

proto_row : (cx : Around) (n : ℕ) → is_way (is_passed true Shapes.ProtoInet6 n) (proto_inet6_row cx n).1 ≡ true
proto_row cx n =
    let passed = is_passed true Shapes.ProtoInet6 n in
    let row = row_by (rows_in Tables.Inet6) n in
    let other = place_row cx Places.Inet6 n in
    let own = inet6_row Shapes.ProtoInet6 n refl in
    let rest = if_way (n == 6) passed row other own (place_way passed cx Places.Inet6 n) in
    if_way (n == 2) passed row (cond (n == 3) row (cond (n == 6) row other)) own
    (if_way (n == 3) passed row (cond (n == 6) row other) own rest)

nest_way : (passed : Bool) (name : List ℕ) (place : Option Place) → is_way passed (nest_row name place).1 ≡ true
nest_way passed name None = refl
nest_way passed name (Some place) = refl

xstats_ok : (passed : Bool) (cx : Around) (link : Option Place) → is_way passed (xstats_row cx link).1 ≡ true
xstats_ok passed cx (Some Places.Can) = refl
xstats_ok passed cx _ = refl

info_way : (passed : Bool) (cx : Around) (link port : Option Place) (n : ℕ)
    → is_way passed (info_row cx link port n).1 ≡ true
info_way passed cx link port n =
    let kind : Known = (codes "kind", Ways.Own Forms.Text) in
    let slave : Known = (codes "slave-kind", Ways.Own Forms.Text) in
    let port_data = nest_row (codes "slave-data") port in
    let fifth = cond (n == 5) port_data no_row in
    let fourth = cond (n == 4) slave fifth in
    let third = cond (n == 3) (xstats_row cx link) fourth in
    if_way (n == 1) passed kind (cond (n == 2) (nest_row (codes "data") link) third) refl
    (if_way (n == 2) passed (nest_row (codes "data") link) third (nest_way passed (codes "data") link)
    (if_way (n == 3) passed (xstats_row cx link) fourth (xstats_ok passed cx link)
    (if_way (n == 4) passed slave fifth refl
    (if_way (n == 5) passed port_data no_row (nest_way passed (codes "slave-data") port) refl))))

-- ** attributes of a link

listed_form : (rows : List (List ℕ × Form)) (n : ℕ) → list_all (λ row. is_form false row.1) rows ≡ true
    → is_way false (row_of_list rows n).1 ≡ true
listed_form [] n h = refl
listed_form (row ∷ rows) zero h = (both (is_form false row.1) (list_all (λ r. is_form false r.1) rows) h).0
listed_form (row ∷ rows) (suc n) h =
    listed_form rows n (both (is_form false row.1) (list_all (λ r. is_form false r.1) rows) h).1

af_spec_way : (family : ℕ) → is_form false (af_spec_form family) ≡ true
af_spec_way family = by (family == 0) (family == 7)
  where
    by : (a b : Bool) → is_form false (cond a (Forms.List (Shapes.Own Tables.Families))
        (cond b (Forms.List (Shapes.Of Places.BridgeSpec)) Forms.Unflagged)) ≡ true
    by true b = refl
    by false true = refl
    by false false = refl

proto_way : (family : ℕ) → is_form false (proto_info_form family) ≡ true
proto_way family = by (family == 7) (family == 10)
  where
    by : (a b : Bool) → is_form false (cond a (Forms.List (Shapes.Of Places.BridgePort))
        (cond b (Forms.List Shapes.ProtoInet6) Forms.Kept)) ≡ true
    by true b = refl
    by false true = refl
    by false false = refl

message_way : (family n : ℕ) → is_way false (message_row family n).1 ≡ true
message_way family n =
    let rest = row_of_list (map (λ row. (row.0.now, row.1)) MESSAGE) n in
    let proto : Known = (codes "protinfo", Ways.Own (proto_info_form family)) in
    if_way (n == 26) false (codes "af-spec", Ways.Own (af_spec_form family)) (cond (n == 12) proto rest)
    (af_spec_way family)
    (if_way (n == 12) false proto rest (proto_way family)
    (listed_form (map (λ row. (row.0.now, row.1)) MESSAGE) n refl))

bytes_way : (names : List Known) (n : ℕ) → list_all (λ row. is_way false row.1) names ≡ true
    → is_way false (get_or names n no_row).1 ≡ true
bytes_way [] n h = refl
bytes_way (row ∷ rows) zero h = (both (is_way false row.1) (list_all (λ r. is_way false r.1) rows) h).0
bytes_way (row ∷ rows) (suc n) h =
    bytes_way rows n (both (is_way false row.1) (list_all (λ r. is_way false r.1) rows) h).1

refused_way : (n : ℕ) → is_way false (refused_row n).1 ≡ true
refused_way n = bytes_way (map (λ name. (name.now, Ways.By S.Bytes)) KERNEL_NAMES) n refl

-- ** all lists

listed_way : (cx : Around) (list : Shape) (n : ℕ) → is_shape list ≡ true
    → is_way (is_passed true list n) (listed_row cx list n).1 ≡ true
listed_way cx (Shapes.Message family) n h =
    way_more (is_passed true (Shapes.Message family) n) (message_row family n).1 (message_way family n)
listed_way cx (Shapes.Own table) n h = own_row table n
listed_way cx (Shapes.Listed group table) n h = value_row table n (not_true (is_inet6 table) h)
listed_way cx (Shapes.Entries group) n h = refl
listed_way cx (Shapes.Of place) n h = place_way (is_passed true (Shapes.Of place) n) cx place n
listed_way cx Shapes.ProtoInet6 n h = proto_row cx n
listed_way cx (Shapes.Info link port) n h = info_way (is_passed true (Shapes.Info link port) n) cx link port n
listed_way cx Shapes.Refused n h = way_more (is_passed true Shapes.Refused n) (refused_row n).1 (refused_way n)

pub row_way : (cx : Around) (list : Shape) (n : ℕ) → is_shape list ≡ true
    → is_way (is_passed true list n) (row_in cx list n).1 ≡ true
row_way cx list n h =
    if_way (nat_lt n 256) (is_passed true list n) (listed_row cx list n) no_row (listed_way cx list n h) refl
