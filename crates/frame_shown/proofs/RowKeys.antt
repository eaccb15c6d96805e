-- The names of this crate's rows are keys.
use Rattle.std.proofs.Common.{◌≡◌, ℕ, zero, suc, Bool, true, false, List, [], ◌∷◌, refl, map, ◌==◌, ◌&&◌, get_or}
use Rattle.std.proofs.Common.{ap, subst, sym}
use Rattle.std.specs.Prelude.{Option, None, Some, IfSome, cond, nat_lt, codes}
use Rattle.std.specs.List.{find}
use Rattle.shown.specs.Keys.{IsKey, AreKeys, is_key, are_keys}
use Rattle.link_info.specs.Tables.{row_at}
use Rattle.link_info.specs.Places.{rows_of}
use Rattle.link_info.specs.declared.place.Place.{Place}
use Rattle.link_info.specs.declared.place.Place.TheVariants as Places
use Rattle.link_info.specs.declared.style.Row.{Row as PlaceRow}
use Rattle.link_info.specs.declared.style.Style.TheVariants as S
use Rattle.frame_shown.specs.declared.form.Around.{Around}
use Rattle.frame_shown.specs.declared.form.Form.{Form}
use Rattle.frame_shown.specs.declared.form.Form.TheVariants as Forms
use Rattle.frame_shown.specs.declared.form.List.{List as Shape}
use Rattle.frame_shown.specs.declared.form.List.TheVariants as Shapes
use Rattle.frame_shown.specs.declared.form.Table.{Table}
use Rattle.frame_shown.specs.declared.form.Table.TheVariants as Tables
use Rattle.frame_shown.specs.declared.form.Way.{Way}
use Rattle.frame_shown.specs.declared.form.Way.TheVariants as Ways
use Rattle.frame_shown.specs.declared.tables.link.TheConstants.{KERNEL_NAMES, MESSAGE}
use Rattle.frame_shown.specs.Tables.{Known, Rows, no_row, rows_in, row_by, row_found, row_of_list, styled, is_own}
use Rattle.frame_shown.specs.Tables.{place_row, proto_inet6_row, nest_row, xstats_row, info_row, message_row}
use Rattle.frame_shown.specs.Tables.{af_spec_form, proto_info_form, listed_row, own_rows, refused_row, row_in}

both : (a b : Bool) → a && b ≡ true → (a ≡ true) × (b ≡ true)
both true true h = (refl, refl)
both true false h = absurd cc
both false b h = absurd cc

-- the name at a place of a table of keys; what stands in no place has none
pub key_of : {A : Type 0} (name : A → List ℕ) (xs : List A) (i : ℕ) (d : A) → IsKey (name d)
    → AreKeys (map name xs) → IsKey (name (get_or xs i d))
key_of name [] i d none h = none
key_of name (x ∷ xs) zero d none h = (both (is_key (name x)) (are_keys (map name xs)) h).0
key_of name (x ∷ xs) (suc i) d none h =
    key_of name xs i d none (both (is_key (name x)) (are_keys (map name xs)) h).1

-- a row of this crate has a key
abbrev pub HasKey : Known → Type 0
HasKey row = is_own row.1 ≡ true → IsKey row.0

pub keyed_by : (name : List ℕ) (way : Way) (row : Known) → (name, way) ≡ row → HasKey row
    → is_own way ≡ true → IsKey name
keyed_by name way row is has = subst HasKey (sym is) has

-- ** the first row of a number

found_key : (b : Bool) (row : ℕ × (List ℕ × Form)) (rest : Option (ℕ × (List ℕ × Form))) → IsKey row.1.0
    → IsKey (row_found rest).0 → IsKey (row_found (cond b (Some row) rest)).0
found_key true row rest is then = is
found_key false row rest is then = then

by_key : (rows : Rows) (n : ℕ) → AreKeys (map (λ row. row.1.0) rows) → IsKey (row_by rows n).0
by_key [] n h = refl
by_key (row ∷ rows) n h =
    let its = both (is_key row.1.0) (are_keys (map (λ (r : ℕ × (List ℕ × Form)). r.1.0) rows)) h in
    found_key (row.0 == n) row (find (λ r. r.0 == n) rows) its.0 (by_key rows n its.1)

table_keys : (table : Table) → AreKeys (map (λ row. row.1.0) (rows_in table))
table_keys Tables.Families = refl
table_keys Tables.Inet = refl
table_keys Tables.Inet6 = refl
table_keys Tables.Mctp = refl
table_keys Tables.Xdp = refl
table_keys Tables.Props = refl
table_keys Tables.DevlinkPort = refl
table_keys Tables.DpllPin = refl
table_keys Tables.DownReason = refl
table_keys Tables.Function = refl
table_keys Tables.FunctionStats = refl
table_keys Tables.FunctionVlans = refl

pub table_key : (table : Table) (n : ℕ) → HasKey (row_by (rows_in table) n)
table_key table n own = by_key (rows_in table) n (table_keys table)

-- ** one of two rows

either : (b : Bool) (x y : Known) → HasKey x → HasKey y → HasKey (cond b x y)
either true x y first second = first
either false x y first second = second

-- ** attributes of a link

abbrev names_in : List (List ℕ × Form) → List (List ℕ)
names_in rows = map (λ (row : List ℕ × Form). row.0) rows

list_key : (rows : List (List ℕ × Form)) (n : ℕ) → AreKeys (names_in rows) → HasKey (row_of_list rows n)
list_key rows n h own = key_of (λ (row : List ℕ × Form). row.0) rows n ([], Forms.Kept) refl h

pub message_key : (family n : ℕ) → HasKey (message_row family n)
message_key family n =
    either (n == 26) (codes "af-spec", Ways.Own (af_spec_form family)) _ (λ _. refl)
    (either (n == 12) (codes "protinfo", Ways.Own (proto_info_form family)) _ (λ _. refl)
    (list_key (map (λ row. (row.0.now, row.1)) MESSAGE) n refl))

-- ** link data

styled_key : (row : Option PlaceRow) → HasKey (styled row)
styled_key None own = refl
styled_key (Some row) own = absurd cc

place_key : (cx : Around) (place : Place) (n : ℕ) → HasKey (place_row cx place n)
place_key cx place n = styled_key (row_at (rows_of cx.tables.now place) n)

inet6_key : (cx : Around) (n : ℕ) → HasKey (proto_inet6_row cx n)
inet6_key cx n =
    either (n == 2) (row_by (rows_in Tables.Inet6) n) _ (table_key Tables.Inet6 n)
    (either (n == 3) (row_by (rows_in Tables.Inet6) n) _ (table_key Tables.Inet6 n)
    (either (n == 6) (row_by (rows_in Tables.Inet6) n) _ (table_key Tables.Inet6 n) (place_key cx Places.Inet6 n)))

nest_key : (name : List ℕ) (place : Option Place) → IsKey name → HasKey (nest_row name place)
nest_key name None is own = is
nest_key name (Some place) is own = absurd cc

info_key : (cx : Around) (link port : Option Place) (n : ℕ) → HasKey (info_row cx link port n)
info_key cx link port n =
    either (n == 1) (codes "kind", Ways.Own Forms.Text) _ (λ _. refl)
    (either (n == 2) (nest_row (codes "data") link) _ (nest_key (codes "data") link refl)
    (either (n == 3) (xstats_row cx link) _ (λ _. refl)
    (either (n == 4) (codes "slave-kind", Ways.Own Forms.Text) _ (λ _. refl)
    (either (n == 5) (nest_row (codes "slave-data") port) no_row (nest_key (codes "slave-data") port refl)
    (λ _. refl)))))

bytes_key : {A : Type 0} (name : A → List ℕ) (names : List A) (n : ℕ)
    → HasKey (get_or (map (λ x. (name x, Ways.By S.Bytes)) names) n no_row)
bytes_key name [] n own = refl
bytes_key name (x ∷ names) zero own = absurd cc
bytes_key name (x ∷ names) (suc n) own = bytes_key name names n own

pub refused_key : (n : ℕ) → HasKey (refused_row n)
refused_key n = bytes_key (λ name. name.now) KERNEL_NAMES n

listed_key : (cx : Around) (list : Shape) (n : ℕ) → HasKey (listed_row cx list n)
listed_key cx (Shapes.Message family) n = message_key family n
listed_key cx (Shapes.Own table) n = table_key table n
listed_key cx (Shapes.Listed group table) n = table_key table n
listed_key cx (Shapes.Entries group) n = λ own. refl
listed_key cx (Shapes.Of place) n = place_key cx place n
listed_key cx Shapes.ProtoInet6 n = inet6_key cx n
listed_key cx (Shapes.Info link port) n = info_key cx link port n
listed_key cx Shapes.Refused n = refused_key n

pub row_key : (cx : Around) (list : Shape) (n : ℕ) → is_own (row_in cx list n).1 ≡ true → IsKey (row_in cx list n).0
row_key cx list n = either (nat_lt n 256) (listed_row cx list n) no_row (listed_key cx list n) (λ own. refl)

-- ** a list that goes by a table of this crate

own_row : (cx : Around) (list : Shape) (n : ℕ) → IfSome (own_rows list) (λ rows. listed_row cx list n ≡ row_by rows n)
own_row cx (Shapes.Message family) n = tt
own_row cx (Shapes.Own table) n = refl
own_row cx (Shapes.Listed group table) n = refl
own_row cx (Shapes.Entries group) n = tt
own_row cx (Shapes.Of place) n = tt
own_row cx Shapes.ProtoInet6 n = tt
own_row cx (Shapes.Info link port) n = tt
own_row cx Shapes.Refused n = tt

pub row_among : (cx : Around) (list : Shape) (rows : Rows) (n : ℕ) → own_rows list ≡ Some rows
    → row_in cx list n ≡ cond (nat_lt n 256) (row_by rows n) no_row
row_among cx list rows n is = ap (λ row. cond (nat_lt n 256) row no_row)
    (subst (λ o. IfSome o (λ r. listed_row cx list n ≡ row_by r n)) is (own_row cx list n))

own_key : (list : Shape) (n : ℕ) → IfSome (own_rows list) (λ rows. HasKey (row_by rows n))
own_key (Shapes.Message family) n = tt
own_key (Shapes.Own table) n = table_key table n
own_key (Shapes.Listed group table) n = table_key table n
own_key (Shapes.Entries group) n = tt
own_key (Shapes.Of place) n = tt
own_key Shapes.ProtoInet6 n = tt
own_key (Shapes.Info link port) n = tt
own_key Shapes.Refused n = tt

pub key_among : (list : Shape) (rows : Rows) (n : ℕ) → own_rows list ≡ Some rows → HasKey (row_by rows n)
key_among list rows n is = subst (λ o. IfSome o (λ r. HasKey (row_by r n))) is (own_key list n)
