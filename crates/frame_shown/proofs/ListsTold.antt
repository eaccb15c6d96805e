-- Each attribute that is a value is one of a list, and by the rows of each place there are the lists that are said.
use Rattle.std.proofs.Common.{◌≡◌, ℕ, zero, suc, ◌==◌, ◌||◌, Bool, true, false, cond, List, [], ◌∷◌, refl, ap, sym}
use Rattle.std.proofs.Common.{◌∙◌, eqb-true, map, subst}
use Rattle.std.specs.Prelude.{Option, None, Some, codes, get_or, nat_lt}
use Rattle.std.specs.List.{find}
use Rattle.std.proofs.Math.Bool.{or-true}
use Rattle.link_info.specs.Places.{rows_of}
use Rattle.link_info.specs.Rows.{own_rows}
use Rattle.link_info.specs.Tables.{row_at}
use Rattle.link_info.specs.declared.place.Place.{Place}
use Rattle.link_info.specs.declared.place.Place.TheVariants as Places
use Rattle.link_info.specs.declared.style.Row.{Row}
use Rattle.link_info.specs.declared.style.Style.TheVariants as S
use Rattle.frame_shown.specs.Items.{Lists}
use Rattle.frame_shown.specs.Lists.{ListsAreThese, has_list, lists_at, place_lists}
use Rattle.frame_shown.specs.Plain.{IsPlain}
use Rattle.frame_shown.specs.Tables.{Known, Rows, af_spec_form, info_row, is_each, is_listed, listed_row, lists_in}
use Rattle.frame_shown.specs.Tables.{lists_of, message_row, nest_row, no_row, place_row, proto_inet6_row}
use Rattle.frame_shown.specs.Tables.{proto_info_form, refused_row, row_by, row_found, row_in, rows_in}
use Rattle.frame_shown.specs.Tables.{styled, xstats_row}
use Rattle.frame_shown.specs.declared.form.Around.{Around}
use Rattle.frame_shown.specs.declared.form.Form.{Form}
use Rattle.frame_shown.specs.declared.form.Form.TheVariants as Forms
use Rattle.frame_shown.specs.declared.form.List.{List as Shape}
use Rattle.frame_shown.specs.declared.form.List.TheVariants as Shapes
use Rattle.frame_shown.specs.declared.form.Order.{Order}
use Rattle.frame_shown.specs.declared.form.Table.TheVariants as Tables
use Rattle.frame_shown.specs.declared.form.Way.TheVariants as Ways
use Rattle.frame_shown.specs.declared.tables.link.TheConstants.{KERNEL_NAMES}
use Rattle.frame_shown.proofs.Plain.{each_now, lists_of_now, row_at_now}

-- ** each value has a list

-- a row of a value has its list among these
abbrev HasList : Known → ℕ → Lists → Type 0
HasList row n lists = is_each row.1 ≡ true → has_list n lists ≡ true

either : (b : Bool) (x y : Known) (n : ℕ) (lists : Lists) → HasList x n lists → HasList y n lists
    → HasList (cond b x y) n lists
either true x y n lists first second = first
either false x y n lists first second = second

no_list : (n : ℕ) (lists : Lists) → HasList no_row n lists
no_list n lists is = absurd cc

own_next : (b : Bool) (row : ℕ × (List ℕ × Form)) (rest : Option (ℕ × (List ℕ × Form))) (n : ℕ) (lists : Lists)
    → HasList (row_found rest) n lists → HasList (row_found (cond b (Some row) rest)) n lists
own_next true row rest n lists more is = absurd cc
own_next false row rest n lists more is = more is

own_list : (rows : Rows) (m n : ℕ) (lists : Lists) → HasList (row_by rows m) n lists
own_list [] m n lists is = absurd cc
own_list (row ∷ rows) m n lists is =
    own_next (row.0 == m) row (find (λ r. r.0 == m) rows) n lists (own_list rows m n lists) is

-- of rows of link data
found_list : (b each : Bool) (row : Row) (n : ℕ) (rows : List Row) → (row.0 == n) ≡ b → is_listed row.2 ≡ each
    → HasList (styled (row_at rows n)) n (lists_of rows)
    → HasList (styled (cond b (Some row) (row_at rows n))) n (cond each ((row.0, row.1.now) ∷ lists_of rows) (lists_of
    rows))
found_list true true row n rows its listed more is = ap (λ b. b || has_list n (lists_of rows)) its
found_list true false row n rows its listed more is = absurd (cc (listed, is))
found_list false true row n rows its listed more is = ap (λ b. (row.0 == n) || b) (more is) ∙ or-true (row.0 == n)
found_list false false row n rows its listed more is = more is

data_list : (rows : List Row) (n : ℕ) → HasList (styled (row_at rows n)) n (lists_of rows)
data_list [] n is = absurd cc
data_list (row ∷ rows) n is =
    found_list (row.0 == n) (is_listed row.2) row n rows refl refl (data_list rows n) is

module _ (cx : Around) where
  place_list : (place : Place) (n : ℕ) → HasList (place_row cx place n) n (lists_in cx (Shapes.Of place))
  place_list place n = data_list (rows_of cx.tables.now place) n

  inet6_list : (n : ℕ) → HasList (proto_inet6_row cx n) n (lists_in cx Shapes.ProtoInet6)
  inet6_list n =
      let lists = lists_in cx Shapes.ProtoInet6 in
      let own = own_list (rows_in Tables.Inet6) n n lists in
      either (n == 2) (row_by (rows_in Tables.Inet6) n) _ n lists own
      (either (n == 3) (row_by (rows_in Tables.Inet6) n) _ n lists own
      (either (n == 6) (row_by (rows_in Tables.Inet6) n) _ n lists own (place_list Places.Inet6 n)))

  message_list : (family n : ℕ) → HasList (message_row family n) n []
  message_list family n =
      either (n == 26) (codes "af-spec", Ways.Own (af_spec_form family)) _ n [] (λ is. absurd cc)
      (either (n == 12) (codes "protinfo", Ways.Own (proto_info_form family)) _ n [] (λ is. absurd cc)
      (λ is. absurd cc))

  nested_list : (name : List ℕ) (place : Option Place) (n : ℕ) → HasList (nest_row name place) n []
  nested_list name None n is = absurd cc
  nested_list name (Some place) n is = absurd cc

  xstats_list : (link : Option Place) (n : ℕ) → HasList (xstats_row cx link) n []
  xstats_list (Some Places.Can) n is = absurd cc
  xstats_list _ n is = absurd cc

  info_list : (link port : Option Place) (n : ℕ) → HasList (info_row cx link port n) n []
  info_list link port n =
      either (n == 1) (codes "kind", Ways.Own Forms.Text) _ n [] (λ is. absurd cc)
      (either (n == 2) (nest_row (codes "data") link) _ n [] (nested_list (codes "data") link n)
      (either (n == 3) (xstats_row cx link) _ n [] (xstats_list link n)
      (either (n == 4) (codes "slave-kind", Ways.Own Forms.Text) _ n [] (λ is. absurd cc)
      (either (n == 5) (nest_row (codes "slave-data") port) no_row n [] (nested_list (codes "slave-data") port n)
      (no_list n [])))))

  bytes_list : {A : Type 0} (name : A → List ℕ) (names : List A) (m n : ℕ)
      → HasList (get_or (map (λ x. (name x, Ways.By S.Bytes)) names) m no_row) n []
  bytes_list name [] m n is = absurd cc
  bytes_list name (x ∷ names) zero n is = absurd cc
  bytes_list name (x ∷ names) (suc m) n is = bytes_list name names m n is

  refused_list : (n : ℕ) → HasList (refused_row n) n []
  refused_list n = bytes_list (λ name. name.now) KERNEL_NAMES n n

  its_list : (list : Shape) (n : ℕ) → HasList (listed_row cx list n) n (lists_in cx list)
  its_list (Shapes.Message family) n = message_list family n
  its_list (Shapes.Own table) n = own_list (rows_in table) n n []
  its_list (Shapes.Listed group table) n = own_list (rows_in table) n n []
  its_list (Shapes.Entries group) n = no_list n []
  its_list (Shapes.Of place) n = place_list place n
  its_list Shapes.ProtoInet6 n = inet6_list n
  its_list (Shapes.Info link port) n = info_list link port n
  its_list Shapes.Refused n = refused_list n

  has : (list : Shape) (n : ℕ) → is_each (row_in cx list n).1 ≡ true → has_list n (lists_in cx list) ≡ true
  has list n = either (nat_lt n 256) (listed_row cx list n) no_row n (lists_in cx list) (its_list list n)
      (no_list n (lists_in cx list))

-- ** by the rows of each place

own_lists : (place : Place) → lists_of (own_rows place) ≡ place_lists place
own_lists Places.Vlan = refl
own_lists _ = refl

placed_lists : (order : Order) (cx : Around) → IsPlain order cx → (place : Place)
    → lists_in cx (Shapes.Of place) ≡ place_lists place
placed_lists order cx plain place =
    sym (lists_of_now (rows_of cx.tables.now place)) ∙ ap lists_of (plain.tables place) ∙ own_lists place

these : (order : Order) (cx : Around) → IsPlain order cx → (list : Shape) → lists_in cx list ≡ lists_at list
these order cx plain (Shapes.Of place) = placed_lists order cx plain place
these order cx plain Shapes.ProtoInet6 = placed_lists order cx plain Places.Inet6
these order cx plain _ = refl

-- ** what has a list is a value

abbrev AllOf : (ℕ → Type 0) → Lists → Type 0
AllOf P [] = Unit {0}
AllOf P (l ∷ lists) = P l.0 × AllOf P lists

one_next : (P : ℕ → Type 0) (n k : ℕ) (b c : Bool) → (k == n) ≡ b → P k → (c ≡ true → P n) → (b || c) ≡ true → P n
one_next P n k true c same here more is = subst P (eqb-true k n same) here
one_next P n k false c other here more is = more is

one_of : (P : ℕ → Type 0) (n : ℕ) (lists : Lists) → AllOf P lists → has_list n lists ≡ true → P n
one_of P n [] all is = absurd cc
one_of P n (l ∷ lists) all is =
    one_next P n l.0 (l.0 == n) (has_list n lists) refl all.0 (one_of P n lists all.1) is

abbrev own_row : Place → ℕ → Known
own_row place n = cond (nat_lt n 256) (styled (row_at (own_rows place) n)) no_row

own_values : (place : Place) → AllOf (λ n. is_each (own_row place n).1 ≡ true) (place_lists place)
own_values Places.VlanQos = (refl, tt)
own_values Places.MacvlanAddresses = (refl, tt)
own_values Places.BridgeSpec = (refl, (refl, tt))
own_values Places.BridgeMst = (refl, tt)
own_values _ = tt

same_each : (b : Bool) (x y : Known) → is_each x.1 ≡ is_each y.1
    → is_each (cond b x no_row).1 ≡ is_each (cond b y no_row).1
same_each true x y same = same
same_each false x y same = refl

module _ (order : Order) (cx : Around) (plain : IsPlain order cx) where
  own_each : (place : Place) (n : ℕ) → is_each (row_in cx (Shapes.Of place) n).1 ≡ is_each (own_row place n).1
  own_each place n =
      same_each (nat_lt n 256) (place_row cx place n) (styled (row_at (own_rows place) n))
      (sym (each_now (place_row cx place n).1)
      ∙ ap (λ (row : Known). is_each row.1) (row_at_now (rows_of cx.tables.now place) n)
      ∙ ap (λ rows. is_each (styled (row_at rows n)).1) (plain.tables place))

  values : (list : Shape) (n : ℕ) → has_list n (lists_at list) ≡ true → is_each (row_in cx list n).1 ≡ true
  values (Shapes.Of place) n is =
      own_each place n ∙ one_of (λ k. is_each (own_row place k).1 ≡ true) n (place_lists place) (own_values place) is
  values _ n is = absurd cc

pub lists_are_these : ListsAreThese
lists_are_these = record { these = these; values = values; has = has }
