-- No two numbers of a list are shown under one name, by computation over the rows.
use Rattle.std.proofs.Common.{◌≡◌, ℕ, zero, suc, ◌+◌, ◌<◌, Bool, true, false, List, [], ◌∷◌, refl, sym, ap, ◌∙◌, map}
use Rattle.std.proofs.Common.{arith, eqb-true, eq-eqb, get_or}
use Rattle.std.specs.Prelude.{Option, Some, None, ◌==◌, ◌&&◌, ◌||◌, codes, cond, nat_lt, not}
use Rattle.std.specs.List.{find, list_any}
use Rattle.std.proofs.Math.Bool.{or-true}
use Rattle.link_info.specs.Lent.{row_now}
use Rattle.link_info.specs.Places.{rows_of}
use Rattle.link_info.specs.Rows.{AreAllRows, inet6_rows, own_rows}
use Rattle.link_info.specs.Tables.{row_at}
use Rattle.link_info.specs.declared.place.Place.{Place}
use Rattle.link_info.specs.declared.place.Place.TheVariants as Places
use Rattle.link_info.specs.declared.style.Row.{Row}
use Rattle.link_info.specs.declared.style.Style.TheVariants as S
use Rattle.frame_shown.specs.Names.{are_apart}
use Rattle.frame_shown.specs.Tables.{Known, Rows, af_spec_form, info_row, is_kept, listed_row, message_row, nest_row}
use Rattle.frame_shown.specs.Tables.{no_row, place_row, proto_info_form, proto_inet6_row, row_by, row_found, row_in}
use Rattle.frame_shown.specs.Tables.{refused_row, row_of_list, rows_in, styled, xstats_row}
use Rattle.frame_shown.specs.declared.form.Around.{Around}
use Rattle.frame_shown.specs.declared.form.Form.{Form}
use Rattle.frame_shown.specs.declared.form.Form.TheVariants as Forms
use Rattle.frame_shown.specs.declared.form.List.{List as Shape}
use Rattle.frame_shown.specs.declared.form.List.TheVariants as Shapes
use Rattle.frame_shown.specs.declared.form.Table.{Table}
use Rattle.frame_shown.specs.declared.form.Table.TheVariants as Tables
use Rattle.frame_shown.specs.declared.form.Way.TheVariants as Ways
use Rattle.frame_shown.specs.declared.tables.link.TheConstants.{KERNEL_NAMES, MESSAGE}
use Rattle.frame_diff.specs.Forests.{is_text}
use Rattle.frame_diff.specs.Names.{NamesAreApart}
use Rattle.frame_diff.specs.Shown.{HasNamesApart, AreNumbersApart}
use Rattle.frame_diff.proofs.Shown.{lists_shown}
use Rattle.frame_diff.proofs.Steps.{text_is}
use Rattle.frame_diff.proofs.ListRows.{lists_apart}

-- ** numbers and their names

abbrev Keys : Type 0
Keys = List (ℕ × List ℕ)

-- the first name of a number
abbrev name_of : Keys → ℕ → Option (List ℕ)
name_of [] n = None
name_of (row ∷ rows) n = cond (row.0 == n) (Some row.1) (name_of rows n)

abbrev names : Keys → List (List ℕ)
names rows = map (λ row. row.1) rows

has : (rows : Keys) (n : ℕ) (name : List ℕ) → name_of rows n ≡ Some name
    → list_any (λ other. is_text other name) (names rows) ≡ true
has [] n name h = absurd cc
has (row ∷ rows) n name h = by (row.0 == n) h (has rows n name)
  where
    by : (b : Bool) → cond b (Some row.1) (name_of rows n) ≡ Some name
        → (name_of rows n ≡ Some name → list_any (λ other. is_text other name) (names rows) ≡ true)
        → (is_text row.1 name || list_any (λ other. is_text other name) (names rows)) ≡ true
    by true h later =
        let same : row.1 ≡ name = cc in
        ap (λ t. is_text t name || list_any (λ other. is_text other name) (names rows)) same
        ∙ ap (λ b. b || list_any (λ other. is_text other name) (names rows)) (text_is name)
    by false h later = ap (λ b. is_text row.1 name || b) (later h) ∙ or-true (is_text row.1 name)

first_apart : (a b : Bool) → (not a && b) ≡ true → a ≡ false
first_apart true b h = absurd cc
first_apart false b h = refl

rest_apart : (a b : Bool) → (not a && b) ≡ true → b ≡ true
rest_apart true b h = absurd cc
rest_apart false b h = h

one_number : (rows : Keys) → are_apart (names rows) ≡ true → (m n : ℕ) (s : List ℕ) → name_of rows m ≡ Some s
    → name_of rows n ≡ Some s → m ≡ n
one_number [] apart m n s h k = absurd cc
one_number (row ∷ rows) apart m n s h k =
    by (row.0 == m) (row.0 == n) refl refl h k (one_number rows
    (rest_apart (list_any (λ other. is_text other row.1) (names rows)) (are_apart (names rows)) apart) m n s)
  where
    first : list_any (λ other. is_text other row.1) (names rows) ≡ false
    first = first_apart (list_any (λ other. is_text other row.1) (names rows)) (are_apart (names rows)) apart

    -- its name does not come again
    again : (i : ℕ) → row.1 ≡ s → name_of rows i ≡ Some s → true ≡ false
    again i same found =
        sym (has rows i s found) ∙ ap (λ t. list_any (λ other. is_text other t) (names rows)) (sym same) ∙ first

    by : (b c : Bool) → (row.0 == m) ≡ b → (row.0 == n) ≡ c → cond b (Some row.1) (name_of rows m) ≡ Some s
        → cond c (Some row.1) (name_of rows n) ≡ Some s
        → (name_of rows m ≡ Some s → name_of rows n ≡ Some s → m ≡ n) → m ≡ n
    by true true is too h k later = sym (eqb-true row.0 m is) ∙ eqb-true row.0 n too
    by true false is too h k later =
        let same : row.1 ≡ s = cc in let clash = again n same k in absurd cc
    by false true is too h k later =
        let same : row.1 ≡ s = cc in let clash = again m same h in absurd cc
    by false false is too h k later = later h k

-- ** from the rows of a list

module _ (cx : Around) (list : Shape) (rows : Keys)
    (told : (n : ℕ) (p : List ℕ) → is_kept (listed_row cx list n).1 p ≡ false
    → name_of rows n ≡ Some (listed_row cx list n).0) where
  in_row : (n : ℕ) (p : List ℕ) → is_kept (row_in cx list n).1 p ≡ false
      → name_of rows n ≡ Some (row_in cx list n).0
  in_row n p = by (nat_lt n 256)
    where
      by : (b : Bool) → is_kept (cond b (listed_row cx list n) no_row).1 p ≡ false
          → name_of rows n ≡ Some (cond b (listed_row cx list n) no_row).0
      by true h = told n p h
      by false h = absurd cc

  apart_by : are_apart (names rows) ≡ true → AreNumbersApart cx list
  apart_by apart m n p q h k same =
      one_number rows apart m n (row_in cx list n).0 (in_row m p h ∙ ap Some same) (in_row n q k)

-- ** tables of this crate

abbrev table_keys : Rows → Keys
table_keys rows = map (λ row. (row.0, row.1.0)) rows

table_told : (rows : Rows) (n : ℕ) (p : List ℕ) → is_kept (row_by rows n).1 p ≡ false
    → name_of (table_keys rows) n ≡ Some (row_by rows n).0
table_told [] n p h = absurd cc
table_told (row ∷ rows) n p h = by (row.0 == n) h (table_told rows n p)
  where
    by : (b : Bool) → is_kept (row_found (cond b (Some row) (find (λ r. r.0 == n) rows))).1 p ≡ false
        → (is_kept (row_by rows n).1 p ≡ false → name_of (table_keys rows) n ≡ Some (row_by rows n).0)
        → cond b (Some row.1.0) (name_of (table_keys rows) n)
        ≡ Some (row_found (cond b (Some row) (find (λ r. r.0 == n) rows))).0
    by true h later = refl
    by false h later = later h

table_apart : (table : Table) → are_apart (names (table_keys (rows_in table))) ≡ true
table_apart Tables.Families = refl
table_apart Tables.Inet = refl
table_apart Tables.Inet6 = refl
table_apart Tables.Mctp = refl
table_apart Tables.Xdp = refl
table_apart Tables.Props = refl
table_apart Tables.DevlinkPort = refl
table_apart Tables.DpllPin = refl
table_apart Tables.DownReason = refl
table_apart Tables.Function = refl
table_apart Tables.FunctionStats = refl
table_apart Tables.FunctionVlans = refl

-- ** rows of link data

abbrev place_keys : List Row → Keys
place_keys rows = map (λ row. (row.0, row.1.now)) rows

place_told : (rows : List Row) (n : ℕ) (p : List ℕ) → is_kept (styled (row_at rows n)).1 p ≡ false
    → name_of (place_keys rows) n ≡ Some (styled (row_at rows n)).0
place_told [] n p h = absurd cc
place_told (row ∷ rows) n p h = by (row.0 == n) h (place_told rows n p)
  where
    by : (b : Bool) → is_kept (styled (cond b (Some row) (row_at rows n))).1 p ≡ false
        → (is_kept (styled (row_at rows n)).1 p ≡ false
        → name_of (place_keys rows) n ≡ Some (styled (row_at rows n)).0)
        → cond b (Some row.1.now) (name_of (place_keys rows) n)
        ≡ Some (styled (cond b (Some row) (row_at rows n))).0
    by true h later = refl
    by false h later = later h

keys_now : (rows : List Row) → place_keys (map row_now rows) ≡ place_keys rows
keys_now [] = refl
keys_now (row ∷ rows) = ap (λ ks. (row.0, row.1.now) ∷ ks) (keys_now rows)

own_apart : (place : Place) → are_apart (names (place_keys (own_rows place))) ≡ true
own_apart Places.Vlan = refl
own_apart Places.VlanQos = refl
own_apart Places.Bond = refl
own_apart Places.BondAdInfo = refl
own_apart Places.BondSlave = refl
own_apart Places.Bridge = refl
own_apart Places.BridgeQuerier = refl
own_apart Places.BridgePort = refl
own_apart Places.Vxlan = refl
own_apart Places.Geneve = refl
own_apart Places.Gre = refl
own_apart Places.Gre6 = refl
own_apart Places.IpTunnel = refl
own_apart Places.Ip6Tunnel = refl
own_apart Places.Vti = refl
own_apart Places.Vti6 = refl
own_apart Places.Xfrm = refl
own_apart Places.Macvlan = refl
own_apart Places.MacvlanAddresses = refl
own_apart Places.Ipvlan = refl
own_apart Places.Macsec = refl
own_apart Places.Can = refl
own_apart Places.CanTdc = refl
own_apart Places.CanCtrlmode = refl
own_apart Places.Vrf = refl
own_apart Places.VrfPort = refl
own_apart Places.Tun = refl
own_apart Places.Netkit = refl
own_apart Places.Hsr = refl
own_apart Places.Rmnet = refl
own_apart Places.Gtp = refl
own_apart Places.Bareudp = refl
own_apart Places.Amt = refl
own_apart Places.Wwan = refl
own_apart Places.Ovpn = refl
own_apart Places.Veth = refl
own_apart Places.Vxcan = refl
own_apart Places.Ppp = refl
own_apart Places.BridgeSpec = refl
own_apart Places.BridgeVlanTunnel = refl
own_apart Places.BridgeMst = refl
own_apart Places.BridgeMstEntry = refl
own_apart Places.Inet6 = refl
own_apart Places.Port = refl

module _ (cx : Around) (all : AreAllRows cx.tables.now) where
  own_keys : (place : Place) → place_keys (rows_of cx.tables.now place) ≡ place_keys (own_rows place)
  own_keys place = sym (keys_now (rows_of cx.tables.now place)) ∙ ap place_keys (all place)

  place_apart : (place : Place) → are_apart (names (place_keys (rows_of cx.tables.now place))) ≡ true
  place_apart place = ap (λ ks. are_apart (names ks)) (own_keys place) ∙ own_apart place

  -- what IPv6 says of a link: its three records have the names of the place
  inet6_told : (n : ℕ) (p : List ℕ) → is_kept (proto_inet6_row cx n).1 p ≡ false
      → name_of (place_keys (rows_of cx.tables.now Places.Inet6)) n ≡ Some (proto_inet6_row cx n).0
  inet6_told n p = by (n == 2) (n == 3) (n == 6) refl refl refl
    where
      keys : Keys
      keys = place_keys (rows_of cx.tables.now Places.Inet6)

      at : (i : ℕ) → n ≡ i → name_of keys n ≡ name_of (place_keys inet6_rows) i
      at i is = (λ k. name_of (own_keys Places.Inet6 k) (is k))

      own : (i : ℕ) → n ≡ i → Some (row_by (rows_in Tables.Inet6) i).0 ≡ Some (row_by (rows_in Tables.Inet6) n).0
      own i is = ap (λ k. Some (row_by (rows_in Tables.Inet6) k).0) (sym is)

      by : (b c d : Bool) → (n == 2) ≡ b → (n == 3) ≡ c → (n == 6) ≡ d
          → is_kept (cond b (row_by (rows_in Tables.Inet6) n) (cond c (row_by (rows_in Tables.Inet6) n)
          (cond d (row_by (rows_in Tables.Inet6) n) (place_row cx Places.Inet6 n)))).1 p ≡ false
          → name_of keys n ≡ Some (cond b (row_by (rows_in Tables.Inet6) n) (cond c (row_by (rows_in Tables.Inet6) n)
          (cond d (row_by (rows_in Tables.Inet6) n) (place_row cx Places.Inet6 n)))).0
      by true c d two three six h = at 2 (eqb-true n 2 two) ∙ own 2 (eqb-true n 2 two)
      by false true d two three six h = at 3 (eqb-true n 3 three) ∙ own 3 (eqb-true n 3 three)
      by false false true two three six h = at 6 (eqb-true n 6 six) ∙ own 6 (eqb-true n 6 six)
      by false false false two three six h = place_told (rows_of cx.tables.now Places.Inet6) n p h

-- ** attributes of a link

abbrev message_rows : List (List ℕ × Form)
message_rows = map (λ row. (row.0.now, row.1)) MESSAGE

not_same : (k n : ℕ) → k < n → (k == n) ≡ false
not_same k n less = by (k == n) refl
  where
    by : (b : Bool) → (k == n) ≡ b → b ≡ false
    by true h = absurd (omega (arith, eqb-true k n h))
    by false h = refl

-- rows at the places of their numbers, and what stands behind the last one, which has no name
module _ {A : Type 0} (known : A → Known) (none : A) (kept : (p : List ℕ) → is_kept (known none).1 p ≡ true) where
  abbrev listed_keys : ℕ → List A → Keys
  listed_keys k [] = []
  listed_keys k (row ∷ rows) = (k, (known row).0) ∷ listed_keys (k + 1) rows

  listed_told : (rows : List A) (n k m : ℕ) (p : List ℕ) → m ≡ n + k
      → is_kept (known (get_or rows n none)).1 p ≡ false
      → name_of (listed_keys k rows) m ≡ Some (known (get_or rows n none)).0
  listed_told [] n k m p is h = let clash : true ≡ false = sym (kept p) ∙ h in absurd cc
  listed_told (row ∷ rows) zero k m p is h =
      let same : k ≡ m = omega (arith, is) in
      ap (λ b. cond b (Some (known row).0) (name_of (listed_keys (k + 1) rows) m)) (eq-eqb k m same)
  listed_told (row ∷ rows) (suc n) k m p is h =
      ap (λ b. cond b (Some (known row).0) (name_of (listed_keys (k + 1) rows) m)) (not_same k m (omega (arith, is)))
      ∙ listed_told rows n (k + 1) m p (omega (arith, is)) h

abbrev own_row : List ℕ × Form → Known
own_row row = (row.0, Ways.Own row.1)

abbrev message_keys : Keys
message_keys = listed_keys own_row ([], Forms.Kept) (λ p. refl) 0 message_rows

abbrev refused_rows : List Known
refused_rows = map (λ name. (name.now, Ways.By S.Bytes)) KERNEL_NAMES

abbrev refused_keys : Keys
refused_keys = listed_keys (λ row. row) no_row (λ p. refl) 0 refused_rows

refused_told : (n : ℕ) (p : List ℕ) → is_kept (refused_row n).1 p ≡ false
    → name_of refused_keys n ≡ Some (refused_row n).0
refused_told n p h = listed_told (λ row. row) no_row (λ p. refl) refused_rows n 0 n p (omega arith) h

refused_apart : are_apart (names refused_keys) ≡ true
refused_apart = refl

message_told : (family n : ℕ) (p : List ℕ) → is_kept (message_row family n).1 p ≡ false
    → name_of message_keys n ≡ Some (message_row family n).0
message_told family n p = by (n == 26) (n == 12) refl refl
  where
    by : (b c : Bool) → (n == 26) ≡ b → (n == 12) ≡ c
        → is_kept (cond b (codes "af-spec", Ways.Own (af_spec_form family))
        (cond c (codes "protinfo", Ways.Own (proto_info_form family)) (row_of_list message_rows n))).1 p ≡ false
        → name_of message_keys n
        ≡ Some (cond b (codes "af-spec", Ways.Own (af_spec_form family))
        (cond c (codes "protinfo", Ways.Own (proto_info_form family)) (row_of_list message_rows n))).0
    by true c is too h = ap (name_of message_keys) (eqb-true n 26 is)
    by false true is too h = ap (name_of message_keys) (eqb-true n 12 too)
    by false false is too h =
        listed_told own_row ([], Forms.Kept) (λ p. refl) message_rows n 0 n p (omega arith) h

message_apart : are_apart (names message_keys) ≡ true
message_apart = refl

-- ** a link's kinds

abbrev info_keys : Keys
info_keys =
    (1, codes "kind")
    ∷ (2, codes "data")
    ∷ (3, codes "xstats")
    ∷ (4, codes "slave-kind")
    ∷ (5, codes "slave-data")
    ∷ []

nest_name : (name : List ℕ) (place : Option Place) → (nest_row name place).0 ≡ name
nest_name name None = refl
nest_name name (Some place) = refl

xstats_name : (cx : Around) (link : Option Place) → (xstats_row cx link).0 ≡ codes "xstats"
xstats_name cx None = refl
xstats_name cx (Some place) = by place
  where
    by : (at : Place) → (xstats_row cx (Some at)).0 ≡ codes "xstats"
    by Places.Vlan = refl
    by Places.VlanQos = refl
    by Places.Bond = refl
    by Places.BondAdInfo = refl
    by Places.BondSlave = refl
    by Places.Bridge = refl
    by Places.BridgeQuerier = refl
    by Places.BridgePort = refl
    by Places.Vxlan = refl
    by Places.Geneve = refl
    by Places.Gre = refl
    by Places.Gre6 = refl
    by Places.IpTunnel = refl
    by Places.Ip6Tunnel = refl
    by Places.Vti = refl
    by Places.Vti6 = refl
    by Places.Xfrm = refl
    by Places.Macvlan = refl
    by Places.MacvlanAddresses = refl
    by Places.Ipvlan = refl
    by Places.Macsec = refl
    by Places.Can = refl
    by Places.CanTdc = refl
    by Places.CanCtrlmode = refl
    by Places.Vrf = refl
    by Places.VrfPort = refl
    by Places.Tun = refl
    by Places.Netkit = refl
    by Places.Hsr = refl
    by Places.Rmnet = refl
    by Places.Gtp = refl
    by Places.Bareudp = refl
    by Places.Amt = refl
    by Places.Wwan = refl
    by Places.Ovpn = refl
    by Places.Veth = refl
    by Places.Vxcan = refl
    by Places.Ppp = refl
    by Places.BridgeSpec = refl
    by Places.BridgeVlanTunnel = refl
    by Places.BridgeMst = refl
    by Places.BridgeMstEntry = refl
    by Places.Inet6 = refl
    by Places.Port = refl

module _ (cx : Around) (link port : Option Place) (n : ℕ) (p : List ℕ) where
  info_told : is_kept (info_row cx link port n).1 p ≡ false
      → name_of info_keys n ≡ Some (info_row cx link port n).0
  info_told = by (n == 1) (n == 2) (n == 3) (n == 4) (n == 5) refl refl refl refl refl
    where
      at : (i : ℕ) → (n == i) ≡ true → name_of info_keys n ≡ name_of info_keys i
      at i is = ap (name_of info_keys) (eqb-true n i is)

      by : (a b c d e : Bool) → (n == 1) ≡ a → (n == 2) ≡ b → (n == 3) ≡ c → (n == 4) ≡ d → (n == 5) ≡ e
          → is_kept (cond a (codes "kind", Ways.Own Forms.Text) (cond b (nest_row (codes "data") link)
          (cond c (xstats_row cx link) (cond d (codes "slave-kind", Ways.Own Forms.Text)
          (cond e (nest_row (codes "slave-data") port) no_row))))).1 p ≡ false
          → name_of info_keys n
          ≡ Some (cond a (codes "kind", Ways.Own Forms.Text) (cond b (nest_row (codes "data") link)
          (cond c (xstats_row cx link) (cond d (codes "slave-kind", Ways.Own Forms.Text)
          (cond e (nest_row (codes "slave-data") port) no_row))))).0
      by true b c d e one two three four five h = at 1 one
      by false true c d e one two three four five h = at 2 two ∙ ap Some (sym (nest_name (codes "data") link))
      by false false true d e one two three four five h = at 3 three ∙ ap Some (sym (xstats_name cx link))
      by false false false true e one two three four five h = at 4 four
      by false false false false true one two three four five h =
          at 5 five ∙ ap Some (sym (nest_name (codes "slave-data") port))
      by false false false false false one two three four five h = absurd cc

-- ** all lists

numbers_apart : (cx : Around) (list : Shape) → AreAllRows cx.tables.now → AreNumbersApart cx list
numbers_apart cx (Shapes.Message family) all =
    apart_by cx (Shapes.Message family) message_keys (message_told family) message_apart
numbers_apart cx (Shapes.Own table) all =
    apart_by cx (Shapes.Own table) (table_keys (rows_in table)) (table_told (rows_in table)) (table_apart table)
numbers_apart cx (Shapes.Listed group table) all =
    apart_by cx (Shapes.Listed group table) (table_keys (rows_in table)) (table_told (rows_in table))
    (table_apart table)
numbers_apart cx (Shapes.Entries group) all = apart_by cx (Shapes.Entries group) [] (λ n p h. absurd cc) refl
numbers_apart cx (Shapes.Of place) all =
    apart_by cx (Shapes.Of place) (place_keys (rows_of cx.tables.now place))
    (place_told (rows_of cx.tables.now place)) (place_apart cx all place)
numbers_apart cx Shapes.ProtoInet6 all =
    apart_by cx Shapes.ProtoInet6 (place_keys (rows_of cx.tables.now Places.Inet6)) (inet6_told cx all)
    (place_apart cx all Places.Inet6)
numbers_apart cx (Shapes.Info link port) all =
    apart_by cx (Shapes.Info link port) info_keys (info_told cx link port) refl
numbers_apart cx Shapes.Refused all = apart_by cx Shapes.Refused refused_keys refused_told refused_apart

all_apart : (cx : Around) (list : Shape) → AreAllRows cx.tables.now → HasNamesApart cx list
all_apart cx list all = record { numbers = numbers_apart cx list all; lists = lists_apart cx all list }

pub names_apart : NamesAreApart
names_apart = record {
  apart = all_apart;
  shown = λ n cx list p all. lists_shown n cx list p (all_apart cx list all);
}
