-- The row of a number in a list of attributes: its name, and how its payload is shown.
use Rattle.std.specs.Prelude.{◌≡◌, ℕ, suc, ◌==◌, ◌&&◌, List, [], ◌∷◌, Option, None, Some, Bool, true, false, codes}
use Rattle.std.specs.Prelude.{IfSome, MatchOption, bit_and, cond, get_or}
use Rattle.std.specs.Prelude.{length}
use Rattle.std.specs.Prelude.{map, nat_lt, not}
use Rattle.std.specs.List.{find}
use Rattle.std.specs.Int.{byte_len}
use Rattle.link_info.specs.Places.{rows_of}
use Rattle.link_info.specs.Styles.{width}
use Rattle.link_info.specs.Tables.{row_at}
use Rattle.link_info.specs.declared.place.Place.{Place}
use Rattle.link_info.specs.declared.place.Place.TheVariants as Places
use Rattle.link_info.specs.declared.style.Row.{Row as PlaceRow}
use Rattle.link_info.specs.declared.style.Style.{Style}
use Rattle.link_info.specs.declared.style.Style.TheVariants as S
use Rattle.frame_shown.specs.Items.{Lists}
use Rattle.frame_shown.specs.declared.form.Around.{Around}
use Rattle.frame_shown.specs.declared.form.Form.{Form}
use Rattle.frame_shown.specs.declared.form.Form.TheVariants as Forms
use Rattle.frame_shown.specs.declared.form.Group.{Group}
use Rattle.frame_shown.specs.declared.form.Group.TheVariants as Groups
use Rattle.frame_shown.specs.declared.form.List.{List as Shape}
use Rattle.frame_shown.specs.declared.form.List.TheVariants as Shapes
use Rattle.frame_shown.specs.declared.form.Manner.{Manner}
use Rattle.frame_shown.specs.declared.form.Manner.TheVariants as Manners
use Rattle.frame_shown.specs.declared.row.Rows.{Rows as Standing}
use Rattle.frame_shown.specs.declared.form.Table.{Table}
use Rattle.frame_shown.specs.declared.form.Table.TheVariants as Tables
use Rattle.frame_shown.specs.declared.form.Way.{Way}
use Rattle.frame_shown.specs.declared.form.Way.TheVariants as Ways
use Rattle.frame_shown.specs.declared.tables.family.TheConstants.{FAMILIES, INET, INET6, MCTP}
use Rattle.frame_shown.specs.declared.tables.functions.TheConstants.{FUNCTION, FUNCTION_STATS, FUNCTION_VLANS}
use Rattle.frame_shown.specs.declared.tables.link.TheConstants.{MESSAGE, PROPS, DEVLINK_PORT, DPLL_PIN, DOWN_REASON}
use Rattle.frame_shown.specs.declared.tables.link.TheConstants.{KERNEL_NAMES, XDP}

-- a name, and how a payload is shown
abbrev pub Known : Type 0
Known = List ℕ × Way

abbrev pub no_row : Known
no_row = ([], Ways.Own Forms.Kept)

-- how a payload is shown by what stands in a table
abbrev pub manner_way : Manner → Way
manner_way (Manners.Own form) = Ways.Own form.now
manner_way (Manners.By style) = Ways.By style.now
manner_way (Manners.Nest place) = Ways.By (S.Nest place)
manner_way (Manners.Counters members) = Ways.By (S.Record members)
manner_way Manners.Bytes = Ways.By S.Bytes

-- ** tables of this crate: a number, a name and a form
abbrev pub Rows : Type 0
Rows = List (ℕ × (List ℕ × Form))

abbrev pub rows_in : Table → Rows
rows_in Tables.Families = map (λ row. (row.0, (row.1.now, row.2))) FAMILIES
rows_in Tables.Inet = map (λ row. (row.0, (row.1.now, row.2))) INET
rows_in Tables.Inet6 = map (λ row. (row.0, (row.1.now, row.2))) INET6
rows_in Tables.Mctp = map (λ row. (row.0, (row.1.now, row.2))) MCTP
rows_in Tables.Xdp = map (λ row. (row.0, (row.1.now, row.2))) XDP
rows_in Tables.Props = map (λ row. (row.0, (row.1.now, row.2))) PROPS
rows_in Tables.DevlinkPort = map (λ row. (row.0, (row.1.now, row.2))) DEVLINK_PORT
rows_in Tables.DpllPin = map (λ row. (row.0, (row.1.now, row.2))) DPLL_PIN
rows_in Tables.DownReason = map (λ row. (row.0, (row.1.now, row.2))) DOWN_REASON
rows_in Tables.Function = map (λ row. (row.0, (row.1.now, row.2))) FUNCTION
rows_in Tables.FunctionStats = map (λ row. (row.0, (row.1.now, row.2))) FUNCTION_STATS
rows_in Tables.FunctionVlans = map (λ row. (row.0, (row.1.now, row.2))) FUNCTION_VLANS

abbrev pub row_found : Option (ℕ × (List ℕ × Form)) → Known
row_found None = no_row
row_found (Some row) = (row.1.0, Ways.Own row.1.1)

-- the first row of a number
abbrev pub row_by : Rows → ℕ → Known
row_by rows n = row_found (find (λ row. row.0 == n) rows)

-- the rows have all numbers from this one on, in order
abbrev pub are_from : ℕ → Rows → Bool
are_from first [] = true
are_from first (row ∷ rows) = (row.0 == first) && are_from (suc first) rows

-- the number that is said of rows is that of the first, and they have all from it on
abbrev pub AreInOrder : Standing → Type 0
AreInOrder rows = IfSome rows.first (λ first.
    are_from first (map (λ row. (row.0, (row.1.now, row.2))) rows.rows.now) ≡ true)

-- of a table in which each row stands at the place of its number
abbrev pub row_of_list : List (List ℕ × Form) → ℕ → Known
row_of_list rows n = let row = get_or rows n ([], Forms.Kept) in (row.0, Ways.Own row.1)

-- ** attributes of a link, of which two go by the header's family
abbrev pub af_spec_form : ℕ → Form
af_spec_form family = cond (family == 0) (Forms.List (Shapes.Own Tables.Families))
    (cond (family == 7) (Forms.List (Shapes.Of Places.BridgeSpec)) Forms.Unflagged)

abbrev pub proto_info_form : ℕ → Form
proto_info_form family = cond (family == 7) (Forms.List (Shapes.Of Places.BridgePort))
    (cond (family == 10) (Forms.List Shapes.ProtoInet6) Forms.Kept)

abbrev pub message_row : ℕ → ℕ → Known
message_row family n =
    cond (n == 26) (codes "af-spec", Ways.Own (af_spec_form family))
    (cond (n == 12) (codes "protinfo", Ways.Own (proto_info_form family))
    (row_of_list (map (λ row. (row.0.now, row.1)) MESSAGE) n))

-- the name of a list
abbrev pub group_name : Group → List ℕ
group_name Groups.AltIfname = codes "alt-ifname"
group_name Groups.Info = codes "info"
group_name Groups.Port = codes "port"

-- how each entry of such a list is shown
abbrev pub entry_list : Group → Shape
entry_list Groups.AltIfname = Shapes.Own Tables.Props
entry_list Groups.Info = Shapes.Own Tables.Function
entry_list Groups.Port = Shapes.Of Places.Port

-- ** rows of link data
abbrev pub styled : Option PlaceRow → Known
styled None = no_row
styled (Some row) = (row.1.now, Ways.By row.2)

abbrev pub place_row : Around → Place → ℕ → Known
place_row cx place n = styled (row_at (rows_of cx.tables.now place) n)

-- what IPv6 says of a link: three records as in its settings, and all else by the rows of the place
abbrev pub proto_inet6_row : Around → ℕ → Known
proto_inet6_row cx n =
    cond (n == 2) (row_by (rows_in Tables.Inet6) n)
    (cond (n == 3) (row_by (rows_in Tables.Inet6) n)
    (cond (n == 6) (row_by (rows_in Tables.Inet6) n) (place_row cx Places.Inet6 n)))

-- ** a link's kinds, and the data by these
abbrev pub nest_row : List ℕ → Option Place → Known
nest_row name None = (name, Ways.Own Forms.Kept)
nest_row name (Some place) = (name, Ways.By (S.Nest place))

abbrev pub xstats_way : Around → Option Place → Way
xstats_way cx (Some Places.Can) = Ways.By (S.Record cx.can_stats)
xstats_way cx _ = Ways.Own Forms.Kept

abbrev pub xstats_row : Around → Option Place → Known
xstats_row cx link = (codes "xstats", xstats_way cx link)

abbrev pub info_row : Around → Option Place → Option Place → ℕ → Known
info_row cx link port n =
    cond (n == 1) (codes "kind", Ways.Own Forms.Text)
    (cond (n == 2) (nest_row (codes "data") link)
    (cond (n == 3) (xstats_row cx link)
    (cond (n == 4) (codes "slave-kind", Ways.Own Forms.Text)
    (cond (n == 5) (nest_row (codes "slave-data") port) no_row))))

-- ** attributes of a link that are refused: their bytes under the kernel's names
abbrev pub refused_row : ℕ → Known
refused_row n = get_or (map (λ name. (name.now, Ways.By S.Bytes)) KERNEL_NAMES) n no_row

-- ** the row of a number
abbrev pub listed_row : Around → Shape → ℕ → Known
listed_row cx (Shapes.Message family) n = message_row family n
listed_row cx (Shapes.Own table) n = row_by (rows_in table) n
listed_row cx (Shapes.Listed group table) n = row_by (rows_in table) n
listed_row cx (Shapes.Entries group) n = no_row
listed_row cx (Shapes.Of place) n = place_row cx place n
listed_row cx Shapes.ProtoInet6 n = proto_inet6_row cx n
listed_row cx (Shapes.Info link port) n = info_row cx link port n
listed_row cx Shapes.Refused n = refused_row n

-- the rows of a list that goes by a table of this crate
abbrev pub own_rows : Shape → Option Rows
own_rows (Shapes.Own table) = Some (rows_in table)
own_rows (Shapes.Listed group table) = Some (rows_in table)
own_rows list = None

abbrev pub AreOf : Option Standing → Shape → Type 0
AreOf rows list = MatchOption rows (own_rows list ≡ None)
    (λ r. AreInOrder r × (own_rows list ≡ Some (map (λ row. (row.0, (row.1.now, row.2))) r.rows.now)))

-- only numbers below 256 have one
abbrev pub row_in : Around → Shape → ℕ → Known
row_in cx list n = cond (nat_lt n 256) (listed_row cx list n) no_row

-- a row of this crate
abbrev pub is_own : Way → Bool
is_own (Ways.Own form) = true
is_own (Ways.By style) = false

-- a value of a list
abbrev pub is_listed : Style → Bool
is_listed (S.Each element) = true
is_listed _ = false

abbrev pub is_each : Way → Bool
is_each (Ways.Own form) = false
is_each (Ways.By style) = is_listed style

-- the number and the name of each list that rows of link data have
abbrev pub lists_of : List PlaceRow → Lists
lists_of [] = []
lists_of (row ∷ rows) = cond (is_listed row.2) ((row.0, row.1.now) ∷ lists_of rows) (lists_of rows)

-- the rows of link data among those of a list
abbrev pub data_rows : Around → Shape → List PlaceRow
data_rows cx (Shapes.Of place) = rows_of cx.tables.now place
data_rows cx Shapes.ProtoInet6 = rows_of cx.tables.now Places.Inet6
data_rows cx _ = []

abbrev pub lists_in : Around → Shape → Lists
lists_in cx list = lists_of (data_rows cx list)

-- an attribute with this payload is kept as it is
abbrev pub is_kept_form : Form → List ℕ → Bool
is_kept_form Forms.Kept p = true
is_kept_form Forms.Unflagged p = true
is_kept_form (Forms.Exact size) p = not (length p == byte_len (width size))
is_kept_form _ p = false

abbrev pub is_kept : Way → List ℕ → Bool
is_kept (Ways.Own form) p = is_kept_form form p
is_kept (Ways.By style) p = false

-- the kind that is shown of one that is kept
abbrev pub kind_shown : Way → ℕ → ℕ
kind_shown (Ways.Own Forms.Unflagged) kind = bit_and kind 0x3fff
kind_shown _ kind = kind
