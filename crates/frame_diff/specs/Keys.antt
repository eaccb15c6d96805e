-- The numbers that tell the values of lists apart.
use Rattle.std.specs.Prelude.{ℕ, ◌==◌, ◌^◌, ◌&&◌, List, [], ◌∷◌, Bool, true, false, Option, None, Some}
use Rattle.std.specs.Prelude.{codes, cond, drop, length, nat_lt, not, take}
use Rattle.std.specs.Int.{w32}
use Rattle.std.specs.List.{list_any}
use Rattle.nla_wire.specs.Fields.{number_at}
use Rattle.nla_wire.specs.Frames.{Frame, number}
use Rattle.nla_wire.specs.Items.{items}
use Rattle.link_info.specs.Meanings.{Meaning, Members as Fields, Nested, Number, plain_meaning, read_as}
use Rattle.link_info.specs.Styles.{plain_size}
use Rattle.link_info.specs.Tables.{frames_in}
use Rattle.link_info.specs.declared.place.Place.TheVariants as Places
use Rattle.link_info.specs.declared.style.Member.{Member as Part}
use Rattle.link_info.specs.declared.style.Plain.{Plain}
use Rattle.link_info.specs.declared.style.Plain.TheVariants as P
use Rattle.link_info.specs.declared.style.Style.TheVariants as S
use Rattle.frame_shown.specs.Tables.{entry_list, row_in}
use Rattle.frame_shown.specs.declared.form.Around.{Around}
use Rattle.frame_shown.specs.declared.form.Form.TheVariants as Forms
use Rattle.frame_shown.specs.declared.form.Group.TheVariants as Groups
use Rattle.frame_shown.specs.declared.form.List.{List as Shape}
use Rattle.frame_shown.specs.declared.form.List.TheVariants as Shapes
use Rattle.frame_shown.specs.declared.form.Table.TheVariants as Tables
use Rattle.frame_shown.specs.declared.form.Way.{Way}
use Rattle.frame_shown.specs.declared.form.Way.TheVariants as Ways
use Rattle.frame_diff.specs.Forests.{is_text}
use Rattle.frame_diff.specs.Named.{last_named}
use Rattle.frame_diff.specs.declared.keys.Key.{Key}
use Rattle.frame_diff.specs.declared.keys.Key.TheVariants as Keys
use Rattle.frame_diff.specs.declared.walk.Attribute.{Attribute}

-- ** which lists have a key

-- the name of the number
abbrev pub key_name : Key → List ℕ
key_name Keys.Msti = codes "msti"
key_name Keys.From = codes "from"
key_name Keys.Vf = codes "vf"
key_name Keys.Number = codes "number"

abbrev pub is_key : Key → Option Key → Bool
is_key Keys.Msti (Some Keys.Msti) = true
is_key Keys.From (Some Keys.From) = true
is_key Keys.Vf (Some Keys.Vf) = true
is_key Keys.Number (Some Keys.Number) = true
is_key _ _ = false

-- of the values of the list of a number, or of all
abbrev pub key_at : Option ℕ → Shape → Option Key
key_at (Some n) (Shapes.Of Places.BridgeMst) = Some Keys.Msti
key_at (Some n) (Shapes.Of Places.VlanQos) = Some Keys.From
key_at None (Shapes.Entries Groups.Info) = Some Keys.Vf
key_at None (Shapes.Entries Groups.Port) = Some Keys.Vf
key_at _ _ = None

-- ** numbers

abbrev pub unsigned_in : Meaning → Option ℕ
unsigned_in (Number n) = Some n
unsigned_in _ = None

-- one that is shown as a number
abbrev pub plain_number : Plain → List ℕ → Option ℕ
plain_number (P.Unsigned size) p = cond (length p == plain_size (P.Unsigned size))
    (unsigned_in (plain_meaning (P.Unsigned size) p)) None
plain_number _ p = None

-- the first one of a name in a record
abbrev pub member_number : List Part → List ℕ → List ℕ → Option ℕ
member_number [] name p = None
member_number (m ∷ ms) name p = cond (is_text m.0.now name)
    (plain_number m.1 (take (plain_size m.1) p)) (member_number ms name (drop (plain_size m.1) p))

-- by the row of a number
abbrev pub way_number : Way → List ℕ → Option ℕ
way_number (Ways.By (S.Plain plain)) p = plain_number plain p
way_number _ p = None

abbrev pub frame_number : Around → Shape → Option Frame → Option ℕ
frame_number cx list None = None
frame_number cx list (Some f) = way_number (row_in cx list (number f)).1 f.payload

-- that of the last attribute of a name
abbrev pub named_number : Around → Shape → List ℕ → List ℕ → Option ℕ
named_number cx list name p = frame_number cx list (last_named cx list name None (frames_in (items p)))

abbrev pub meaning_number : Around → List ℕ → Meaning → Option ℕ
meaning_number cx name (Fields members p) = member_number members name p
meaning_number cx name (Nested place p) = named_number cx (Shapes.Of place) name p
meaning_number cx name _ = None

abbrev pub field_number : Around → List ℕ → Way → List ℕ → Option ℕ
field_number cx name (Ways.By style) p = meaning_number cx name (read_as style p)
field_number cx name (Ways.Own form) p = None

-- an attribute of a function is a record, whose first field is the function's number
abbrev pub is_record : Way → Bool
is_record (Ways.Own (Forms.Record kind)) = true
is_record _ = false

-- that of the first record behind which none of its number stands
abbrev pub function_in : Around → Shape → List Frame → Option ℕ
function_in cx list [] = None
function_in cx list (f ∷ fs) =
    cond (is_record (row_in cx list (number f)).1 && not (list_any (λ g. number g == number f) fs))
    (Some (number_at w32 f.payload 0)) (function_in cx list fs)

abbrev pub is_function : Shape → Bool
is_function (Shapes.Own Tables.Function) = true
is_function _ = false

-- of an entry
abbrev pub entry_number : Around → List ℕ → Shape → List ℕ → Option ℕ
entry_number cx name list p =
    cond (is_function list) (function_in cx list (frames_in (items p))) (named_number cx list name p)

-- of a value in a list with this key
abbrev pub number_said : Around → Key → Shape → Way → List ℕ → Option ℕ
number_said cx key (Shapes.Entries group) way p = entry_number cx (key_name key) (entry_list group) p
number_said cx key _ way p = field_number cx (key_name key) way p

-- one of eight bytes, as each is that bytes spell
abbrev pub bounded : Option ℕ → Option ℕ
bounded None = None
bounded (Some n) = cond (nat_lt n (2 ^ 64)) (Some n) None

abbrev pub number_by : Around → Key → Shape → Way → List ℕ → Option ℕ
number_by cx key list way p = bounded (number_said cx key list way p)

abbrev pub number_of : Key → Attribute → Option ℕ
number_of key a = number_by a.around.now key a.list a.way a.payload.now

-- of an attribute in a list with this key, or with none
abbrev pub number_in : Around → Option Key → Shape → Frame → Option ℕ
number_in cx None list f = None
number_in cx (Some key) list f = number_by cx key list (row_in cx list (number f)).1 f.payload
