-- What is told of a state as a whole is read as of a message.
use Rattle.std.proofs.Common.{◌≡◌, ℕ, zero, suc, ◌==◌, Bool, true, false, List, [], ◌∷◌, ◌++◌, filter, map, refl}
use Rattle.std.proofs.Common.{sym}
use Rattle.std.proofs.Common.{ap, subst, ◌∙◌, eqb-true, cond}
use Rattle.std.proofs.lemmas.List.{map-id}
use Rattle.std.specs.Prelude.{◌&&◌, ◌||◌, Some, Result, Ok, Err, codes, if◌then◌else◌, length, nat_lt, not}
use Rattle.std.specs.List.{AllByRecursion, find, flat_map, list_all, list_any}
use Rattle.nla_wire.specs.Canon.{IsWritable, canons}
use Rattle.nla_wire.specs.Frames.{Frame, Frames, IsBytes, IsFrame, number}
use Rattle.nla_wire.specs.Items.{items}
use Rattle.nla_wire.specs.Payloads.{text}
use Rattle.nla_wire.specs.declared.error.Cause.{Cause}
use Rattle.nla_wire.proofs.Back.{all_filtered, canons_frames}
use Rattle.nla_wire.proofs.Items.{items_case}
use Rattle.nla_wire.proofs.Steps.{step_framed, step_rest_bytes}
use Rattle.link_info.specs.Lent.{row_now, style_now}
use Rattle.link_info.specs.Meanings.{Meaning, Raw, Present, Number, Signed, Words, Hardware, Four, Six, read_as}
use Rattle.link_info.specs.Meanings.{Members as Fields, Elements, Listed, Nested, form_meaning, plain_meaning}
use Rattle.link_info.specs.Meanings.{plain_or_bytes, record_or_bytes, nest_or_bytes, text_or_bytes, flag_meaning}
use Rattle.link_info.specs.Places.{rows_of}
use Rattle.link_info.specs.Rows.{AreAllRows, own_rows}
use Rattle.link_info.specs.Styles.{Form as Spelling, Host, Network, Twos, SixOctets, FourOctets, SixteenOctets}
use Rattle.link_info.specs.Styles.{Octets, are_frames, are_frames_of, form, is_multiple, plain_size, record_size}
use Rattle.link_info.specs.Tables.{frames_in, row_at}
use Rattle.link_info.specs.declared.place.Place.{Place}
use Rattle.link_info.specs.declared.place.Place.TheVariants as Places
use Rattle.link_info.specs.declared.style.Element.TheVariants as E
use Rattle.link_info.specs.declared.style.Member.{Member as Part}
use Rattle.link_info.specs.declared.style.Plain.{Plain}
use Rattle.link_info.specs.declared.style.Row.{Row}
use Rattle.link_info.specs.declared.style.Style.{Style}
use Rattle.link_info.specs.declared.style.Style.TheVariants as S
use Rattle.link_state.specs.Table.{Action, action_of}
use Rattle.link_state.specs.declared.level.Level.TheVariants as Levels
use Rattle.frame_shown.specs.Frames.{levels, way_shown}
use Rattle.frame_shown.specs.Tables.{Known, Rows, entry_list, group_name, is_each, lists_in}
use Rattle.frame_shown.specs.Tables.{listed_row, no_row, row_by, row_found, row_in, rows_in, styled}
use Rattle.frame_shown.specs.Values.{Nesting}
use Rattle.frame_shown.specs.declared.form.Around.{Around}
use Rattle.frame_shown.specs.declared.form.Form.{Form}
use Rattle.frame_shown.specs.declared.form.Form.TheVariants as Forms
use Rattle.frame_shown.specs.declared.form.Group.{Group}
use Rattle.frame_shown.specs.declared.form.Group.TheVariants as Groups
use Rattle.frame_shown.specs.declared.form.List.{List as Shape}
use Rattle.frame_shown.specs.declared.form.List.TheVariants as Shapes
use Rattle.frame_shown.specs.declared.form.Table.{Table}
use Rattle.frame_shown.specs.declared.form.Table.TheVariants as Tables
use Rattle.frame_shown.specs.declared.form.Way.{Way}
use Rattle.frame_shown.specs.declared.form.Way.TheVariants as Ways
use Rattle.frame_shown.proofs.Alike.{frames_are}
use Rattle.frame_diff.specs.Counters.{action_in, is_clear}
use Rattle.frame_diff.specs.Forests.{Forest, Member, Step, left_of, rest_step, values_step}
use Rattle.frame_diff.specs.Keys.{key_at, number_in}
use Rattle.frame_diff.specs.Labels.{keyed}
use Rattle.frame_diff.specs.Members.{Inner, Reading, array_at, arrays_in, earlier, form_inside, frame_member}
use Rattle.frame_diff.specs.Members.{group_of, held_by, inside_of, inside_with, is_some, is_unnamed, kept_by}
use Rattle.frame_diff.specs.Members.{kept_in, list_at, list_members, listed_in, meaning_inside, members_in}
use Rattle.frame_diff.specs.Members.{named_in, places, reading, value_with, values_with, way_inside, kept_inside}
use Rattle.frame_diff.specs.Members.{kept_with, list_by}
use Rattle.frame_diff.specs.Settled.{is_still, settled, stands_still}
use Rattle.frame_diff.specs.Still.{WholesStandStill}
use Rattle.frame_diff.specs.declared.keys.Key.{Key}
use Rattle.frame_diff.specs.declared.keys.Key.TheVariants as Keys
use Rattle.frame_diff.specs.Members.{runs_by, runs_or}
use Rattle.frame_diff.specs.Members.{is_own_key}
use Rattle.std.specs.Prelude.{None}

-- ** what is left of an entry

framed : (b : List ℕ) → IsBytes b → AllByRecursion IsFrame (frames_in (items b))
framed b = items_case (λ b xs. IsBytes b → AllByRecursion IsFrame (frames_in xs)) (λ small. tt) (λ b c e small. tt)
    (λ b f rest e later small. (step_framed b f rest small e, later (step_rest_bytes b f rest small e))) b

writable : (fs : List Frame) → AllByRecursion IsFrame fs → AllByRecursion IsWritable fs
writable [] framed = tt
writable (f ∷ fs) framed =
    (record { kind = framed.0.kind; size = framed.0.size }, writable fs framed.1)

read_back : (fs : List Frame) → AllByRecursion IsFrame fs → frames_in (items (canons (λ f. f) fs)) ≡ fs
read_back fs framed =
    frames_are (canons (λ f. f) fs) fs
    (subst (Frames (canons (λ f. f) fs)) (map-id fs) (canons_frames (λ f. f) fs (writable fs framed)))

all_kept : (test : Frame → Bool) (fs : List Frame) → list_any (λ f. not (test f)) fs ≡ false → filter test fs ≡ fs
all_kept test [] none = refl
all_kept test (f ∷ fs) none = by (test f) none (all_kept test fs)
  where
    by : (b : Bool) → (not b || list_any (λ g. not (test g)) fs) ≡ false
        → (list_any (λ g. not (test g)) fs ≡ false → filter test fs ≡ fs)
        → cond b (f ∷ filter test fs) (filter test fs) ≡ f ∷ fs
    by true none later = ap (λ gs. f ∷ gs) (later none)
    by false none later = absurd cc

left : (list : Shape) (p : List ℕ) → IsBytes p
    → frames_in (items (settled true list p)) ≡ filter (stands_still list) (frames_in (items p))
left list p small = by (list_any (λ f. not (stands_still list f)) fs) refl
  where
    fs : List Frame
    fs = frames_in (items p)

    by : (b : Bool) → list_any (λ f. not (stands_still list f)) fs ≡ b
        → frames_in (items (cond b (canons (λ f. f) (filter (stands_still list) fs)) p)) ≡ filter (stands_still list) fs
    by true some =
        read_back (filter (stands_still list) fs) (all_filtered IsFrame (stands_still list) fs (framed p small))
    by false none = sym (all_kept (stands_still list) fs none)

-- ** lists of which a state clears nothing, at any depth, where the rows are those of `link_info`

abbrev is_still_place : Place → Bool
is_still_place Places.BridgeSpec = true
is_still_place Places.BridgeVlanTunnel = true
is_still_place Places.BridgeMst = true
is_still_place Places.BridgeMstEntry = true
is_still_place Places.VlanQos = true
is_still_place Places.Port = true
is_still_place _ = false

abbrev is_still_table : Table → Bool
is_still_table Tables.Props = true
is_still_table Tables.FunctionVlans = true
is_still_table _ = false

abbrev is_still_list : Shape → Bool
is_still_list (Shapes.Own table) = is_still_table table
is_still_list (Shapes.Listed group table) = is_still_table table
is_still_list (Shapes.Of place) = is_still_place place
is_still_list _ = false

abbrev is_still_form : Form → Bool
is_still_form (Forms.List list) = is_still_list list
is_still_form Forms.Info = false
is_still_form _ = true

abbrev is_still_style : Style → Bool
is_still_style (S.Nest place) = is_still_place place
is_still_style (S.Each (E.Nest place)) = is_still_place place
is_still_style _ = true

abbrev is_still_way : Way → Bool
is_still_way (Ways.Own form) = is_still_form form
is_still_way (Ways.By style) = is_still_style style

abbrev is_still_row : Known → Bool
is_still_row row = is_still_way row.1

no_level : (list : Shape) → is_still_list list ≡ true → (n : ℕ) → action_in true list n ≡ Action.Keep
no_level (Shapes.Own table) h n = by table h
  where
    by : (table : Table) → is_still_table table ≡ true → action_in true (Shapes.Own table) n ≡ Action.Keep
    by Tables.Props h = refl
    by Tables.FunctionVlans h = refl
    by _ h = absurd cc
no_level (Shapes.Listed group table) h n = refl
no_level (Shapes.Of place) h n = by place h
  where
    by : (place : Place) → is_still_place place ≡ true → action_in true (Shapes.Of place) n ≡ Action.Keep
    by Places.BridgeSpec h = refl
    by Places.BridgeVlanTunnel h = refl
    by Places.BridgeMst h = refl
    by Places.BridgeMstEntry h = refl
    by Places.VlanQos h = refl
    by Places.Port h = refl
    by _ h = absurd cc
no_level (Shapes.Message family) h n = absurd cc
no_level (Shapes.Entries group) h n = absurd cc
no_level Shapes.ProtoInet6 h n = absurd cc
no_level Shapes.Refused h n = absurd cc
no_level (Shapes.Info link port) h n = absurd cc

-- ** their rows

either : (b : Bool) (x y : Known) → is_still_row x ≡ true → is_still_row y ≡ true → is_still_row (cond b x y) ≡ true
either true x y h k = h
either false x y h k = k

and_parts : (a b : Bool) → (a && b) ≡ true → (a ≡ true) × (b ≡ true)
and_parts true b h = (refl, h)
and_parts false b h = absurd cc

-- of the numbers that pass a test
module _ (test : ℕ → Bool) where
  abbrev passes : ℕ × (List ℕ × Form) → Bool
  passes row = not (test row.0) || is_still_form row.1.1

  found_still : (rows : Rows) (n : ℕ) → test n ≡ true → list_all passes rows ≡ true
      → is_still_row (row_by rows n) ≡ true
  found_still [] n one all = refl
  found_still (row ∷ rows) n one all =
      let both = and_parts (passes row) (list_all passes rows) all in
      by (row.0 == n) refl (found_still rows n one both.1) both.0
    where
      first : (b : Bool) → b ≡ true → (not b || is_still_form row.1.1) ≡ true → is_still_form row.1.1 ≡ true
      first true is h = h
      first false is h = absurd cc

      by : (b : Bool) → (row.0 == n) ≡ b → is_still_row (row_by rows n) ≡ true → passes row ≡ true
          → is_still_row (row_found (cond b (Some row) (find (λ r. r.0 == n) rows))) ≡ true
      by true is later here = first (test row.0) (ap test (eqb-true row.0 n is) ∙ one) here
      by false is later here = later

style_alike : (style : Style) → is_still_style (style_now style) ≡ is_still_style style
style_alike (S.Each (E.Record members)) = refl
style_alike (S.Each (E.Nest place)) = refl
style_alike (S.Each (E.Plain plain)) = refl
style_alike style = refl

rows_alike : (rows : List Row) → list_all (λ row. is_still_style row.2) (map row_now rows)
    ≡ list_all (λ row. is_still_style row.2) rows
rows_alike [] = refl
rows_alike (row ∷ rows) = (λ k. style_alike row.2 k && rows_alike rows k)

placed_still : (rows : List Row) (n : ℕ) → list_all (λ row. is_still_style row.2) rows ≡ true
    → is_still_row (styled (row_at rows n)) ≡ true
placed_still [] n all = refl
placed_still (row ∷ rows) n all =
    let both = and_parts (is_still_style row.2) (list_all (λ row. is_still_style row.2) rows) all in
    by (row.0 == n) both.0 (placed_still rows n both.1)
  where
    by : (b : Bool) → is_still_style row.2 ≡ true → is_still_row (styled (row_at rows n)) ≡ true
        → is_still_row (styled (cond b (Some row) (row_at rows n))) ≡ true
    by true first later = first
    by false first later = later

own_still : (place : Place) → is_still_place place ≡ true
    → list_all (λ row. is_still_style row.2) (own_rows place) ≡ true
own_still Places.BridgeSpec h = refl
own_still Places.BridgeVlanTunnel h = refl
own_still Places.BridgeMst h = refl
own_still Places.BridgeMstEntry h = refl
own_still Places.VlanQos h = refl
own_still Places.Port h = refl
own_still _ h = absurd cc

table_still : (table : Table) → is_still_table table ≡ true → list_all (passes (λ n. true)) (rows_in table) ≡ true
table_still Tables.Props h = refl
table_still Tables.FunctionVlans h = refl
table_still _ h = absurd cc

module _ (cx : Around) (all : AreAllRows cx.tables.now) where
  listed_still : (list : Shape) → is_still_list list ≡ true → (n : ℕ) → is_still_row (listed_row cx list n) ≡ true
  listed_still (Shapes.Own table) h n = found_still (λ n. true) (rows_in table) n refl (table_still table h)
  listed_still (Shapes.Listed group table) h n = found_still (λ n. true) (rows_in table) n refl (table_still table h)
  listed_still (Shapes.Of place) h n =
      placed_still (rows_of cx.tables.now place) n
      (sym (rows_alike (rows_of cx.tables.now place)) ∙ ap (list_all (λ row. is_still_style row.2)) (all place)
      ∙ own_still place h)
  listed_still (Shapes.Message family) h n = absurd cc
  listed_still (Shapes.Entries group) h n = absurd cc
  listed_still Shapes.ProtoInet6 h n = absurd cc
  listed_still Shapes.Refused h n = absurd cc
  listed_still (Shapes.Info link port) h n = absurd cc

  rows_still : (list : Shape) → is_still_list list ≡ true → (n : ℕ) → is_still_row (row_in cx list n) ≡ true
  rows_still list h n = either (nat_lt n 256) (listed_row cx list n) no_row (listed_still list h n) refl

-- those of a function of which a state clears nothing
function_still : (cx : Around) (n : ℕ) → is_still (action_of Levels.Function n) ≡ true
    → is_still_row (row_in cx (Shapes.Own Tables.Function) n) ≡ true
function_still cx n h = either (nat_lt n 256) (row_by (rows_in Tables.Function) n) no_row
    (found_still (λ n. is_still (action_of Levels.Function n)) (rows_in Tables.Function) n h refl) refl

keep_of : (a : Action) → is_still a ≡ true → a ≡ Action.Keep
keep_of Action.Keep h = refl
keep_of Action.Clear h = absurd cc
keep_of (Action.ClearPart from to) h = absurd cc
keep_of (Action.Enter level) h = absurd cc
keep_of Action.EnterInfo h = absurd cc

-- ** what payloads mean

abbrev means_still : Meaning → Bool
means_still (Nested place p) = is_still_place place
means_still _ = true

form_still : (f : Spelling) (p : List ℕ) → means_still (form_meaning f p) ≡ true
form_still (Host size) p = refl
form_still (Network size) p = refl
form_still (Twos size) p = refl
form_still SixOctets p = refl
form_still FourOctets p = refl
form_still SixteenOctets p = refl
form_still (Octets n) p = refl

or_bytes : (b : Bool) (m : Meaning) (p : List ℕ) → means_still m ≡ true
    → means_still (if b then m else Raw p) ≡ true
or_bytes true m p h = h
or_bytes false m p h = refl

plain_still : (plain : Plain) (p : List ℕ) → means_still (plain_or_bytes plain p) ≡ true
plain_still plain p = or_bytes (length p == plain_size plain) (plain_meaning plain p) p (form_still (form plain) p)

record_still : (members : List Part) (p : List ℕ) → means_still (record_or_bytes members p) ≡ true
record_still members p = or_bytes (record_size members == length p) (Fields members p) p refl

nest_still : (place : Place) (p : List ℕ) → is_still_place place ≡ true → means_still (nest_or_bytes place p) ≡ true
nest_still place p h = or_bytes (are_frames (items p)) (Nested place p) p h

flag_still : (p : List ℕ) → means_still (flag_meaning p) ≡ true
flag_still [] = refl
flag_still (x ∷ p) = refl

text_still : (p : List ℕ) (r : Result (List ℕ) Cause) → means_still (text_or_bytes p r) ≡ true
text_still p (Ok s) = refl
text_still p (Err c) = refl

read_still : (style : Style) (p : List ℕ) → is_still_style style ≡ true → means_still (read_as style p) ≡ true
read_still S.Bytes p h = refl
read_still S.Flag p h = flag_still p
read_still S.Text p h = text_still p (text.reads p)
read_still (S.Plain plain) p h = plain_still plain p
read_still (S.Record members) p h = record_still members.now p
read_still (S.Array plain) p h = or_bytes (is_multiple (plain_size plain) (length p)) (Elements plain p) p refl
read_still (S.List plain) p h = or_bytes (are_frames_of (plain_size plain) (items p)) (Listed plain p) p refl
read_still (S.Nest place) p h = nest_still place p h
read_still (S.Each (E.Plain plain)) p h = plain_still plain p
read_still (S.Each (E.Record members)) p h = record_still members.now p
read_still (S.Each (E.Nest place)) p h = nest_still place p h

-- ** lists that hold the same in such lists

abbrev HoldSame : Inner → Inner → Type 0
HoldSame here there = (list : Shape) (p : List ℕ) → is_still_list list ≡ true → here list p ≡ there list p

module _ (here there : Inner) (cx : Around) (same : HoldSame here there) where
  meaning_same : (m : Meaning) → means_still m ≡ true
      → meaning_inside here Action.Keep m ≡ meaning_inside there Action.Keep m
  meaning_same (Nested place p) h = same (Shapes.Of place) p h
  meaning_same (Fields members p) h = refl
  meaning_same (Elements plain p) h = refl
  meaning_same (Listed plain p) h = refl
  meaning_same (Raw p) h = refl
  meaning_same Present h = refl
  meaning_same (Number n) h = refl
  meaning_same (Signed z) h = refl
  meaning_same (Words s) h = refl
  meaning_same (Hardware octets) h = refl
  meaning_same (Four address) h = refl
  meaning_same (Six address) h = refl

  form_same : (form : Form) (p : List ℕ) → is_still_form form ≡ true
      → form_inside here cx Action.Keep form p ≡ form_inside there cx Action.Keep form p
  form_same (Forms.List list) p h = same list p h
  form_same Forms.Info p h = absurd cc
  form_same (Forms.Settings set) p h = refl
  form_same (Forms.Counters words) p h = refl
  form_same Forms.Ipv6Counters p h = refl
  form_same (Forms.Record parts) p h = refl
  form_same Forms.Wireless p h = refl
  form_same Forms.Kept p h = refl
  form_same Forms.Unflagged p h = refl
  form_same (Forms.Number size) p h = refl
  form_same Forms.Signed p h = refl
  form_same Forms.Text p h = refl
  form_same (Forms.Exact size) p h = refl
  form_same Forms.Truth p h = refl
  form_same Forms.Id p h = refl
  form_same Forms.Address p h = refl
  form_same (Forms.Choice choice) p h = refl
  form_same (Forms.Flags bits) p h = refl
  form_same Forms.Ipv6 p h = refl
  form_same (Forms.Field field) p h = refl

  way_same : (way : Way) (p : List ℕ) → is_still_way way ≡ true
      → way_inside here cx Action.Keep way p ≡ way_inside there cx Action.Keep way p
  way_same (Ways.Own form) p h = form_same form p h
  way_same (Ways.By style) p h = meaning_same (read_as style p) (read_still style p h)

-- ** such attributes, of a state and of a message

module _ (nest : Nesting) (here there : Inner) (cx : Around) (same : HoldSame here there) (list : Shape) where
  abbrev r : Reading
  r = record { is_state = true; nest = nest; inner = here; around = cx }

  abbrev t : Reading
  t = record { is_state = false; nest = nest; inner = there; around = cx }

  abbrev row : Frame → Known
  row f = row_in cx list (number f)

  -- its payload is kept, and a state clears nothing inside it
  abbrev IsStill : Frame → Type 0
  IsStill f = (action_in true list (number f) ≡ Action.Keep) × (is_still_row (row f) ≡ true)

  held_same : (f : Frame) → IsStill f
      → held_by r (action_in true list (number f)) (row f).1 f.payload ≡ held_by t Action.Keep (row f).1 f.payload
  held_same f is =
      ap (λ a. held_by r a (row f).1 f.payload) is.0
      ∙ λ k. (way_shown nest cx (row f).1 f.payload, way_same here there cx same (row f).1 f.payload is.1 k)

  member_same : (f : Frame) → IsStill f → frame_member r list f ≡ frame_member t list f
  member_same f is =
      ap (λ held. cond (is_unnamed (row f).1 f.payload) [] ((Step.name (row f).0, held) ∷ [])) (held_same f is)

  value_same : (n : ℕ) (f : Frame) → IsStill f → value_with r list n f ≡ value_with t list n f
  value_same n f is =
      ap (λ held. cond (number f == n) (cond (is_each (row f).1) (Some held ∷ []) []) []) (held_same f is)

  kept_same : (f : Frame) → IsStill f → kept_with r list f ≡ kept_with t list f
  kept_same f is = ap (λ a. kept_by (is_clear a) cx (row f) f) is.0

  each_same : {X : Type 0} (F G : Frame → List X) → ((f : Frame) → IsStill f → F f ≡ G f) → (fs : List Frame)
      → AllByRecursion IsStill fs → flat_map F fs ≡ flat_map G fs
  each_same F G one [] is = refl
  each_same F G one (f ∷ fs) is = λ k. one f is.0 k ++ each_same F G one fs is.1 k

  module _ (fs : List Frame) (are : AllByRecursion IsStill fs) where
    named_same : named_in r list fs ≡ named_in t list fs
    named_same = each_same (frame_member r list) (frame_member t list) member_same fs are

    kept_in_same : kept_in r list fs ≡ kept_in t list fs
    kept_in_same = each_same (kept_with r list) (kept_with t list) kept_same fs are

    kept_inside_same : kept_inside r list fs ≡ kept_inside t list fs
    kept_inside_same = λ k.
        keyed Keys.Number
        (each_same (λ f. map (λ h. Some (number f)) (kept_with r list f))
        (λ f. map (λ h. Some (number f)) (kept_with t list f))
        (λ f is. ap (map (λ h. Some (number f))) (kept_same f is)) fs are k)
        (kept_in_same k)

    values_same : (n : ℕ) → values_with r list n fs ≡ values_with t list n fs
    values_same n = each_same (value_with r list n) (value_with t list n) (value_same n) fs are

    inside_same : (n : ℕ) → inside_with r list n fs ≡ inside_with t list n fs
    inside_same n = let key = key_at (Some n) list in λ k.
        runs_or (runs_by (Some n) list fs)
        (inside_of key
        (each_same (λ f. map (λ h. number_in cx key list f) (value_with r list n f))
        (λ f. map (λ h. number_in cx key list f) (value_with t list n f))
        (λ f is. ap (map (λ h. number_in cx key list f)) (value_same n f is)) fs are k)
        (values_same n k))

    arrays_same : arrays_in r list fs ≡ arrays_in t list fs
    arrays_same = λ k. flat_map (λ l. array_at l.1 (is_own_key (Some l.0) list) (values_same l.0 k)
        (inside_same l.0 k)) (lists_in cx list)

    members_same : members_in r list fs ≡ members_in t list fs
    members_same = λ k.
        named_same k ++ arrays_same k ++ list_at Step.repeated (earlier (named_same k))
        ++ list_by Step.other (kept_in_same k) (kept_inside_same k)

    listed_same : (group : Group) → listed_in r group list fs ≡ listed_in t group list fs
    listed_same group = λ k.
        group_of (values_step (group_name group)) (is_own_key None list) (map (λ (m : Member). Some m.1) (named_same k))
        (places (map (λ (m : Member). Some m.1) (named_same k)))
        ∷ list_by (rest_step (codes "other")) (kept_in_same k) (kept_inside_same k)

-- ** so many levels deep

module _ (cx : Around) (all : AreAllRows cx.tables.now) where
  are_still : (list : Shape) → is_still_list list ≡ true → (fs : List Frame)
      → AllByRecursion (λ f. (action_in true list (number f) ≡ Action.Keep)
      × (is_still_row (row_in cx list (number f)) ≡ true)) fs
  are_still list h [] = tt
  are_still list h (f ∷ fs) =
      ((no_level list h (number f), rows_still cx all list h (number f)), are_still list h fs)

  lists_same : (nest : Nesting) (here there : Inner) → HoldSame here there → (list : Shape) (fs : List Frame)
      → is_still_list list ≡ true
      → list_members (record { is_state = true; nest = nest; inner = here; around = cx }) list fs
      ≡ list_members (record { is_state = false; nest = nest; inner = there; around = cx }) list fs
  lists_same nest here there same (Shapes.Own table) fs h =
      let list = Shapes.Own table in members_same nest here there cx same list fs (are_still list h fs)
  lists_same nest here there same (Shapes.Listed group table) fs h =
      let list = Shapes.Listed group table in listed_same nest here there cx same list fs (are_still list h fs) group
  lists_same nest here there same (Shapes.Of place) fs h =
      let list = Shapes.Of place in members_same nest here there cx same list fs (are_still list h fs)
  lists_same nest here there same (Shapes.Message family) fs h = absurd cc
  lists_same nest here there same (Shapes.Entries group) fs h = absurd cc
  lists_same nest here there same Shapes.ProtoInet6 fs h = absurd cc
  lists_same nest here there same Shapes.Refused fs h = absurd cc
  lists_same nest here there same (Shapes.Info link port) fs h = absurd cc

  holds_same : (n : ℕ) → HoldSame (reading n true cx).inner (reading n false cx).inner
  holds_same zero list p h = refl
  holds_same (suc zero) list p h =
      ap (left_of (is_some (frames_in (items p))))
      (lists_same (levels 0 cx) (λ list p. Forest.none) (λ list p. Forest.none) (holds_same zero) list
      (frames_in (items p)) h)
  holds_same (suc (suc n)) list p h =
      ap (left_of (is_some (frames_in (items p))))
      (lists_same (levels (suc n) cx) (reading (suc n) true cx).inner (reading (suc n) false cx).inner
      (holds_same (suc n)) list (frames_in (items p)) h)

  -- members and values of such attributes
  abbrev StillIn : Shape → Frame → Type 0
  StillIn list f = (action_in true list (number f) ≡ Action.Keep)
      × (is_still_row (row_in cx list (number f)) ≡ true)

  read_same : (n : ℕ) (list : Shape) (fs : List Frame) → AllByRecursion (StillIn list) fs
      → members_in (reading n true cx) list fs ≡ members_in (reading n false cx) list fs
  read_same zero list fs are =
      members_same (levels 0 cx) (λ list p. Forest.none) (λ list p. Forest.none) cx (holds_same zero) list fs are
  read_same (suc n) list fs are =
      members_same (levels (suc n) cx) (reading (suc n) true cx).inner (reading (suc n) false cx).inner cx
      (holds_same (suc n)) list fs are

  value_read : (n m : ℕ) (list : Shape) (f : Frame) → StillIn list f
      → value_with (reading n true cx) list m f ≡ value_with (reading n false cx) list m f
  value_read zero m list f is =
      value_same (levels 0 cx) (λ list p. Forest.none) (λ list p. Forest.none) cx (holds_same zero) list m f is
  value_read (suc n) m list f is =
      value_same (levels (suc n) cx) (reading (suc n) true cx).inner (reading (suc n) false cx).inner cx
      (holds_same (suc n)) list m f is

-- ** what is told as a whole

passing : (P : Frame → Type 0) (test : Frame → Bool) → ((f : Frame) → test f ≡ true → P f) → (fs : List Frame)
    → AllByRecursion P (filter test fs)
passing P test one [] = tt
passing P test one (f ∷ fs) = by (test f) refl (passing P test one fs)
  where
    by : (b : Bool) → test f ≡ b → AllByRecursion P (filter test fs)
        → AllByRecursion P (cond b (f ∷ filter test fs) (filter test fs))
    by true is later = (one f is, later)
    by false is later = later

entries_still : (cx : Around) (all : AreAllRows cx.tables.now) (group : Group) (f : Frame)
    → stands_still (entry_list group) f ≡ true → StillIn cx all (entry_list group) f
entries_still cx all Groups.AltIfname f h =
    (refl, rows_still cx all (Shapes.Own Tables.Props) refl (number f))
entries_still cx all Groups.Info f h =
    (keep_of (action_of Levels.Function (number f)) h, function_still cx (number f) h)
entries_still cx all Groups.Port f h =
    (refl, rows_still cx all (Shapes.Of Places.Port) refl (number f))

entry : (n : ℕ) (cx : Around) (group : Group) (p : List ℕ) → AreAllRows cx.tables.now → IsBytes p
    → let list = entry_list group in let fs = frames_in (items (settled true list p)) in
    members_in (reading n true cx) list fs ≡ members_in (reading n false cx) list fs
entry n cx group p all small =
    let list = entry_list group in
    read_same cx all n list (frames_in (items (settled true list p)))
    (subst (AllByRecursion (StillIn cx all list)) (sym (left list p small))
    (passing (StillIn cx all list) (stands_still list) (entries_still cx all group) (frames_in (items p))))

keyed_still : (m : ℕ) (list : Shape) (key : Key) → key_at (Some m) list ≡ Some key → is_still_list list ≡ true
keyed_still m (Shapes.Of Places.BridgeSpec) key h = refl
keyed_still m (Shapes.Of Places.BridgeMst) key h = refl
keyed_still m (Shapes.Of Places.VlanQos) key h = refl
keyed_still m _ key h = absurd cc

value : (n m : ℕ) (cx : Around) (list : Shape) (key : Key) (f : Frame) → AreAllRows cx.tables.now
    → key_at (Some m) list ≡ Some key
    → value_with (reading n true cx) list m f ≡ value_with (reading n false cx) list m f
value n m cx list key f all h =
    let still = keyed_still m list key h in
    value_read cx all n m list f (no_level list still (number f), rows_still cx all list still (number f))

pub wholes_still : WholesStandStill
wholes_still = record { left = left; entry = entry; value = value }
