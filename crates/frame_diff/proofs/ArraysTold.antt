-- Lists that attributes are the values of, each beside that of its name.
use Rattle.std.proofs.Common.{◌≡◌, ℕ, Bool, true, false, List, [], ◌∷◌, ◌++◌, refl, sym, ap, ◌∙◌, append-nil}
use Rattle.std.proofs.Common.{◌+◌, ◌<◌, drop, get_or, length, subst}
use Rattle.std.specs.Prelude.{IfSome, Option, Some, None, ◌==◌, ◌&&◌, ◌||◌, cond, nat_lt, option_map}
use Rattle.std.proofs.lemmas.List.{drop_more, map-append}
use Rattle.nla_wire.specs.Frames.{Frame, number}
use Rattle.link_info.specs.declared.style.Row.{Row}
use Rattle.shown.specs.Drafts.{Draft, object_of, with_members}
use Rattle.frame_shown.specs.Items.{objects}
use Rattle.frame_shown.specs.Tables.{is_each, is_listed, lists_of, no_row, row_in}
use Rattle.frame_shown.specs.declared.form.Around.{Around}
use Rattle.frame_shown.specs.declared.form.List.{List as Shape}
use Rattle.frame_shown.specs.declared.form.List.TheVariants as Shapes
use Rattle.frame_shown.proofs.Items.{on_next}
use Rattle.frame_diff.specs.Arrays.{has_values, is_array, last_array}
use Rattle.frame_diff.specs.Beside.{held_of}
use Rattle.frame_diff.specs.Forests.{Forest, Held, Member, Step, find, forest, is_text}
use Rattle.frame_diff.specs.Groups.{group_by, is_entries, value_by}
use Rattle.frame_diff.specs.Items.{items_told, joined}
use Rattle.frame_diff.specs.Members.{Reading, array_at, arrays_of, inside_with, is_some, values_with}
use Rattle.frame_diff.specs.Shown.{AreListsApart}
use Rattle.frame_diff.specs.Walked.{AreAlike, AreBeside, HasNames, Holding, Showing, held_at}
use Rattle.frame_diff.specs.declared.walk.Attributes.{Attributes}
use Rattle.frame_diff.specs.declared.side.Side.{Side}
use Rattle.frame_diff.specs.declared.walk.Attribute.{Attribute}
use Rattle.frame_diff.proofs.Beside.{found_last, last_at, or_else, or_none}
use Rattle.frame_diff.proofs.Parts.{NoneComes, array_apart, told_parts}
use Rattle.frame_diff.specs.Members.{is_own_key}
use Rattle.frame_diff.specs.Walked.{listed_items}

-- ** one of the values

-- entries are no values of such a list
pub value_held : (nest : Showing) (inner : Holding) (is_state : Bool) (cx : Around) (n : ℕ) (list : Shape)
    (a : Attribute) → is_each (row_in cx list n).1 ≡ true
    → value_by nest inner is_state list a ≡ held_at nest inner is_state a
value_held nest inner is_state cx n (Shapes.Entries group) a each = absurd (by (nat_lt n 256) each)
  where
    by : (b : Bool) → is_each (cond b no_row no_row).1 ≡ true → ⊥
    by true h = absurd cc
    by false h = absurd cc
value_held nest inner is_state cx n (Shapes.Listed group table) a each = refl
value_held nest inner is_state cx n (Shapes.Message family) a each = refl
value_held nest inner is_state cx n (Shapes.Own table) a each = refl
value_held nest inner is_state cx n (Shapes.Of place) a each = refl
value_held nest inner is_state cx n Shapes.ProtoInet6 a each = refl
value_held nest inner is_state cx n Shapes.Refused a each = refl
value_held nest inner is_state cx n (Shapes.Info link port) a each = refl

-- ** whether there are any

module _ (r : Reading) (list : Shape) (n : ℕ) where
  pub some_values : (fs : List Frame) → is_some (values_with r list n fs) ≡ has_values r.around list fs n
  some_values [] = refl
  some_values (f ∷ fs) = by (number f == n) (is_each (row_in r.around list (number f)).1) (some_values fs)
    where
      own : Held
      own = held_of r list f

      by : (a b : Bool) → is_some (values_with r list n fs) ≡ has_values r.around list fs n
          → is_some (cond a (cond b (Some own ∷ []) []) [] ++ values_with r list n fs)
          ≡ (a && b || has_values r.around list fs n)
      by true true later = refl
      by true false later = later
      by false b later = later

-- ** the last list of a name

module _ (r : Reading) (list : Shape) (fs : List Frame) (name : List ℕ) where
  abbrev held : ℕ → Held
  held n = group_by (is_own_key (Some n) list) (values_with r list n fs) (inside_with r list n fs)

  abbrev last_of : Option ℕ → List Row → Option ℕ
  last_of before rows = last_array r.around list fs name before rows

  one_before : (before : Option ℕ) (rows : List Row) → last_of before rows ≡ or_else (last_of None rows) before
  one_before before [] = refl
  one_before before (row ∷ rows) =
      by (is_array r.around list fs name row) (one_before (Some row.0) rows) (one_before before rows)
    where
      or_some : (a : Option ℕ) → or_else a (Some row.0) ≡ or_else (or_else a (Some row.0)) before
      or_some None = refl
      or_some (Some x) = refl

      by : (b : Bool) → last_of (Some row.0) rows ≡ or_else (last_of None rows) (Some row.0)
          → last_of before rows ≡ or_else (last_of None rows) before
          → last_of (cond b (Some row.0) before) rows
          ≡ or_else (last_of (cond b (Some row.0) None) rows) before
      by true some later = some ∙ or_some (last_of None rows) ∙ ap (λ l. or_else l before) (sym some)
      by false some later = later

  mapped : (a b : Option ℕ) → or_else (option_map held a) (option_map held b) ≡ option_map held (or_else a b)
  mapped None b = refl
  mapped (Some x) b = refl

  -- one list in front of others
  in_front : (own : List ℕ) (key : Bool) (hs : List (Option Held)) (inside : Forest) (rest : List Member)
      → last_at (Step.array name) (array_at own key hs inside ++ rest)
      ≡ or_else (last_at (Step.array name) rest)
      (cond (is_text own name && is_some hs) (Some (group_by key hs inside)) None)
  in_front own key [] inside rest = by (is_text own name)
    where
      by : (b : Bool) → last_at (Step.array name) rest
          ≡ or_else (last_at (Step.array name) rest) (cond (b && false) (Some (group_by key [] inside)) None)
      by true = sym (or_none (last_at (Step.array name) rest))
      by false = sym (or_none (last_at (Step.array name) rest))
  in_front own key (h ∷ hs) inside rest = by (is_text own name)
    where
      by : (b : Bool) → or_else (last_at (Step.array name) rest) (cond b (Some (group_by key (h ∷ hs) inside)) None)
          ≡ or_else (last_at (Step.array name) rest) (cond (b && true) (Some (group_by key (h ∷ hs) inside)) None)
      by true = refl
      by false = refl

  last_is : (rows : List Row)
      → last_at (Step.array name) (arrays_of r list (lists_of rows) fs) ≡ option_map held (last_of None rows)
  last_is [] = refl
  last_is (row ∷ rows) = by (is_listed row.2) (last_is rows)
    where
      rest : List Member
      rest = arrays_of r list (lists_of rows) fs

      one : (b : Bool) → last_at (Step.array name) rest ≡ option_map held (last_of None rows)
          → or_else (last_at (Step.array name) rest) (cond b (Some (held row.0)) None)
          ≡ option_map held (last_of (cond b (Some row.0) None) rows)
      one true later =
          ap (λ l. or_else l (Some (held row.0))) later ∙ mapped (last_of None rows) (Some row.0)
          ∙ ap (option_map held) (sym (one_before (Some row.0) rows))
      one false later = or_none (last_at (Step.array name) rest) ∙ later

      by : (b : Bool) → last_at (Step.array name) rest ≡ option_map held (last_of None rows)
          → last_at (Step.array name)
          (arrays_of r list (cond b ((row.0, row.1.now) ∷ lists_of rows) (lists_of rows)) fs)
          ≡ option_map held (last_of (cond (b && (is_text row.1.now name && has_values r.around list fs row.0))
          (Some row.0) None) rows)
      by true later =
          in_front row.1.now (is_own_key (Some row.0) list) (values_with r list row.0 fs)
          (inside_with r list row.0 fs) rest
          ∙ ap (λ b. or_else (last_at (Step.array name) rest)
          (cond (is_text row.1.now name && b) (Some (held row.0)) None)) (some_values r list row.0 fs)
          ∙ one (is_text row.1.now name && has_values r.around list fs row.0) later
      by false later = later

  pub array_found : (rows : List Row) → find (Step.array name) (forest (arrays_of r list (lists_of rows) fs))
      ≡ option_map held (last_of None rows)
  array_found rows = found_last (Step.array name) (arrays_of r list (lists_of rows) fs) ∙ last_is rows

-- ** what they tell

module _ (side : Side) (text : List ℕ) (r : Reading) (list : Shape) (fs : List Frame) (others : Forest) where
  abbrev rows_in : List Row → List Member
  rows_in rows = arrays_of r list (lists_of rows) fs

  -- a row that is of no list
  pub unlisted : (row : Row) → is_listed row.2 ≡ false → rows_in (row ∷ []) ≡ []
  unlisted row is = ap (λ b. arrays_of r list (cond b ((row.0, row.1.now) ∷ []) []) fs) is

  abbrev one_list : Row → List Member
  one_list row = array_at row.1.now (is_own_key (Some row.0) list) (values_with r list row.0 fs)
      (inside_with r list row.0 fs)

  listed : (row : Row) → is_listed row.2 ≡ true → rows_in (row ∷ []) ≡ one_list row
  listed row is =
      ap (λ b. arrays_of r list (cond b ((row.0, row.1.now) ∷ []) []) fs) is
      ∙ append-nil (one_list row)

  no_array : (name : List ℕ) (key : Bool) (hs : List (Option Held)) (inside : Forest) → is_some hs ≡ false
      → array_at name key hs inside ≡ []
  no_array name key [] inside none = refl
  no_array name key (h ∷ hs) inside none = absurd cc

  some_told : (name : List ℕ) (key : Bool) (hs : List (Option Held)) (inside : Forest) → is_some hs ≡ true
      → items_told side text (forest (array_at name key hs inside)) others
      ≡ listed_items side (joined text name) (group_by key hs inside) (find (Step.array name) others)
  some_told name key [] inside some = absurd cc
  some_told name key (h ∷ hs) inside some = append-nil
      (listed_items side (joined text name) (group_by key (h ∷ hs) inside) (find (Step.array name) others))

  pub nothing_told : (row : Row) (page : Draft) → rows_in (row ∷ []) ≡ []
      → page ≡ with_members (objects (items_told side text (forest (rows_in (row ∷ []))) others)) page
  nothing_told row page none =
      sym (ap (λ ms. with_members (objects (items_told side text (forest ms) others)) page) none)

  pub empty : (row : Row) → is_listed row.2 ≡ true → has_values r.around list fs row.0 ≡ false
      → rows_in (row ∷ []) ≡ []
  empty row is none =
      listed row is
      ∙ no_array row.1.now (is_own_key (Some row.0) list) (values_with r list row.0 fs) (inside_with r list row.0 fs)
      (some_values r list row.0 fs ∙ none)

  pub row_told : (row : Row) → is_listed row.2 ≡ true → has_values r.around list fs row.0 ≡ true
      → listed_items side (joined text row.1.now)
      (group_by (is_own_key (Some row.0) list) (values_with r list row.0 fs) (inside_with r list row.0 fs))
      (find (Step.array row.1.now) others)
      ≡ items_told side text (forest (rows_in (row ∷ []))) others
  row_told row is some =
      sym (ap (λ ms. items_told side text (forest ms) others) (listed row is)
      ∙ some_told row.1.now (is_own_key (Some row.0) list) (values_with r list row.0 fs) (inside_with r list row.0 fs)
      (some_values r list row.0 fs ∙ some))

  -- one row after another
  first_apart : (row : Row) (rows : List Row) → AreListsApart (lists_of (row ∷ rows))
      → NoneComes (rows_in (row ∷ [])) (rows_in rows)
  first_apart row rows = by (is_listed row.2)
    where
      by : (b : Bool) → AreListsApart (cond b ((row.0, row.1.now) ∷ lists_of rows) (lists_of rows))
          → NoneComes (arrays_of r list (cond b ((row.0, row.1.now) ∷ []) []) fs) (rows_in rows)
      by true apart =
          subst (λ ms. NoneComes ms (rows_in rows))
          (sym (append-nil (one_list row)))
          (array_apart r list row.1.now (is_own_key (Some row.0) list) (values_with r list row.0 fs)
          (inside_with r list row.0 fs) (lists_of rows) fs apart.0)
      by false apart = tt

  pub rest_apart : (row : Row) (rows : List Row) → AreListsApart (lists_of (row ∷ rows))
      → AreListsApart (lists_of rows)
  rest_apart row rows = by (is_listed row.2)
    where
      by : (b : Bool) → AreListsApart (cond b ((row.0, row.1.now) ∷ lists_of rows) (lists_of rows))
          → AreListsApart (lists_of rows)
      by true apart = apart.1
      by false apart = apart

  one_further : (row : Row) (rows : List Row) → rows_in (row ∷ rows) ≡ rows_in (row ∷ []) ++ rows_in rows
  one_further row rows = by (is_listed row.2)
    where
      by : (b : Bool)
          → arrays_of r list (cond b ((row.0, row.1.now) ∷ lists_of rows) (lists_of rows)) fs
          ≡ arrays_of r list (cond b ((row.0, row.1.now) ∷ []) []) fs ++ rows_in rows
      by true = ap (λ ms. ms ++ rows_in rows) (sym (append-nil (one_list row)))
      by false = refl

  pub rows_next : (row : Row) (rows : List Row) (page new all : Draft) → AreListsApart (lists_of (row ∷ rows))
      → new ≡ with_members (objects (items_told side text (forest (rows_in (row ∷ []))) others)) page
      → with_members (objects (items_told side text (forest (rows_in (row ∷ rows))) others)) page ≡ all
      → with_members (objects (items_told side text (forest (rows_in rows)) others)) new ≡ all
  rows_next row rows page new all apart is was =
      let first = items_told side text (forest (rows_in (row ∷ []))) others in
      let rest = items_told side text (forest (rows_in rows)) others in
      on_next (objects (items_told side text (forest (rows_in (row ∷ rows))) others)) (objects first) (objects rest)
      page new all
      (ap (λ ms. objects (items_told side text (forest ms) others)) (one_further row rows)
      ∙ ap objects (told_parts side text others (rows_in (row ∷ [])) (rows_in rows) (first_apart row rows apart))
      ∙ map-append (λ o. ([], object_of o)) first rest)
      was is

  pub rows_step : (rows : List Row) (i : ℕ) (d : Row) (page new all : Draft) → i < length rows
      → AreListsApart (lists_of (drop i rows))
      → new ≡ with_members (objects (items_told side text (forest (rows_in (get_or rows i d ∷ []))) others)) page
      → with_members (objects (items_told side text (forest (rows_in (drop i rows))) others)) page ≡ all
      → (with_members (objects (items_told side text (forest (rows_in (drop (i + 1) rows))) others)) new ≡ all)
      × AreListsApart (lists_of (drop (i + 1) rows))
  rows_step rows i d page new all within apart is was =
      let row = get_or rows i d in
      let rest = drop (i + 1) rows in
      let next : drop i rows ≡ row ∷ rest = drop_more rows i d within in
      let all_apart : AreListsApart (lists_of (row ∷ rest)) =
      subst (λ rs. AreListsApart (lists_of rs)) next apart in (
        rows_next row rest page new all all_apart is
            (sym (ap (λ rs. with_members (objects (items_told side text (forest (rows_in rs)) others)) page) next)
            ∙ was),
        rest_apart row rest all_apart,
      )

  pub rows_are : (rows all : List Row) (page new : Draft) → rows ≡ all
      → new ≡ with_members (objects (items_told side text (forest (rows_in rows)) others)) page
      → new ≡ with_members (objects (items_told side text (forest (rows_in all)) others)) page
  rows_are rows all page new is told =
      told ∙ ap (λ rs. with_members (objects (items_told side text (forest (rows_in rs)) others)) page) is

-- ** beside each other

pub same_kind : (own : Attributes) (beside : Option Attributes) → is_entries own.list ≡ false
    → IfSome beside (λ a. is_entries a.list ≡ false) → IfSome beside (λ a. is_entries a.list ≡ is_entries own.list)
same_kind own None own_is is = tt
same_kind own (Some a) own_is is = is ∙ sym own_is

pub stand_beside : (own others picked : Attributes) (beside : Option Attributes) → AreAlike own others
    → picked.around.now ≡ own.around.now → IfSome beside (λ a. a.around.now ≡ others.around.now)
    → AreBeside picked beside
stand_beside own others picked None alike same is = tt
stand_beside own others picked (Some a) alike same is =
    (same ∙ alike.0 ∙ sym is, subst HasNames (sym same) alike.2)
