-- The values of lists.
use Rattle.std.proofs.Common.{◌≡◌, ℕ, ◌==◌, ◌||◌, Bool, true, false, cond, List, [], ◌∷◌, ◌++◌, map, refl, sym, ap, ◌∙◌}
use Rattle.std.proofs.Common.{append-nil, eqb-true}
use Rattle.std.specs.List.{list_any}
use Rattle.json.specs.Token.{Token}
use Rattle.link_info.specs.declared.style.Row.{Row}
use Rattle.link_info.specs.declared.style.Style.{Style}
use Rattle.link_info.specs.Tables.{frames_in}
use Rattle.nla_wire.specs.Frames.{Frame, number}
use Rattle.nla_wire.specs.Items.{Item as Read}
use Rattle.shown.specs.Drafts.{Draft, with_members}
use Rattle.frame_shown.specs.Frames.{by_row, frame_item, items_in, values_by, way_shown}
use Rattle.frame_shown.specs.Items.{Item, Lists, are_any, arrays, list_under, values_with}
use Rattle.frame_shown.specs.Tables.{Known, is_each, is_kept, is_listed, lists_of, row_in}
use Rattle.frame_shown.specs.Values.{Nesting, style_shown}
use Rattle.frame_shown.specs.declared.form.Around.{Around}
use Rattle.frame_shown.specs.declared.form.List.{List as Shape}
use Rattle.frame_shown.specs.declared.form.Way.{Way}
use Rattle.frame_shown.specs.declared.form.Way.TheVariants as Ways
use Rattle.frame_shown.proofs.Items.{by_tests, on_next}

-- ** the values of a number

module _ (nest : Nesting) (cx : Around) (n : ℕ) (row : Known) (f : Frame) (rest : List Item) where
  -- one of another number
  of_other : (number f == n) ≡ false → values_with n (by_row nest cx row f ∷ rest) ≡ values_with n rest
  of_other other = either (is_kept row.1 f.payload) (is_each row.1) where
    either : (kept each : Bool) → values_with n (by_tests kept each nest cx row f ∷ rest) ≡ values_with n rest
    either true each = refl
    either false true = ap (λ b. cond b (way_shown nest cx row.1 f.payload ∷ []) [] ++ values_with n rest) other
    either false false = refl

  -- one whose row is of no list
  of_none : is_each row.1 ≡ false → values_with n (by_row nest cx row f ∷ rest) ≡ values_with n rest
  of_none one =
      ap (λ b. values_with n (by_tests (is_kept row.1 f.payload) b nest cx row f ∷ rest)) one
      ∙ either (is_kept row.1 f.payload) where
        either : (kept : Bool) → values_with n (by_tests kept false nest cx row f ∷ rest) ≡ values_with n rest
        either true = refl
        either false = refl

  of_list : (style : Style) → row.1 ≡ Ways.By style → is_listed style ≡ true → (number f == n) ≡ true
      → values_with n (by_row nest cx row f ∷ rest) ≡ style_shown nest style f.payload ∷ values_with n rest
  of_list style way listed its =
      ap (λ (w : Way). values_with n (by_row nest cx (row.0, w) f ∷ rest)) way
      ∙ ap (λ b. values_with n (by_tests false b nest cx (row.0, Ways.By style) f ∷ rest)) listed
      ∙ ap (λ b. cond b (style_shown nest style f.payload ∷ []) [] ++ values_with n rest) its

module _ (nest : Nesting) (cx : Around) (list : Shape) (n : ℕ) where
  no_next : is_each (row_in cx list n).1 ≡ false → (b : Bool) (f : Frame) (rest : List Item) → (number f == n) ≡ b
      → values_with n (frame_item nest cx list f ∷ rest) ≡ values_with n rest
  no_next none true f rest its =
      of_none nest cx n (row_in cx list (number f)) f rest
      (ap (λ k. is_each (row_in cx list k).1) (eqb-true (number f) n its) ∙ none)
  no_next none false f rest other = of_other nest cx n (row_in cx list (number f)) f rest other

  none_of : is_each (row_in cx list n).1 ≡ false → (fs : List Frame)
      → values_with n (map (frame_item nest cx list) fs) ≡ []
  none_of none [] = refl
  none_of none (f ∷ fs) =
      no_next none (number f == n) f (map (frame_item nest cx list) fs) refl ∙ none_of none fs

  -- where the row of the number is of no list, there are none
  pub no_values : is_each (row_in cx list n).1 ≡ false → (xs : List Read)
      → values_with n (items_in nest cx list xs) ≡ []
  no_values none xs = none_of none (frames_in xs)

  module _ (style : Style) (way : (row_in cx list n).1 ≡ Ways.By style) (listed : is_listed style ≡ true) where
    next : (b : Bool) (f : Frame) (rest : List Item) (more : List (List Token)) → (number f == n) ≡ b
        → values_with n rest ≡ more
        → values_with n (frame_item nest cx list f ∷ rest) ≡ cond b (style_shown nest style f.payload ∷ more) more
    next true f rest more its is =
        of_list nest cx n (row_in cx list (number f)) f rest style
        (ap (λ k. (row_in cx list k).1) (eqb-true (number f) n its) ∙ way) listed its
        ∙ ap (λ (vs : List (List Token)). style_shown nest style f.payload ∷ vs) is
    next false f rest more other is = of_other nest cx n (row_in cx list (number f)) f rest other ∙ is

    all_of : (fs : List Frame) → values_with n (map (frame_item nest cx list) fs) ≡ values_by nest style n fs
    all_of [] = refl
    all_of (f ∷ fs) =
        next (number f == n) f (map (frame_item nest cx list) fs) (values_by nest style n fs) refl (all_of fs)

    pub values_are : (xs : List Read) → values_with n (items_in nest cx list xs) ≡ values_by nest style n (frames_in xs)
    values_are xs = all_of (frames_in xs)

-- ** whether there are any

any_by : (b : Bool) (v : List Token) (vs : List (List Token)) → are_any (cond b (v ∷ vs) vs) ≡ (b || are_any vs)
any_by true v vs = refl
any_by false v vs = refl

pub any_values : (nest : Nesting) (style : Style) (n : ℕ) (fs : List Frame)
    → are_any (values_by nest style n fs) ≡ list_any (λ f. number f == n) fs
any_values nest style n [] = refl
any_values nest style n (f ∷ fs) =
    any_by (number f == n) (style_shown nest style f.payload) (values_by nest style n fs)
    ∙ ap (λ b. (number f == n) || b) (any_values nest style n fs)

pub none_under : (name : List ℕ) (vs : List (List Token)) → are_any vs ≡ false → list_under name vs ≡ []
none_under name [] none = refl
none_under name (v ∷ vs) none = absurd cc

-- ** lists, row by row

-- the list of a row
pub row_array : (row : Row) (items : List Item) → is_listed row.2 ≡ true
    → arrays (lists_of (row ∷ [])) items ≡ list_under row.1.now (values_with row.0 items)
row_array row items is =
    ap (λ b. arrays (cond b ((row.0, row.1.now) ∷ []) []) items) is
    ∙ append-nil (list_under row.1.now (values_with row.0 items))

pub no_row_array : (row : Row) (items : List Item) → is_listed row.2 ≡ false → arrays (lists_of (row ∷ [])) items ≡ []
no_row_array row items is = ap (λ b. arrays (cond b ((row.0, row.1.now) ∷ []) []) items) is

one_further : (b : Bool) (l : ℕ × List ℕ) (lists : Lists) (items : List Item)
    → arrays (cond b (l ∷ lists) lists) items ≡ arrays (cond b (l ∷ []) []) items ++ arrays lists items
one_further true l lists items =
    ap (λ ms. ms ++ arrays lists items) (sym (append-nil (list_under l.1 (values_with l.0 items))))
one_further false l lists items = refl

pub rows_next : (row : Row) (rows : List Row) (items : List Item) (page new all : Draft)
    → with_members (arrays (lists_of (row ∷ rows)) items) page ≡ all
    → new ≡ with_members (arrays (lists_of (row ∷ [])) items) page
    → with_members (arrays (lists_of rows) items) new ≡ all
rows_next row rows items page new all was is =
    on_next (arrays (lists_of (row ∷ rows)) items) (arrays (lists_of (row ∷ [])) items)
    (arrays (lists_of rows) items) page new all
    (one_further (is_listed row.2) (row.0, row.1.now) (lists_of rows) items) was is
