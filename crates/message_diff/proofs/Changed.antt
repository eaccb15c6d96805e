-- How what changed is added: the list of it, and the line that has it.
use Rattle.std.proofs.Common.{◌≡◌, ◌<◌, ℕ, suc, Bool, true, false, List, [], ◌∷◌, ◌++◌, refl, sym, ap, ◌∙◌}
use Rattle.std.proofs.Common.{append_assoc, append-nil, length, length-append, arith}
use Rattle.std.specs.Prelude.{codes, cond}
use Rattle.std.specs.List.{flat_map}
use Rattle.json.specs.Token.{Token, begin_array, begin_object, end_array, end_object, key}
use Rattle.shown.specs.Print.{print, print_from, escape_byte, escape_from, ends_value}
use Rattle.shown.specs.Drafts.{Draft, Members, Ends, empty_object, list_of, named, object_of, with_begun, with_members}
use Rattle.shown.specs.Drafts.{with_value}
use Rattle.shown.specs.Pages.{AddsText}
use Rattle.shown.specs.declared.page.Nest.TheVariants.{List as Items}
use Rattle.shown.proofs.Drafts.{list_ended}
use Rattle.shown.proofs.Pages.{whole_text}
use Rattle.shown.proofs.Printed.{ends_push, print_from-append}
use Rattle.frame_shown.specs.Items.{objects}
use Rattle.frame_shown.specs.Plain.{plain}
use Rattle.frame_shown.specs.declared.form.Around.{Around}
use Rattle.frame_shown.specs.declared.form.Order.{Order}
use Rattle.frame_diff.specs.Items.{change_item}
use Rattle.frame_diff.specs.Members.{Parts, leniently, whole}
use Rattle.frame_diff.specs.Ranges.{Told, told_items}
use Rattle.message_diff.specs.declared.snapshot.Compared.{Compared}
use Rattle.message_diff.specs.Changed.{AddsChanged, AddsList, change_tokens, changed_line, changed_members}
use Rattle.message_diff.specs.Changed.{items_between, items_moved, items_or, list_text, state_change, written_items}
use Rattle.message_diff.specs.Compared.{is_lenient, is_state, parts_by}
use Rattle.message_diff.specs.Shots.{Shot}

-- ** what is compared

module _ (told : Bool → Around → Around → Parts → Parts → List Told) (by : Compared) (old new : Shot) (state : Bool)
    (m n : Order) (p q : Parts) (states : state ≡ is_state by) (first : m ≡ old.order) (second : n ≡ new.order) where
  -- by what is given, and by what it is
  abbrev given : List Members
  given = flat_map told_items (told state (plain m) (plain n) p q)

  abbrev compared : List Members
  compared = flat_map told_items
      (told (is_state by) (plain old.order) (plain new.order) (parts_by by old.text) (parts_by by new.text))

  told_by : p ≡ parts_by by old.text → q ≡ parts_by by new.text → given ≡ compared
  told_by was is i = flat_map told_items (told (states i) (plain (first i)) (plain (second i)) (was i) (is i))

  -- where messages are read leniently, and where they are not
  pub told_leniently : is_lenient by ≡ true → p ≡ leniently old.text → q ≡ leniently new.text → given ≡ compared
  told_leniently lenient was is =
      let apart = λ (text : List ℕ). ap (λ b. cond b (leniently text) (whole text)) (sym lenient) in
      told_by (was ∙ apart old.text) (is ∙ apart new.text)

  pub told_whole : is_lenient by ≡ false → p ≡ whole old.text → q ≡ whole new.text → given ≡ compared
  told_whole whole_too was is =
      let one = λ (text : List ℕ). ap (λ b. cond b (leniently text) (whole text)) (sym whole_too) in
      told_by (was ∙ one old.text) (is ∙ one new.text)

-- ** whether anything was told

abbrev with_objects : List Members → Draft → Draft
with_objects os page = with_members (objects os) page

-- an object ends a value
object_ends : (ts : List Token) (o : Members) → ends_value (ts ++ object_of o) ≡ true
object_ends ts o =
    let members : List Token = flat_map (λ m. key m.0 ∷ m.1) o in
    ap ends_value (sym (append_assoc ts (begin_object ∷ members) (end_object ∷ [])))
    ∙ ends_push false (ts ++ begin_object ∷ members) end_object

objects_end : (o : Members) (os : List Members) (page : Draft)
    → ends_value (with_objects (o ∷ os) page).tokens ≡ true
objects_end o [] page = object_ends (named page.inside [] page.tokens) o
objects_end o (p ∷ os) page = objects_end p os (with_value [] (object_of o) page)

-- a list that is begun does not
pub list_begun : (name : List ℕ) (page new : Draft) → new ≡ with_begun name Items page
    → ends_value new.tokens ≡ false
list_begun name page new is =
    ap (λ (d : Draft). ends_value d.tokens) is ∙ ends_push false (named page.inside name page.tokens) begin_array

module _ (others : List Members) (old new : Draft) (empty : ends_value old.tokens ≡ false) where
  some_told : (os : List Members) → new ≡ with_objects os old → ends_value new.tokens ≡ true
      → new ≡ with_objects (items_or others os) old
  some_told [] is some =
      let clash : false ≡ true = sym empty ∙ ap (λ (d : Draft). ends_value d.tokens) (sym is) ∙ some in absurd cc
  some_told (o ∷ os) is some = is

  none_told : (last : Draft) (os : List Members) → new ≡ with_objects os old → ends_value new.tokens ≡ false
      → last ≡ with_objects others new → last ≡ with_objects (items_or others os) old
  none_told last [] is none more = more ∙ ap (with_objects others) is
  none_told last (o ∷ os) is none more =
      let clash : true ≡ false =
      sym (objects_end o os old) ∙ ap (λ (d : Draft). ends_value d.tokens) (sym is) ∙ none in absurd cc

module _ (by : Compared) (old new : Shot) (page told : Draft) (empty : ends_value page.tokens ≡ false)
    (is : told ≡ with_objects (items_between by old new) page) where
  abbrev texts : List Members
  texts = change_item (state_change old.text new.text) ∷ []

  abbrev lists : List Members
  lists = items_or texts (items_moved by old new)

  -- some changes were told
  pub any_told : ends_value told.tokens ≡ true → told ≡ with_objects (written_items by old new) page
  unfolding written_items
  any_told some = some_told lists page told empty (items_between by old new) is some

  -- none, and then lists in another order, or none of them, and then both encodings
  module _ (moved : Draft) (none : ends_value told.tokens ≡ false)
      (more : moved ≡ with_objects (items_moved by old new) told) where
    pub lists_told : ends_value moved.tokens ≡ true → moved ≡ with_objects (written_items by old new) page
    unfolding written_items
    lists_told some =
        none_told lists page told empty moved (items_between by old new) is none
        (some_told texts told moved none (items_moved by old new) more some)

    pub texts_told : (last : Draft) → ends_value moved.tokens ≡ false → last ≡ with_objects texts moved
        → last ≡ with_objects (written_items by old new) page
    unfolding written_items
    texts_told last no_lists both =
        none_told lists page told empty last (items_between by old new) is none
        (none_told texts told moved none last (items_moved by old new) more no_lists both)

-- ** the list

objects_values : (os : List Members) → flat_map (λ m. m.1) (objects os) ≡ flat_map object_of os
objects_values [] = refl
objects_values (o ∷ os) = ap (λ (ts : List Token). object_of o ++ ts) (objects_values os)

-- a list that was begun, filled with changes and ended
pub changes_listed : (name : List ℕ) (os : List Members) (old first last new : Draft)
    → first ≡ with_begun name Items old → last ≡ with_objects os first → Ends last new
    → new ≡ with_value name (change_tokens os) old
changes_listed name os old first last new begun is ends =
    list_ended name (objects os) old last new (is ∙ ap (with_objects os) begun) ends
    ∙ ap (λ (ts : List Token). with_value name (list_of ts) old) (objects_values os)

-- ** as the one member of an object

ended : (b : Bool) → print_from b (end_object ∷ []) ≡ 125 ∷ []
unfolding print_from
ended true = refl
ended false = refl

list_inside : (v : List Token)
    → print (object_of ((codes "changes", v) ∷ [])) ≡ codes "{\"changes\":" ++ (print v ++ codes "}")
unfolding print_from escape_from escape_byte
list_inside v =
    ap (λ (ts : List Token). codes "{\"changes\":" ++ print (ts ++ end_object ∷ [])) (append-nil v)
    ∙ ap (λ t. codes "{\"changes\":" ++ t)
    (print_from-append false v (end_object ∷ []) ∙ ap (λ t. print v ++ t) (ended (ends_value v)))

-- the text of a page with this member alone
pub list_shown : (v : List Token) (first page : Draft) (before text : List ℕ) → first ≡ empty_object
    → page ≡ with_value (codes "changes") v first → before ≡ [] → AddsText page before text
    → text ≡ codes "{\"changes\":" ++ (print v ++ codes "}")
list_shown v first page before text begun is empty s =
    s.2 ∙ ap (λ (t : List ℕ). t ++ s.0) empty
    ∙ whole_text ((codes "changes", v) ∷ []) page s.0 (is ∙ ap (with_value (codes "changes") v) begun) s.1
    ∙ list_inside v

-- ** what is added grows

pub longer_changed : (by : Compared) (front : List ℕ) (old new : Shot) (before now : List ℕ)
    → AddsChanged by front old new before now → length before < length now
longer_changed by front old new before now is =
    let text : List ℕ = print (object_of (changed_members by front old new)) in
    omega (arith, ap length is, length-append before (changed_line by front old new), length-append text (10 ∷ []))

some_list : (ts : List Token) → 0 < length (print (list_of ts))
unfolding print_from
some_list ts =
    let one : length (print (list_of ts)) ≡ suc (length (print_from false (ts ++ end_array ∷ []))) = refl in
    omega (arith, one)

pub longer_list : (by : Compared) (old new : Shot) (before now : List ℕ) → AddsList by old new before now
    → length before < length now
longer_list by old new before now is =
    omega (
      arith,
      ap length is,
      length-append before (list_text by old new),
      some_list (flat_map object_of (written_items by old new)),
    )
