-- What stands in the other message as it is tells nothing, and records with the same names are told in step.
use Rattle.std.proofs.Common.{◌≡◌, ℕ, Bool, true, false, List, [], ◌∷◌, ◌++◌, append_assoc, refl, sym, ap, ◌∙◌}
use Rattle.std.proofs.Common.{map}
use Rattle.std.specs.Prelude.{Option, Some, None, cond, option_map}
use Rattle.json.specs.Token.{Token}
use Rattle.shown.specs.Drafts.{Draft, Members, with_members}
use Rattle.frame_shown.specs.Items.{objects}
use Rattle.frame_shown.specs.declared.form.Around.{Around}
use Rattle.frame_diff.specs.Differences.{is_shown_same}
use Rattle.frame_diff.specs.Forests.{Forest, Held, Member, Step, comes, field_step, find, forest, is_step}
use Rattle.frame_diff.specs.Forests.{is_text}
use Rattle.frame_diff.specs.Groups.{IsSameEntry, entry_held, list_held}
use Rattle.frame_diff.specs.Items.{items_told, joined, leaf_items, turned_item}
use Rattle.frame_diff.specs.Members.{named}
use Rattle.frame_diff.specs.Rows.{first_row, have_same_names, row_beside, row_shown, rows_beside}
use Rattle.frame_diff.specs.Walked.{AreBeside, Holding, HoldsApart, Showing, held_items, last_items}
use Rattle.frame_diff.specs.declared.rows.Row.{Row}
use Rattle.frame_diff.specs.declared.side.Side.{Side}
use Rattle.frame_diff.specs.declared.side.Side.TheVariants.{Old, New, Moved}
use Rattle.frame_diff.specs.declared.walk.Attributes.{Attributes}
use Rattle.frame_diff.proofs.Beside.{found_last, last_at, or_else}
use Rattle.frame_diff.proofs.Classes.{above_apart}
use Rattle.frame_diff.proofs.Steps.{and_left, and_right, step_is, text_same}
use Rattle.frame_diff.proofs.There.{last_kept}
use Rattle.frame_diff.proofs.Walked.{held_same, last_further}

-- ** a list with the rows and the bytes of another one

module _ (nest : Showing) (inner : Holding) (apart : HoldsApart inner) (is_state : Bool) where
  entry_same : (side : Side) (text : List ℕ) (own : Attributes) (beside : Option Attributes) → AreBeside own beside
      → IsSameEntry own beside
      → held_items side text (list_held nest inner is_state own) (option_map (list_held nest inner is_state) beside)
      ≡ []
  entry_same side text own None alike same = absurd same
  entry_same side text own (Some a) alike same =
      let held = list_held nest inner is_state own in
      (λ k. held_items side text held
      (Some (entry_held nest inner is_state (sym alike.0 k) (sym same.0 k) (sym same.1 k))))
      ∙ held_same side text held.0 held.1
      (above_apart nest inner apart is_state own.around.now own.list own.bytes.now)

  pub entry_silent : (side : Side) (text : List ℕ) (own : Attributes) (beside : Option Attributes) (page : Draft)
      → AreBeside own beside → IsSameEntry own beside
      → page ≡ with_members (objects (held_items side text (list_held nest inner is_state own)
      (option_map (list_held nest inner is_state) beside))) page
  entry_silent side text own beside page alike same =
      sym (ap (λ os. with_members (objects os) page) (entry_same side text own beside alike same))

-- ** records with the same names

module _ (cx theirs : Around) where
  abbrev ours : List Row → List Member
  ours rows = named (map (row_shown cx) rows)

  abbrev other : List Row → List Member
  other rows = named (map (row_shown theirs) rows)

  -- whether a name comes depends on the names alone
  comes_too : (s : Step) (rows there : List Row) → have_same_names rows there ≡ true
      → comes s (ours rows) ≡ comes s (other there)
  comes_too s [] [] h = refl
  comes_too s [] (o ∷ os) h = absurd cc
  comes_too s (row ∷ rows) [] h = absurd cc
  comes_too s (row ∷ rows) (o ∷ os) h =
      let one : o.name.now ≡ row.name.now = text_same o.name.now row.name.now
      (and_left (is_text o.name.now row.name.now) (have_same_names rows os) h) in
      let rest = comes_too s rows os (and_right (is_text o.name.now row.name.now) (have_same_names rows os) h) in
      (λ k. cond (is_step (field_step (sym one k)) s) true (rest k))

  -- a value of the other side at the place of a field is what stands beside it, unless its name comes again
  placed_told : (side : Side) (text : List ℕ) (row o : Row) (rows os : List Row)
      → have_same_names (row ∷ rows) (o ∷ os) ≡ true
      → last_items side text (ours rows) (field_step row.name.now, ((row_shown cx row).1, Forest.none))
      (find (field_step row.name.now) (forest (other (o ∷ os))))
      ≡ cond (comes (field_step row.name.now) (ours rows)) []
      (leaf_items side (joined text row.name.now) (row_shown cx row).1 (Some (row_shown theirs o).1))
  placed_told side text row o rows os h = by (comes (field_step row.name.now) (ours rows)) refl
    where
      s : Step
      s = field_step row.name.now

      one : o.name.now ≡ row.name.now
      one = text_same o.name.now row.name.now
          (and_left (is_text o.name.now row.name.now) (have_same_names rows os) h)

      held : Held
      held = ((row_shown theirs o).1, Forest.none)

      first : comes s (other os) ≡ false → find s (forest (other (o ∷ os))) ≡ Some held
      first none =
          (λ k. find s (cond (comes (field_step (one k)) (other os)) (forest (other os))
          (Forest.tree (field_step (one k)) held.0 Forest.none (forest (other os)))))
          ∙ ap (λ b. find s (cond b (forest (other os)) (Forest.tree s held.0 Forest.none (forest (other os))))) none
          ∙ ap (λ b. cond b (Some held) (find s (forest (other os)))) (step_is s)

      by : (b : Bool) → comes s (ours rows) ≡ b
          → cond b [] (held_items side (joined text row.name.now) ((row_shown cx row).1, Forest.none)
          (find s (forest (other (o ∷ os)))))
          ≡ cond b []
          (leaf_items side (joined text row.name.now) (row_shown cx row).1 (Some (row_shown theirs o).1))
      by true is = refl
      by false is =
          ap (λ o. held_items side (joined text row.name.now) ((row_shown cx row).1, Forest.none) o)
          (first (sym (comes_too s rows os
          (and_right (is_text o.name.now row.name.now) (have_same_names rows os) h)) ∙ is))

  pub first_told : (text : List ℕ) (row : Row) (rows there : List Row) (o : Row) → first_row there ≡ Some o
      → have_same_names (row ∷ rows) there ≡ true
      → row_beside cx theirs text row rows there
      ≡ cond (comes (field_step row.name.now) (ours rows)) []
      (leaf_items Old (joined text row.name.now) (row_shown cx row).1 (Some (row_shown theirs o).1))
  first_told text row rows [] o is h = absurd cc
  first_told text row rows (x ∷ os) o is h =
      let same : x ≡ o = cc in
      placed_told Old text row x rows os h
      ∙ ap (λ (y : Row). cond (comes (field_step row.name.now) (ours rows)) []
      (leaf_items Old (joined text row.name.now) (row_shown cx row).1 (Some (row_shown theirs y).1))) same

  pub no_first : (row : Row) (rows there : List Row) → first_row there ≡ None
      → have_same_names (row ∷ rows) there ≡ true → ⊥
  no_first row rows [] is h = absurd cc
  no_first row rows (x ∷ os) is h = absurd cc

  -- a field whose value is shown as the same tells nothing, and neither does one whose name comes again
  pub first_same : (text : List ℕ) (row : Row) (rows there : List Row) (o : Row) (page : Draft)
      → first_row there ≡ Some o → have_same_names (row ∷ rows) there ≡ true
      → is_shown_same (row_shown cx row).1 (row_shown theirs o).1 ≡ true
      → page ≡ with_members (objects (row_beside cx theirs text row rows there)) page
  first_same text row rows there o page is h same =
      sym (ap (λ os. with_members (objects os) page)
      (first_told text row rows there o is h
      ∙ ap (λ b. cond (comes (field_step row.name.now) (ours rows)) []
      (cond b [] (turned_item (joined text row.name.now) (row_shown cx row).1 (row_shown theirs o).1 ∷ []))) same
      ∙ nothing (comes (field_step row.name.now) (ours rows))))
    where
      none : List Members
      none = []

      nothing : (b : Bool) → cond b [] [] ≡ none
      nothing true = refl
      nothing false = refl

  pub first_again : (text : List ℕ) (row : Row) (rows there : List Row) (o : Row) (page : Draft)
      → first_row there ≡ Some o → have_same_names (row ∷ rows) there ≡ true
      → comes (field_step row.name.now) (ours rows) ≡ true
      → page ≡ with_members (objects (row_beside cx theirs text row rows there)) page
  first_again text row rows there o page is h again =
      sym (ap (λ os. with_members (objects os) page)
      (first_told text row rows there o is h
      ∙ ap (λ b. cond b []
      (leaf_items Old (joined text row.name.now) (row_shown cx row).1 (Some (row_shown theirs o).1))) again))

  pub first_turned : (text : List ℕ) (row : Row) (rows there : List Row) (o : Row) (page new : Draft)
      → first_row there ≡ Some o → have_same_names (row ∷ rows) there ≡ true
      → is_shown_same (row_shown cx row).1 (row_shown theirs o).1 ≡ false
      → comes (field_step row.name.now) (ours rows) ≡ false
      → new ≡ with_members (objects
      (turned_item (joined text row.name.now) (row_shown cx row).1 (row_shown theirs o).1 ∷ [])) page
      → new ≡ with_members (objects (row_beside cx theirs text row rows there)) page
  first_turned text row rows there o page new is h other once told =
      told
      ∙ sym (ap (λ os. with_members (objects os) page)
      (first_told text row rows there o is h
      ∙ (λ k. cond (once k) []
      (cond (other k) [] (turned_item (joined text row.name.now) (row_shown cx row).1 (row_shown theirs o).1 ∷ [])))))

  none_comes : (s : Step) (ms : List Member) → last_at s ms ≡ None → comes s ms ≡ false
  none_comes s [] none = refl
  none_comes s (m ∷ ms) none = at (is_step m.0 s) (last_at s ms) refl none (none_comes s ms)
    where
      at : (b : Bool) (l : Option Held) → last_at s ms ≡ l → or_else l (cond b (Some m.1) None) ≡ None
          → (last_at s ms ≡ None → comes s ms ≡ false) → cond b true (comes s ms) ≡ false
      at true None is h rest = absurd cc
      at true (Some x) is h rest = absurd cc
      at false None is h rest = rest is
      at false (Some x) is h rest = absurd cc

  -- what is found among the last ones is what is found among all
  found_behind : (s : Step) (front there : List Member) → comes s there ≡ true
      → find s (forest (front ++ there)) ≡ find s (forest there)
  found_behind s front there some =
      found_last s (front ++ there) ∙ by (last_at s there) refl ∙ sym (found_last s there)
    where
      by : (l : Option Held) → last_at s there ≡ l → last_at s (front ++ there) ≡ last_at s there
      by None is =
          let clash : true ≡ false = sym some ∙ none_comes s there is in absurd cc
      by (Some held) is = last_kept s front there held is ∙ sym is

  -- all of them, from the place of the first one on
  abbrev all : List Member → List Row → Forest
  all front there = forest (front ++ other there)

  front_further : (front : List Member) (o : Row) (os : List Row)
      → all front (o ∷ os) ≡ all (front ++ (field_step o.name.now, ((row_shown theirs o).1, Forest.none)) ∷ []) os
  front_further front o os =
      ap forest (sym (append_assoc front ((field_step o.name.now, ((row_shown theirs o).1, Forest.none)) ∷ [])
      (other os)))

  named_here : (row o : Row) (rows os : List Row) → have_same_names (row ∷ rows) (o ∷ os) ≡ true
      → comes (field_step row.name.now) (other (o ∷ os)) ≡ true
  named_here row o rows os h =
      let one : o.name.now ≡ row.name.now = text_same o.name.now row.name.now
      (and_left (is_text o.name.now row.name.now) (have_same_names rows os) h) in
      (λ k. cond (is_step (field_step (one k)) (field_step row.name.now)) true
      (comes (field_step row.name.now) (other os)))
      ∙ ap (λ b. cond b true (comes (field_step row.name.now) (other os))) (step_is (field_step row.name.now))

  pub rows_told : (text : List ℕ) (rows there : List Row) (front : List Member) → have_same_names rows there ≡ true
      → rows_beside cx theirs text rows there ≡ items_told Old text (forest (ours rows)) (all front there)
  rows_told text [] there front h = refl
  rows_told text (row ∷ rows) [] front h = absurd cc
  rows_told text (row ∷ rows) (o ∷ os) front h =
      let m : Member = (field_step row.name.now, ((row_shown cx row).1, Forest.none)) in
      let next = front ++ (field_step o.name.now, ((row_shown theirs o).1, Forest.none)) ∷ [] in
      (λ k. last_items Old text (ours rows) m
      (sym (found_behind m.0 front (other (o ∷ os)) (named_here row o rows os h)) k)
      ++ rows_told text rows os next
      (and_right (is_text o.name.now row.name.now) (have_same_names rows os) h) k)
      ∙ ap (λ g. last_items Old text (ours rows) m (find m.0 (all front (o ∷ os)))
      ++ items_told Old text (forest (ours rows)) g) (sym (front_further front o os))
      ∙ sym (last_further Old text (all front (o ∷ os)) m (ours rows))

  -- where nothing is told of a value beside another one, nothing is told
  none_turned : (side : Side) → ((at : List ℕ) (v w : List Token) → leaf_items side at v (Some w) ≡ [])
      → (text : List ℕ) (rows there : List Row) (front : List Member) → have_same_names rows there ≡ true
      → items_told side text (forest (ours rows)) (all front there) ≡ []
  none_turned side silent text [] there front h = refl
  none_turned side silent text (row ∷ rows) [] front h = absurd cc
  none_turned side silent text (row ∷ rows) (o ∷ os) front h =
      let m : Member = (field_step row.name.now, ((row_shown cx row).1, Forest.none)) in
      let next = front ++ (field_step o.name.now, ((row_shown theirs o).1, Forest.none)) ∷ [] in
      last_further side text (all front (o ∷ os)) m (ours rows)
      ∙ (λ k. last_items side text (ours rows) m
      (found_behind m.0 front (other (o ∷ os)) (named_here row o rows os h) k)
      ++ items_told side text (forest (ours rows)) (front_further front o os k))
      ∙ (λ k. (placed_told side text row o rows os h
      ∙ ap (λ is. cond (comes m.0 (ours rows)) [] is)
      (silent (joined text row.name.now) (row_shown cx row).1 (row_shown theirs o).1)
      ∙ nothing (comes m.0 (ours rows))) k
      ++ none_turned side silent text rows os next
      (and_right (is_text o.name.now row.name.now) (have_same_names rows os) h) k)
    where
      none : List Members
      none = []

      nothing : (b : Bool) → cond b [] [] ≡ none
      nothing true = refl
      nothing false = refl

  pub none_new : (text : List ℕ) (rows there : List Row) (front : List Member) → have_same_names rows there ≡ true
      → items_told New text (forest (ours rows)) (all front there) ≡ []
  none_new = none_turned New (λ at v w. refl)

  pub none_moved : (text : List ℕ) (rows there : List Row) (front : List Member) → have_same_names rows there ≡ true
      → items_told Moved text (forest (ours rows)) (all front there) ≡ []
  none_moved = none_turned Moved (λ at v w. refl)
