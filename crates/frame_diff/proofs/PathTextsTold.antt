-- No two leaves of a message, and no two changes that are told, have one path text.
use Rattle.std.proofs.Common.{◌≡◌, ℕ, Bool, true, false, List, [], ◌∷◌, map, refl, sym, ap, subst, ◌∙◌}
use Rattle.std.proofs.lemmas.Bool.{and_from, not_from_false, or_from, or_parts}
use Rattle.std.specs.Prelude.{Option, Some, None, cond, not, ◌&&◌, ◌||◌}
use Rattle.std.specs.List.{list_any}
use Rattle.json.specs.Token.{Token}
use Rattle.frame_shown.specs.Names.{are_apart}
use Rattle.frame_diff.specs.Differences.{Change, inside_in, is_shown_same, leaf_change, path_of, side_changes}
use Rattle.frame_diff.specs.Forests.{Forest, Leaf, Path, find, is_label, is_path, is_text, leaves, value_at}
use Rattle.frame_diff.specs.Items.{path_text, step_text}
use Rattle.frame_diff.specs.Laws.{AreOnce, messages_told as told}
use Rattle.frame_diff.specs.Members.{message_forest}
use Rattle.frame_diff.specs.PathTexts.{PathTextsAreApart}
use Rattle.frame_diff.specs.Wholes.{is_alone, wholes}
use Rattle.frame_diff.specs.declared.side.Side.{Side}
use Rattle.frame_diff.specs.declared.side.Side.TheVariants.{Old, New, Moved}
use Rattle.frame_diff.proofs.Flat.{message_apart}
use Rattle.frame_diff.proofs.Messages.{messages_told}
use Rattle.frame_diff.proofs.Once.{StandOnce, leaves_once}
use Rattle.frame_diff.proofs.PathTexts.{Sort, StandsIn, Whose, path_of_text, within}
use Rattle.frame_diff.proofs.PathTextsFits.{Fits}
use Rattle.frame_diff.proofs.PathTextsForests.{AllStand, append_stand, leaf_path, leaves_stand, message_fits}
use Rattle.frame_diff.proofs.Steps.{path_is, path_same, text_same}

abbrev others : Sort
others = Sort.attributes Whose.other

-- ** where each path stands once, so does each text

module _ {X : Type 0} (path : X → Path) where
  abbrev Once : List X → Type 0
  Once [] = Unit {0}
  Once (x ∷ xs) = (list_any (λ y. is_path (path y) (path x)) xs ≡ false) × Once xs

  abbrev texts : List X → List (List ℕ)
  texts xs = map (λ x. path_text (path x)) xs

  other_text : (p q : Path) → StandsIn others p → StandsIn others q → is_path p q ≡ false
      → is_text (path_text p) (path_text q) ≡ false
  other_text p q f g other = by (is_text (path_text p) (path_text q)) refl
    where
      by : (b : Bool) → is_text (path_text p) (path_text q) ≡ b → b ≡ false
      by false is = refl
      by true is =
          let same : p ≡ q = path_of_text p q f g (text_same (path_text p) (path_text q) is) in
          let clash : true ≡ false = sym (path_is q) ∙ ap (λ u. is_path u q) (sym same) ∙ other in absurd cc

  no_text : (x : X) (xs : List X) → StandsIn others (path x) → AllStand path others xs
      → list_any (λ y. is_path (path y) (path x)) xs ≡ false
      → list_any (λ text. is_text text (path_text (path x))) (texts xs) ≡ false
  no_text x [] f all none = refl
  no_text x (y ∷ xs) f all none =
      let both = or_parts (is_path (path y) (path x)) (list_any (λ z. is_path (path z) (path x)) xs) none in
      or_from (is_text (path_text (path y)) (path_text (path x)))
      (list_any (λ text. is_text text (path_text (path x))) (texts xs))
      (other_text (path y) (path x) all.0 f both.0) (no_text x xs f all.1 both.1)

  texts_apart : (xs : List X) → AllStand path others xs → Once xs → are_apart (texts xs) ≡ true
  texts_apart [] all once = refl
  texts_apart (x ∷ xs) all once =
      and_from (not (list_any (λ text. is_text text (path_text (path x))) (texts xs))) (are_apart (texts xs))
      (not_from_false (list_any (λ text. is_text text (path_text (path x))) (texts xs))
      (no_text x xs all.0 all.1 once.0)) (texts_apart xs all.1 once.1)

-- ** leaves

some_stands : (ls : List Leaf) (p : Path) (v : List Token) → AllStand leaf_path others ls → value_at ls p ≡ Some v
    → StandsIn others p
some_stands [] p v all h = absurd cc
some_stands (l ∷ ls) p v all h = by (is_path l.0 p) refl h (some_stands ls p v all.1)
  where
    by : (b : Bool) → is_path l.0 p ≡ b → cond b (Some l.1) (value_at ls p) ≡ Some v
        → (value_at ls p ≡ Some v → StandsIn others p) → StandsIn others p
    by true is h later = subst (StandsIn others) (path_same l.0 p is) all.0
    by false is h later = later h

none_at : (ls : List Leaf) (p : Path) → value_at ls p ≡ None → list_any (λ l. is_path l.0 p) ls ≡ false
none_at [] p none = refl
none_at (l ∷ ls) p none = by (is_path l.0 p) none (none_at ls p)
  where
    by : (b : Bool) → cond b (Some l.1) (value_at ls p) ≡ None
        → (value_at ls p ≡ None → list_any (λ l. is_path l.0 p) ls ≡ false)
        → (b || list_any (λ l. is_path l.0 p) ls) ≡ false
    by true h later = absurd cc
    by false h later = later h

leaves_are : (ls : List Leaf) → StandOnce ls → Once leaf_path ls
leaves_are [] once = tt
leaves_are (l ∷ ls) once = (none_at ls l.0 once.0, leaves_are ls once.1)

-- ** changes

-- values that are told as a whole stand where they stood
unless_fit : (b : Bool) (sort : Sort) (f : Forest) → Fits sort f → Fits sort (cond b Forest.none f)
unless_fit true sort f h = tt
unless_fit false sort f h = h

wholes_fit : (sort : Sort) (f g : Forest) → Fits sort f → Fits sort (wholes f g)
wholes_fit sort Forest.none g h = tt
wholes_fit sort Forest.passed g h = tt
wholes_fit sort (Forest.vlans runs) g h = h
wholes_fit sort (Forest.texts vs) g h = tt
wholes_fit sort (Forest.tree s v i rest) g h =
    let beside = find s g in
    let inner = within sort (step_text s) in (
      h.0,
      unless_fit (is_label s && is_alone beside) inner (wholes i (inside_in beside))
          (wholes_fit inner i (inside_in beside) h.1),
      wholes_fit sort rest g h.2,
    )

wholes_stand : (f g : Forest) → Fits others f → AllStand leaf_path others (leaves (wholes f g))
wholes_stand f g h = leaves_stand others (wholes f g) (wholes_fit others f g h)

change_stands : (side : Side) (l : Leaf) (beside : Option (List Token)) → StandsIn others l.0
    → AllStand path_of others (leaf_change side l.0 l.1 beside)
change_stands Old l None h = (h, tt)
change_stands New l None h = (h, tt)
change_stands New l (Some w) h = tt
change_stands Moved l beside h = tt
change_stands Old l (Some w) h = by (is_shown_same l.1 w)
  where
    by : (b : Bool) → AllStand path_of others (cond b [] (Change.turned l.0 l.1 w ∷ []))
    by true = tt
    by false = (h, tt)

side_stands : (side : Side) (ls beside : List Leaf) → AllStand leaf_path others ls
    → AllStand path_of others (side_changes side [] ls beside)
side_stands side [] beside h = tt
side_stands side (l ∷ ls) beside h =
    append_stand path_of others (leaf_change side l.0 l.1 (value_at beside l.0)) (side_changes side [] ls beside)
    (change_stands side l (value_at beside l.0) h.0) (side_stands side ls beside h.1)

changes_are : (cs : List Change) → AreOnce cs → Once path_of cs
changes_are [] once = tt
changes_are (c ∷ cs) once = (once.0, changes_are cs once.1)

pub path_texts_apart : PathTextsAreApart
path_texts_apart = record {
  one_path = λ is_state cx other old new read too p q v w some some_too.
      let f = message_forest is_state cx old in
      let g = message_forest is_state other new in
      path_of_text p q
      (some_stands (leaves f) p v (leaves_stand others f (message_fits is_state cx old read)) some)
      (some_stands (leaves g) q w (leaves_stand others g (message_fits is_state other new too)) some_too);
  leaves_apart = λ is_state cx m read.
      let f = message_forest is_state cx m in
      texts_apart leaf_path (leaves f) (leaves_stand others f (message_fits is_state cx m read))
      (leaves_are (leaves f) (leaves_once f (message_apart is_state cx m)));
  told_apart = λ is_state cx other old new read too.
      let f = message_forest is_state cx old in
      let g = message_forest is_state other new in
      let old_leaves = leaves (wholes f g) in
      let new_leaves = leaves (wholes g f) in
      texts_apart path_of (told is_state cx other old new)
      (subst (AllStand path_of others) (sym (messages_told.all is_state cx other old new))
      (append_stand path_of others (side_changes Old [] old_leaves new_leaves)
      (side_changes New [] new_leaves old_leaves)
      (side_stands Old old_leaves new_leaves (wholes_stand f g (message_fits is_state cx old read)))
      (side_stands New new_leaves old_leaves (wholes_stand g f (message_fits is_state other new too)))))
      (changes_are (told is_state cx other old new) (messages_told.once is_state cx other old new));
}
