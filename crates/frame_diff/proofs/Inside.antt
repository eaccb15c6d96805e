-- What stands inside values beside each other.
use Rattle.std.proofs.Common.{◌≡◌, ℕ, zero, suc, Bool, true, false, List, [], ◌∷◌, ◌++◌, refl, sym, ap, ◌∙◌, arith}
use Rattle.std.proofs.Common.{length, map}
use Rattle.std.specs.Prelude.{Option, Some, None, ◌==◌, ◌&&◌, cond}
use Rattle.json.specs.Token.{Token}
use Rattle.shown.specs.Drafts.{Draft, Members, with_members}
use Rattle.frame_shown.specs.Items.{objects}
use Rattle.frame_shown.specs.declared.form.Around.{Around}
use Rattle.frame_diff.specs.Differences.{inside_in, leaf_in}
use Rattle.frame_diff.specs.Forests.{Forest, Held, Member, Step, comes, field_step, find, forest, is_step, is_text}
use Rattle.frame_diff.specs.Forests.{left_of}
use Rattle.frame_diff.specs.Inside.{has_none, is_field}
use Rattle.frame_diff.specs.Items.{items_told, leaf_items}
use Rattle.frame_diff.specs.Members.{fields, named}
use Rattle.frame_diff.specs.Rows.{row_shown}
use Rattle.frame_diff.specs.Walked.{held_items, step_items}
use Rattle.frame_diff.specs.declared.rows.Row.{Row}
use Rattle.frame_diff.specs.declared.side.Side.{Side}
use Rattle.frame_diff.proofs.Apart.{find_none}
use Rattle.frame_diff.proofs.Entries.{below}
use Rattle.frame_diff.proofs.Steps.{step_is}
use Rattle.frame_diff.specs.Forests.{AreApart, runs_inside}
use Rattle.frame_diff.specs.Inside.{is_texts}

-- ** members beside others of which alone their own steps count

abbrev pub AreAll : (Step → Type 0) → Forest → Type 0
AreAll P Forest.none = Unit {0}
AreAll P Forest.passed = Unit {0}
AreAll P (Forest.vlans runs) = runs ≡ []
AreAll P (Forest.texts vs) = Unit {0}
AreAll P (Forest.tree s v i rest) = P s × AreAll P rest

abbrev pub AreAt : (Step → Type 0) → List Member → Type 0
AreAt P [] = Unit {0}
AreAt P (m ∷ ms) = P m.0 × AreAt P ms

pub same_told : (P : Step → Type 0) (side : Side) (text : List ℕ) (f g h : Forest) → AreAll P f
    → ((s : Step) → P s → find s g ≡ find s h) → items_told side text f g ≡ items_told side text f h
same_told P side text Forest.none g h all same = refl
same_told P side text Forest.passed g h all same = refl
same_told P side text (Forest.vlans runs) g h all same =
    ap (λ rs. items_told side text (Forest.vlans rs) g) all
    ∙ sym (ap (λ rs. items_told side text (Forest.vlans rs) h) all)
same_told P side text (Forest.texts vs) g h all same = refl
same_told P side text (Forest.tree s v i rest) g h all same =
    (λ k. step_items side text s (v, i) (same s all.0 k) ++ same_told P side text rest g h all.1 same k)

pub forest_all : (P : Step → Type 0) (ms : List Member) → AreAt P ms → AreAll P (forest ms)
forest_all P [] all = tt
forest_all P (m ∷ ms) all = by (comes m.0 ms) (forest_all P ms all.1)
  where
    by : (b : Bool) → AreAll P (forest ms) → AreAll P (cond b (forest ms) (Forest.tree m.0 m.1.0 m.1.1 (forest ms)))
    by true rest = rest
    by false rest = (all.0, rest)

pub append_at : (P : Step → Type 0) (xs ys : List Member) → AreAt P xs → AreAt P ys → AreAt P (xs ++ ys)
append_at P [] ys all more = more
append_at P (x ∷ xs) ys all more = (all.0, append_at P xs ys all.1 more)

pub at_weaker : (P Q : Step → Type 0) (ms : List Member) → ((s : Step) → P s → Q s) → AreAt P ms → AreAt Q ms
at_weaker P Q [] more all = tt
at_weaker P Q (m ∷ ms) more all = (more m.0 all.0, at_weaker P Q ms more all.1)

pub none_at : (s : Step) (ms : List Member) → AreAt (λ t. is_step t s ≡ false) ms → comes s ms ≡ false
none_at s [] all = refl
none_at s (m ∷ ms) all = ap (λ b. cond b true (comes s ms)) all.0 ∙ none_at s ms all.1

-- ** those that are left of some

pub find_left : (s : Step) (is_any : Bool) (ms : List Member) → find s (left_of is_any ms) ≡ find s (forest ms)
find_left s true [] = refl
find_left s false [] = refl
find_left s is_any (m ∷ ms) = refl

pub left_told : (side : Side) (text : List ℕ) (is_any : Bool) (ms : List Member) (g : Forest)
    → items_told side text (left_of is_any ms) g ≡ items_told side text (forest ms) g
left_told side text true [] g = refl
left_told side text false [] g = refl
left_told side text is_any (m ∷ ms) g = refl

pub forest_some : (m : Member) (ms : List Member) → has_none (forest (m ∷ ms)) ≡ false
forest_some m [] = refl
forest_some m (x ∷ ms) = by (comes m.0 (x ∷ ms)) (forest_some x ms)
  where
    by : (b : Bool) → has_none (forest (x ∷ ms)) ≡ false
        → has_none (cond b (forest (x ∷ ms)) (Forest.tree m.0 m.1.0 m.1.1 (forest (x ∷ ms)))) ≡ false
    by true rest = rest
    by false rest = refl

pub left_some : (ms : List Member) → has_none (left_of true ms) ≡ false
left_some [] = refl
left_some (m ∷ ms) = forest_some m ms

pub rows_left : (cx : Around) (rows : List Row) (is_any is_empty : Bool) → is_empty ≡ (length rows == 0)
    → is_empty ≡ false → has_none (left_of is_any (named (map (row_shown cx) rows))) ≡ is_empty
rows_left cx [] is_any is_empty is none = absurd cc
rows_left cx (row ∷ rows) is_any is_empty is none =
    forest_some (field_step (row_shown cx row).0, ((row_shown cx row).1, Forest.none))
    (named (map (row_shown cx) rows)) ∙ sym none

-- ** a value, by what is inside it

pub held_leaf : (side : Side) (text : List ℕ) (held : Held) (beside : Option Held) → has_none held.1 ≡ true
    → is_texts held.1 ≡ false → held_items side text held beside ≡ leaf_items side text held.0 (leaf_in beside)
held_leaf side text (v, Forest.none) beside none plain = refl
held_leaf side text (v, Forest.passed) beside none plain = absurd cc
held_leaf side text (v, Forest.vlans runs) beside none plain = absurd cc
held_leaf side text (v, Forest.texts vs) beside none plain = absurd cc
held_leaf side text (v, Forest.tree a b c d) beside none plain = absurd cc

pub held_rest : (side : Side) (text : List ℕ) (held : Held) (beside : Option Held) → has_none held.1 ≡ false
    → held_items side text held beside ≡ items_told side text held.1 (inside_in beside)
held_rest side text (v, Forest.none) beside some = absurd cc
held_rest side text (v, Forest.passed) beside some = refl
held_rest side text (v, Forest.vlans runs) beside some = refl
held_rest side text (v, Forest.texts vs) beside some = absurd cc
held_rest side text (v, Forest.tree a b c d) beside some = refl

pub leaf_here : (held : Held) → has_none held.1 ≡ true → Some held.0 ≡ leaf_in (Some held)
leaf_here (v, Forest.none) none = refl
leaf_here (v, Forest.passed) none = absurd cc
leaf_here (v, Forest.vlans runs) none = absurd cc
leaf_here (v, Forest.texts vs) none = refl
leaf_here (v, Forest.tree a b c d) none = absurd cc

pub leaf_not : (held : Held) → has_none held.1 ≡ false → None ≡ leaf_in (Some held)
leaf_not (v, Forest.none) some = absurd cc
leaf_not (v, Forest.passed) some = refl
leaf_not (v, Forest.vlans runs) some = refl
leaf_not (v, Forest.texts vs) some = absurd cc
leaf_not (v, Forest.tree a b c d) some = refl

-- ** fields

named_at : (ms : Members) → AreAt (λ s. is_field s ≡ true) (named ms)
named_at [] = tt
named_at (m ∷ ms) = (refl, named_at ms)

pub fields_all : (ms : Members) → AreAll (λ s. is_field s ≡ true) (fields ms)
fields_all ms = forest_all (λ s. is_field s ≡ true) (named ms) (named_at ms)

field_apart : (s : Step) (text : List ℕ) → is_field s ≡ false → is_step (field_step text) s ≡ false
field_apart (Step.name a) text h = refl
field_apart (Step.array a) text h = refl
field_apart (Step.part zero a) text h = absurd cc
field_apart (Step.part (suc n) a) text h = ap (λ b. b && is_text text a) (below 0 (suc n) (omega arith))
field_apart (Step.place n) text h = refl
field_apart (Step.label name label) text h = refl
field_apart Step.repeated text h = refl
field_apart Step.other text h = refl

pub fields_lack : (s : Step) (ms : Members) → is_field s ≡ false → comes s (named ms) ≡ false
fields_lack s [] h = refl
fields_lack s (m ∷ ms) h = ap (λ b. cond b true (comes s (named ms))) (field_apart s m.0 h) ∙ fields_lack s ms h

pub none_in_fields : (s : Step) (is_any : Bool) (ms : Members) → is_field s ≡ false
    → find s (left_of is_any (named ms)) ≡ None
none_in_fields s is_any ms h = find_left s is_any (named ms) ∙ find_none s (named ms) (fields_lack s ms h)

-- a field is told beside the members of no list
first_other : (s : Step) (v : List Token) (i rest : Forest)
    → ((name : List ℕ) → find (field_step name) (Forest.tree s v i rest) ≡ None) → is_field s ≡ false
first_other (Step.part zero text) v i rest h =
    let held : Held = (v, i) in
    let clash : Some held ≡ None =
    sym (ap (λ b. cond b (Some held) (find (field_step text) rest)) (step_is (field_step text))) ∙ h text in
    absurd cc
first_other (Step.part (suc n) text) v i rest h = refl
first_other (Step.name text) v i rest h = refl
first_other (Step.array text) v i rest h = refl
first_other (Step.place n) v i rest h = refl
first_other (Step.label name label) v i rest h = refl
first_other Step.repeated v i rest h = refl
first_other Step.other v i rest h = refl

rest_other : (s t : Step) (v : List Token) (i rest : Forest) → find t (Forest.tree s v i rest) ≡ None
    → find t rest ≡ None
rest_other s t v i rest = by (is_step s t)
  where
    by : (b : Bool) → cond b (Some (v, i)) (find t rest) ≡ None → find t rest ≡ None
    by true h = absurd cc
    by false h = h

pub fieldless_all : (f : Forest) → AreApart f → runs_inside f ≡ []
    → ((name : List ℕ) → find (field_step name) f ≡ None) → AreAll (λ s. is_field s ≡ false) f
fieldless_all Forest.none apart none h = tt
fieldless_all Forest.passed apart none h = tt
fieldless_all (Forest.vlans runs) apart none h = none
fieldless_all (Forest.texts vs) apart none h = tt
fieldless_all (Forest.tree s v i rest) apart none h = (
  first_other s v i rest h,
  fieldless_all rest apart.2 apart.3 (λ name. rest_other s (field_step name) v i rest (h name)),
)

field_found : (g h : Forest) → ((name : List ℕ) → find (field_step name) g ≡ find (field_step name) h) → (s : Step)
    → is_field s ≡ true → find s g ≡ find s h
field_found g h same (Step.part zero text) is = same text
field_found g h same (Step.part (suc n) text) is = absurd cc
field_found g h same (Step.name text) is = absurd cc
field_found g h same (Step.array text) is = absurd cc
field_found g h same (Step.place n) is = absurd cc
field_found g h same (Step.label name label) is = absurd cc
field_found g h same Step.repeated is = absurd cc
field_found g h same Step.other is = absurd cc

pub fields_beside : (side : Side) (text : List ℕ) (ms : Members) (g h : Forest)
    → ((name : List ℕ) → find (field_step name) g ≡ find (field_step name) h)
    → items_told side text (fields ms) g ≡ items_told side text (fields ms) h
fields_beside side text ms g h same =
    same_told (λ s. is_field s ≡ true) side text (fields ms) g h (fields_all ms) (field_found g h same)

pub list_beside : (side : Side) (text : List ℕ) (f g h : Forest) → AreApart f → runs_inside f ≡ []
    → ((name : List ℕ) → find (field_step name) f ≡ None)
    → ((s : Step) → is_field s ≡ false → find s g ≡ find s h)
    → items_told side text f g ≡ items_told side text f h
list_beside side text f g h apart runs none same =
    same_told (λ s. is_field s ≡ false) side text f g h (fieldless_all f apart runs none) same

-- ** what is written

pub same_written : (os ps : List Members) (page new : Draft) → os ≡ ps → new ≡ with_members (objects os) page
    → new ≡ with_members (objects ps) page
same_written os ps page new same is = is ∙ ap (λ l. with_members (objects l) page) same
