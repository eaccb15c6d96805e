-- Steps and paths that are the same.
use Rattle.std.proofs.Common.{◌≡◌, ℕ, Bool, true, false, List, [], ◌∷◌, refl, ap, ◌∙◌, eqb-true, eq-eqb}
use Rattle.std.specs.Prelude.{Option, None, Some, ◌&&◌, ◌==◌}
use Rattle.std.proofs.lemmas.Slice.Eq.{bytes_eq-Decides}
use Rattle.frame_diff.specs.Forests.{Path, Step, is_number, is_path, is_same_label, is_step, is_text}
use Rattle.frame_diff.specs.declared.labels.Label.{Label}

pub text_same : (a b : List ℕ) → is_text a b ≡ true → a ≡ b
text_same a b h = (bytes_eq-Decides a b).0 h

pub text_is : (a : List ℕ) → is_text a a ≡ true
text_is a = (bytes_eq-Decides a a).1 refl

pub and_left : (a b : Bool) → (a && b) ≡ true → a ≡ true
and_left true b h = refl
and_left false b h = h

pub and_right : (a b : Bool) → (a && b) ≡ true → b ≡ true
and_right true b h = h
and_right false b h = absurd cc

pub number_same : (m n : Option ℕ) → is_number m n ≡ true → m ≡ n
number_same None None h = refl
number_same None (Some n) h = absurd cc
number_same (Some m) None h = absurd cc
number_same (Some m) (Some n) h = ap Some (eqb-true m n h)

pub number_is : (n : Option ℕ) → is_number n n ≡ true
number_is None = refl
number_is (Some n) = eq-eqb n n refl

pub label_same : (l m : Label) → is_same_label l m ≡ true → l ≡ m
label_same l m h =
    let number : l.number ≡ m.number =
    number_same l.number m.number (and_left (is_number l.number m.number) (l.again == m.again) h) in
    let again : l.again ≡ m.again =
    eqb-true l.again m.again (and_right (is_number l.number m.number) (l.again == m.again) h) in
    (λ k. record { number = number k; again = again k })

pub label_is : (l : Label) → is_same_label l l ≡ true
label_is l = (λ k. number_is l.number k && eq-eqb l.again l.again refl k)

pub step_same : (s t : Step) → is_step s t ≡ true → s ≡ t
step_same (Step.name a) (Step.name b) h = ap Step.name (text_same a b h)
step_same (Step.name a) (Step.array b) h = absurd cc
step_same (Step.name a) (Step.part n b) h = absurd cc
step_same (Step.name a) (Step.place n) h = absurd cc
step_same (Step.name a) Step.repeated h = absurd cc
step_same (Step.name a) Step.other h = absurd cc
step_same (Step.name a) (Step.label b l) h = absurd cc
step_same (Step.array a) (Step.array b) h = ap Step.array (text_same a b h)
step_same (Step.array a) (Step.name b) h = absurd cc
step_same (Step.array a) (Step.part n b) h = absurd cc
step_same (Step.array a) (Step.place n) h = absurd cc
step_same (Step.array a) Step.repeated h = absurd cc
step_same (Step.array a) Step.other h = absurd cc
step_same (Step.array a) (Step.label b l) h = absurd cc
step_same (Step.part m a) (Step.name b) h = absurd cc
step_same (Step.part m a) (Step.array b) h = absurd cc
step_same (Step.part m a) (Step.part n b) h =
    (λ k. Step.part (eqb-true m n (and_left (m == n) (is_text a b) h) k)
    (text_same a b (and_right (m == n) (is_text a b) h) k))
step_same (Step.part m a) (Step.place n) h = absurd cc
step_same (Step.part m a) Step.repeated h = absurd cc
step_same (Step.part m a) Step.other h = absurd cc
step_same (Step.part m a) (Step.label b l) h = absurd cc
step_same (Step.place m) (Step.name b) h = absurd cc
step_same (Step.place m) (Step.array b) h = absurd cc
step_same (Step.place m) (Step.part n b) h = absurd cc
step_same (Step.place m) (Step.place n) h = ap Step.place (eqb-true m n h)
step_same (Step.place m) Step.repeated h = absurd cc
step_same (Step.place m) Step.other h = absurd cc
step_same (Step.place m) (Step.label b l) h = absurd cc
step_same Step.repeated (Step.name b) h = absurd cc
step_same Step.repeated (Step.array b) h = absurd cc
step_same Step.repeated (Step.part n b) h = absurd cc
step_same Step.repeated (Step.place n) h = absurd cc
step_same Step.repeated Step.repeated h = refl
step_same Step.repeated Step.other h = absurd cc
step_same Step.repeated (Step.label b l) h = absurd cc
step_same Step.other (Step.name b) h = absurd cc
step_same Step.other (Step.array b) h = absurd cc
step_same Step.other (Step.part n b) h = absurd cc
step_same Step.other (Step.place n) h = absurd cc
step_same Step.other Step.repeated h = absurd cc
step_same Step.other Step.other h = refl
step_same Step.other (Step.label b l) h = absurd cc
step_same (Step.label a l) (Step.label b m) h =
    (λ k. Step.label (text_same a b (and_left (is_text a b) (is_same_label l m) h) k)
    (label_same l m (and_right (is_text a b) (is_same_label l m) h) k))
step_same (Step.label a l) (Step.name b) h = absurd cc
step_same (Step.label a l) (Step.array b) h = absurd cc
step_same (Step.label a l) (Step.part n b) h = absurd cc
step_same (Step.label a l) (Step.place n) h = absurd cc
step_same (Step.label a l) Step.repeated h = absurd cc
step_same (Step.label a l) Step.other h = absurd cc

pub step_is : (s : Step) → is_step s s ≡ true
step_is (Step.name a) = text_is a
step_is (Step.array a) = text_is a
step_is (Step.part m a) = (λ k. eq-eqb m m refl k && text_is a k)
step_is (Step.place m) = eq-eqb m m refl
step_is (Step.label a l) = (λ k. text_is a k && label_is l k)
step_is Step.repeated = refl
step_is Step.other = refl

pub path_same : (p q : Path) → is_path p q ≡ true → p ≡ q
path_same [] [] h = refl
path_same [] (t ∷ q) h = absurd cc
path_same (s ∷ p) [] h = absurd cc
path_same (s ∷ p) (t ∷ q) h =
    let first = step_same s t (and_left (is_step s t) (is_path p q) h) in
    let rest = path_same p q (and_right (is_step s t) (is_path p q) h) in (λ k. first k ∷ rest k)

pub path_is : (p : Path) → is_path p p ≡ true
path_is [] = refl
path_is (s ∷ p) = ap (λ b. b && is_path p p) (step_is s) ∙ path_is p
