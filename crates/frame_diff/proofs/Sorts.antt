-- The members of a message are of three sorts, and none of one sort stands at a step of another one.
use Rattle.std.proofs.Common.{◌≡◌, ℕ, suc, Bool, true, false, List, [], ◌∷◌, refl, sym, ap, ◌∙◌}
use Rattle.std.proofs.Common.{eqb-true, eq-eqb}
use Rattle.std.specs.Prelude.{◌==◌, ◌&&◌}
use Rattle.json.specs.Token.{Token}
use Rattle.nla_wire.specs.Frames.{Frame}
use Rattle.shown.specs.Drafts.{Members}
use Rattle.frame_shown.specs.Frames.{levels}
use Rattle.frame_shown.specs.declared.form.Around.{Around}
use Rattle.frame_shown.specs.declared.form.List.{List as Shape}
use Rattle.frame_shown.specs.declared.form.List.TheVariants as Shapes
use Rattle.frame_diff.specs.Forests.{Forest, Member, Step, is_step, is_text}
use Rattle.frame_diff.specs.Inside.{is_of_object}
use Rattle.frame_diff.specs.Members.{Reading, members_in, named, reading, refused_in, refused_step, unless_none}
use Rattle.frame_diff.proofs.Classes.{IsOfObject, members_of_object}
use Rattle.frame_diff.proofs.Inside.{AreAt, at_weaker, none_at}
use Rattle.frame_diff.proofs.Parts.{NoneComes}

abbrev pub sort_of : Step → ℕ
sort_of (Step.part n text) = suc n
sort_of (Step.name text) = 0
sort_of (Step.array text) = 0
sort_of (Step.place n) = 0
sort_of (Step.label name label) = 6
sort_of Step.repeated = 0
sort_of Step.other = 0

abbrev pub AreOf : ℕ → List Member → Type 0
AreOf n ms = AreAt (λ s. sort_of s ≡ n) ms

first : (a b : Bool) → a && b ≡ true → a ≡ true
first true b h = refl
first false b h = absurd cc

same_sort : (s t : Step) → is_step s t ≡ true → sort_of s ≡ sort_of t
same_sort (Step.part m a) (Step.part n b) h = ap suc (eqb-true m n (first (m == n) (is_text a b) h))
same_sort (Step.part m a) (Step.name b) h = absurd cc
same_sort (Step.part m a) (Step.array b) h = absurd cc
same_sort (Step.part m a) (Step.place n) h = absurd cc
same_sort (Step.part m a) Step.repeated h = absurd cc
same_sort (Step.part m a) Step.other h = absurd cc
same_sort (Step.part m a) (Step.label b l) h = absurd cc
same_sort (Step.name a) (Step.name b) h = refl
same_sort (Step.name a) (Step.array b) h = absurd cc
same_sort (Step.name a) (Step.part n b) h = absurd cc
same_sort (Step.name a) (Step.place n) h = absurd cc
same_sort (Step.name a) Step.repeated h = absurd cc
same_sort (Step.name a) Step.other h = absurd cc
same_sort (Step.name a) (Step.label b l) h = absurd cc
same_sort (Step.array a) (Step.array b) h = refl
same_sort (Step.array a) (Step.name b) h = absurd cc
same_sort (Step.array a) (Step.part n b) h = absurd cc
same_sort (Step.array a) (Step.place n) h = absurd cc
same_sort (Step.array a) Step.repeated h = absurd cc
same_sort (Step.array a) Step.other h = absurd cc
same_sort (Step.array a) (Step.label b l) h = absurd cc
same_sort (Step.place m) (Step.place n) h = refl
same_sort (Step.place m) (Step.array b) h = absurd cc
same_sort (Step.place m) (Step.part n b) h = absurd cc
same_sort (Step.place m) (Step.name b) h = absurd cc
same_sort (Step.place m) Step.repeated h = absurd cc
same_sort (Step.place m) Step.other h = absurd cc
same_sort (Step.place m) (Step.label b l) h = absurd cc
same_sort Step.repeated Step.repeated h = refl
same_sort Step.repeated (Step.part n b) h = absurd cc
same_sort Step.repeated (Step.name b) h = absurd cc
same_sort Step.repeated (Step.array b) h = absurd cc
same_sort Step.repeated (Step.place n) h = absurd cc
same_sort Step.repeated Step.other h = absurd cc
same_sort Step.repeated (Step.label b l) h = absurd cc
same_sort Step.other Step.other h = refl
same_sort Step.other (Step.part n b) h = absurd cc
same_sort Step.other (Step.name b) h = absurd cc
same_sort Step.other (Step.array b) h = absurd cc
same_sort Step.other (Step.place n) h = absurd cc
same_sort Step.other Step.repeated h = absurd cc
same_sort Step.other (Step.label b l) h = absurd cc
same_sort (Step.label a l) (Step.label b m) h = refl
same_sort (Step.label a l) (Step.name b) h = absurd cc
same_sort (Step.label a l) (Step.array b) h = absurd cc
same_sort (Step.label a l) (Step.part n b) h = absurd cc
same_sort (Step.label a l) (Step.place n) h = absurd cc
same_sort (Step.label a l) Step.repeated h = absurd cc
same_sort (Step.label a l) Step.other h = absurd cc

other_sort : (s t : Step) → (sort_of s == sort_of t) ≡ false → is_step s t ≡ false
other_sort s t other = by (is_step s t) refl
  where
    by : (b : Bool) → is_step s t ≡ b → b ≡ false
    by false h = refl
    by true h =
        let clash : true ≡ false =
        sym (eq-eqb (sort_of t) (sort_of t) refl) ∙ ap (λ n. n == sort_of t) (sym (same_sort s t h)) ∙ other
        in absurd cc

-- lists of two sorts
module _ (m n : ℕ) (other : (n == m) ≡ false) where
  pub sorts_apart : (ms ns : List Member) → AreOf m ms → AreOf n ns → NoneComes ms ns
  sorts_apart [] ns all those = tt
  sorts_apart (x ∷ ms) ns all those = (
    none_at x.0 ns (at_weaker (λ t. sort_of t ≡ n) (λ t. is_step t x.0 ≡ false) ns
        (λ t is. other_sort t x.0 ((λ k. is k == all.0 k) ∙ other)) those),
    sorts_apart ms ns all.1 those,
  )

-- ** the members of a message

pub named_sort : (ms : Members) → AreOf 1 (named ms)
named_sort [] = tt
named_sort (m ∷ ms) = (refl, named_sort ms)

object_sort : (s : Step) → is_of_object s ≡ true → sort_of s ≡ 0
object_sort (Step.part n text) h = absurd cc
object_sort (Step.name text) h = refl
object_sort (Step.array text) h = refl
object_sort (Step.place n) h = refl
object_sort (Step.label name label) h = absurd cc
object_sort Step.repeated h = refl
object_sort Step.other h = refl

pub members_sort : (r : Reading) (list : Shape) (fs : List Frame) → AreOf 0 (members_in r list fs)
members_sort r list fs =
    at_weaker IsOfObject (λ s. sort_of s ≡ 0) (members_in r list fs) object_sort (members_of_object r list fs)

unless_sort : (v : List Token) (f : Forest) → AreOf 5 (unless_none refused_step v f)
unless_sort v Forest.none = tt
unless_sort v Forest.passed = tt
unless_sort v (Forest.vlans runs) = tt
unless_sort v (Forest.texts vs) = tt
unless_sort v (Forest.tree a b c d) = (refl, tt)

pub refused_sort : (is_state : Bool) (cx : Around) (bytes : List ℕ) → AreOf 5 (refused_in is_state cx bytes)
refused_sort is_state cx bytes =
    unless_sort (levels 1 cx Shapes.Refused bytes) ((reading 1 is_state cx).inner Shapes.Refused bytes)
