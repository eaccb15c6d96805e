-- What lists of VLANs say of each.
use Rattle.std.proofs.Common.{◌≡◌, ℕ, zero, suc, ◌+◌, ◌-◌, ◌<◌, ◌≤◌, Bool, true, false, List, [], ◌∷◌, ◌++◌, refl}
use Rattle.std.proofs.Common.{sym, ap, ◌∙◌, arith, map, not, cond, subst, inl, inr}
use Rattle.std.specs.Prelude.{Option, None, Some, ◌==◌, ◌&&◌, nat_le, nat_lt, slice_get}
use Rattle.std.specs.List.{AllByRecursion, range_with_len}
use Rattle.std.proofs.lemmas.Bool.{and_cases, and_from, and_parts, cases_eq, cond-false, cond-true, eq-eqb}
use Rattle.std.proofs.lemmas.Bool.{eqb-true, leb-true, ltb-false, ltb-true, ne_eqb, not-false, not-true}
use Rattle.nla_wire.specs.Frames.{Frame}
use Rattle.link_vlans.specs.Pieces.{AreOnce, is_beside, is_in, said_at, said_of, vlans_of}
use Rattle.link_vlans.specs.Runs.{apart_ones, are_apart, is_below, is_number, is_run, is_said, runs_behind, runs_in}
use Rattle.link_vlans.specs.Runs.{vlans_with}
use Rattle.link_vlans.specs.declared.run.Run.{Run}
use Rattle.link_vlans.specs.declared.run.Said.{Said}

-- ** the same

number_same : (m n : Option ℕ) → is_number m n ≡ true → m ≡ n
number_same None None is = refl
number_same None (Some n) is = absurd cc
number_same (Some m) None is = absurd cc
number_same (Some m) (Some n) is = ap Some (eqb-true m n is)

number_is : (n : Option ℕ) → is_number n n ≡ true
number_is None = refl
number_is (Some n) = eq-eqb n n refl

pub said_same : (a b : Said) → is_said a b ≡ true → a ≡ b
said_same a b is =
    let both = and_parts (a.flags == b.flags) (is_number a.ahead b.ahead) is in
    λ k. record {
      flags = eqb-true a.flags b.flags both.0 k;
      ahead = number_same a.ahead b.ahead both.1 k;
    }

pub said_is : (a : Said) → is_said a a ≡ true
said_is a = and_from (a.flags == a.flags) (is_number a.ahead a.ahead) (eq-eqb a.flags a.flags refl) (number_is a.ahead)

pub beside_same : (a b : Option Said) → is_beside a b ≡ true → a ≡ b
beside_same None None is = refl
beside_same None (Some b) is = absurd cc
beside_same (Some a) None is = absurd cc
beside_same (Some a) (Some b) is = ap Some (said_same a b is)

pub beside_is : (a : Option Said) → is_beside a a ≡ true
beside_is None = refl
beside_is (Some a) = said_is a

-- ** runs

in_run : (n : ℕ) (r : Run) → is_in n r ≡ true → (r.first ≤ n) × (n ≤ r.last)
in_run n r is =
    let both = and_parts (not (nat_lt n r.first)) (not (nat_lt r.last n)) is in
    (ltb-false n r.first (not-true (nat_lt n r.first) both.0), ltb-false r.last n (not-true (nat_lt r.last n) both.1))

out_of_run : (n : ℕ) (r : Run) → is_in n r ≡ false → r.first ≤ n → r.last < n
out_of_run n r is low = elim (and_cases (not (nat_lt n r.first)) (not (nat_lt r.last n)) is) [
  | inl h ↦ let lt = ltb-true n r.first (not-false (nat_lt n r.first) h) in absurd (omega arith)
  | inr h ↦ ltb-true r.last n (not-false (nat_lt r.last n) h)
]

not_in_run : (n : ℕ) (r : Run) → (r.first ≤ n → r.last < n) → is_in n r ≡ false
not_in_run n r out = by (is_in n r) refl
  where
    by : (b : Bool) → is_in n r ≡ b → is_in n r ≡ false
    by true is = let in_it = in_run n r is in absurd (omega arith)
    by false is = is

-- the parts of a list in order
pub record IsApart (last : Option ℕ) (r : Run) (rs : List Run) : Type 0 where
  pub below : is_below last r.first ≡ true
  pub up : r.first ≤ r.last
  pub small : r.last < 65536
  pub behind : are_apart (Some r.last) rs ≡ true

pub apart_parts : (last : Option ℕ) (r : Run) (rs : List Run) → are_apart last (r ∷ rs) ≡ true → IsApart last r rs
apart_parts last r rs apart =
    let first = and_parts (is_below last r.first) (is_run r && are_apart (Some r.last) rs) apart in
    let rest = and_parts (is_run r) (are_apart (Some r.last) rs) first.1 in
    let run = and_parts (nat_le r.first r.last) (nat_lt r.last 65536) rest.0 in
    record {
      below = first.0;
      up = leb-true r.first r.last run.0;
      small = ltb-true r.last 65536 run.1;
      behind = rest.1;
    }

apart_alone : (last : Option ℕ) (rs : List Run) → are_apart last rs ≡ true → are_apart None rs ≡ true
apart_alone last [] apart = refl
apart_alone last (r ∷ rs) apart =
    (and_parts (is_below last r.first) (is_run r && are_apart (Some r.last) rs) apart).1

none_below : (m : ℕ) (rs : List Run) → are_apart (Some m) rs ≡ true → (n : ℕ) → n ≤ m → said_of rs n ≡ None
none_below m [] apart n below = refl
none_below m (r ∷ rs) apart n below =
    let parts : IsApart (Some m) r rs = apart_parts (Some m) r rs apart in
    let above : m < r.first = ltb-true m r.first parts.below in
    cond-false (is_in n r) (Some r.said) (said_of rs n) (not_in_run n r (λ low. omega arith))
    ∙ none_below r.last rs parts.behind n (omega arith)

pub none_before : (runs : List Run) (r : Run) → Some r ≡ slice_get runs 0 → are_apart None runs ≡ true
    → (n : ℕ) → n < r.first → said_of runs n ≡ None
none_before [] r is apart n before = absurd cc
none_before (q ∷ runs) r is apart n before =
    let e : r ≡ q = cc in
    let first : r.first ≡ q.first = ap (λ (x : Run). x.first) e in
    let parts : IsApart None q runs = apart_parts None q runs apart in
    cond-false (is_in n q) (Some q.said) (said_of runs n) (not_in_run n q (λ low. omega arith))
    ∙ none_below q.last runs parts.behind n (omega arith)

-- a run that ends below a VLAN says nothing of those from there on
pub run_skipped : (runs rest : List Run) (r : Run) (vid : ℕ) → runs ≡ r ∷ rest → r.last < vid
    → are_apart None runs ≡ true
    → (are_apart None rest ≡ true) × ((n : ℕ) → vid ≤ n → said_of rest n ≡ said_of runs n)
run_skipped runs rest r vid is below apart =
    let parts : IsApart None r rest = apart_parts None r rest (subst (λ rs. are_apart None rs ≡ true) is apart) in (
      apart_alone (Some r.last) rest parts.behind,
      λ n low. sym (ap (λ rs. said_of rs n) is
          ∙ cond-false (is_in n r) (Some r.said) (said_of rest n) (not_in_run n r (λ at. omega arith))),
    )

-- ** VLAN by VLAN

abbrev pub vlans_from : Said → ℕ → ℕ → List (ℕ × Said)
vlans_from s a k = map (λ vid. (vid, s)) (range_with_len a k)

at_one : (s : Said) (a k n : ℕ) (vs : List (ℕ × Said)) → a ≤ n → n < a + k
    → said_at (vlans_from s a k ++ vs) n ≡ Some s
at_one s a zero n vs low high = absurd (omega arith)
at_one s a (suc k) n vs low high = elim (cases_eq a n) [
  | inl is ↦ cond-true (a == n) (Some s) (said_at (vlans_from s (a + 1) k ++ vs) n) (eq-eqb a n is)
  | inr other ↦ cond-false (a == n) (Some s) (said_at (vlans_from s (a + 1) k ++ vs) n) (ne_eqb a n other)
      ∙ at_one s (a + 1) k n vs (omega arith) (omega arith)
]

at_none : (s : Said) (a k n : ℕ) (vs : List (ℕ × Said)) → (a ≤ n → a + k ≤ n)
    → said_at (vlans_from s a k ++ vs) n ≡ said_at vs n
at_none s a zero n vs out = refl
at_none s a (suc k) n vs out =
    cond-false (a == n) (Some s) (said_at (vlans_from s (a + 1) k ++ vs) n) (ne_eqb a n (λ is. omega arith))
    ∙ at_none s (a + 1) k n vs (λ low. omega arith)

pub found : (rs : List Run) (n : ℕ) → said_at (vlans_of rs) n ≡ said_of rs n
found [] n = refl
found (r ∷ rs) n = by (is_in n r) refl (found rs n)
  where
    by : (b : Bool) → is_in n r ≡ b → said_at (vlans_of rs) n ≡ said_of rs n
        → said_at (vlans_of (r ∷ rs)) n ≡ cond b (Some r.said) (said_of rs n)
    by true is rest =
        let in_it = in_run n r is in
        at_one r.said r.first (suc r.last - r.first) n (vlans_of rs) in_it.0 (omega arith)
    by false is rest =
        at_none r.said r.first (suc r.last - r.first) n (vlans_of rs)
        (λ low. let out = out_of_run n r is low in omega arith)
        ∙ rest

once_from : (s : Said) (a k : ℕ) (vs : List (ℕ × Said)) → ((n : ℕ) → a ≤ n → n < a + k → said_at vs n ≡ None)
    → AreOnce vs → AreOnce (vlans_from s a k ++ vs)
once_from s a zero vs none once = once
once_from s a (suc k) vs none once = (
  at_none s (a + 1) k a vs (λ low. omega arith) ∙ none a (omega arith) (omega arith),
  once_from s (a + 1) k vs (λ n low high. none n (omega arith) (omega arith)) once,
)

once_behind : (last : Option ℕ) (rs : List Run) → are_apart last rs ≡ true → AreOnce (vlans_of rs)
once_behind last [] apart = tt
once_behind last (r ∷ rs) apart =
    let parts : IsApart last r rs = apart_parts last r rs apart in
    once_from r.said r.first (suc r.last - r.first) (vlans_of rs)
    (λ n low high. found rs n ∙ none_below r.last rs parts.behind n (omega arith))
    (once_behind (Some r.last) rs parts.behind)

pub once : (rs : List Run) → are_apart None rs ≡ true → AreOnce (vlans_of rs)
once rs apart = once_behind None rs apart

abbrev IsSmall : ℕ × Said → Type 0
IsSmall v = v.0 < 65536

small_from : (s : Said) (a k : ℕ) (vs : List (ℕ × Said)) → a + k ≤ 65536 → AllByRecursion IsSmall vs
    → AllByRecursion IsSmall (vlans_from s a k ++ vs)
small_from s a zero vs below small = small
small_from s a (suc k) vs below small = (omega arith, small_from s (a + 1) k vs (omega arith) small)

small_behind : (last : Option ℕ) (rs : List Run) → are_apart last rs ≡ true
    → AllByRecursion IsSmall (vlans_of rs)
small_behind last [] apart = tt
small_behind last (r ∷ rs) apart =
    let parts : IsApart last r rs = apart_parts last r rs apart in
    small_from r.said r.first (suc r.last - r.first) (vlans_of rs) (omega arith)
    (small_behind (Some r.last) rs parts.behind)

pub small : (rs : List Run) → are_apart None rs ≡ true
    → AllByRecursion (λ (v : ℕ × Said). v.0 < 65536) (vlans_of rs)
small rs apart = small_behind None rs apart

-- ** as they are read

ones_apart : (found rs : List Run) → apart_ones (Some found) ≡ Some rs → are_apart None rs ≡ true
ones_apart found rs is = by (are_apart None found) refl is
  where
    by : (b : Bool) → are_apart None found ≡ b → cond b (Some found) None ≡ Some rs → are_apart None rs ≡ true
    by true apart same = let e : found ≡ rs = cc in subst (λ xs. are_apart None xs ≡ true) e apart
    by false apart same = absurd cc

pub runs_apart : (n : ℕ) (fs : List Frame) (rs : List Run) → runs_in n fs ≡ Some rs → are_apart None rs ≡ true
runs_apart n fs rs is = by (runs_behind None (vlans_with n fs)) is
  where
    by : (o : Option (List Run)) → apart_ones o ≡ Some rs → are_apart None rs ≡ true
    by None same = absurd cc
    by (Some found) same = ones_apart found rs same
