-- What is known of one host, and of the others.
use Rattle.std.proofs.Common.{◌≡◌, ◌++◌, ℕ, true, false, List, sym, ap, subst, ◌∙◌}
use Rattle.std.specs.Ordering.{eq_by_cmp, is_eq, nat_cmp}
use Rattle.std.specs.Cmp.Lexicographic.{slice_cmp, nat_list_cmp_total, nat_list_eq_equiv}
use Rattle.std.specs.BTreeMap.{is_at}
use Rattle.std.specs.Map.{lookup, KeepsOthers}
use Rattle.std.proofs.lemmas.Cmp.{eq_by_cmp_equiv}
use Rattle.std.proofs.lemmas.Map.Text.{is_eq-slice_cmp}
use Rattle.message_diff.specs.declared.reading.Said.{Said}
use Rattle.message_diff.specs.declared.reading.Said.TheVariants as Saids
use Rattle.message_diff.specs.declared.telling.Telling.{Telling}
use Rattle.message_diff.specs.declared.watch.Watch.{Watch}
use Rattle.message_diff.specs.Known.{Picture, is_text}
use Rattle.message_diff.specs.Held.{Applies}
use Rattle.message_diff.specs.Watched.{AddsFor, Goes, GoesFor, IsHeld, TakesSaid, host_in, host_of, known_in, known_of}

apart : (a b key : List ℕ) → is_text a b ≡ false → is_eq (slice_cmp nat_cmp a key) ≡ true
    → is_eq (slice_cmp nat_cmp b key) ≡ false
apart a b key other is =
    is_eq-slice_cmp b key ∙ nat_list_eq_equiv.symm b key
    ∙ sym (nat_list_eq_equiv.congr a key b (sym (is_eq-slice_cmp a key) ∙ is)) ∙ other

pub others_stay : {K X : Type 0} (items : K → List ℕ) (a b : List ℕ) (old new : List (K × X))
    → KeepsOthers (eq_by_cmp (λ x y. slice_cmp nat_cmp (items x) (items y)))
    (is_at (λ k. slice_cmp nat_cmp a (items k))) old new
    → is_text a b ≡ false
    → lookup (is_at (λ k. slice_cmp nat_cmp b (items k))) new ≡ lookup (is_at (λ k. slice_cmp nat_cmp b (items k))) old
unfolding KeepsOthers
others_stay items a b old new keeps other =
    keeps (is_at (λ k. slice_cmp nat_cmp b (items k)))
    (λ x y. (eq_by_cmp_equiv nat_list_cmp_total).congr b (items x) (items y)) (λ k. apart a b (items k) other)

-- what is said of a host is taken for it alone
goes : (front : List ℕ) (told : Telling) (at : ℕ) (said : Said) (p q : Picture) (before now : List ℕ)
    → Applies front told at said p q before now
    → (more : List ℕ) × Goes front told at said p q more × (now ≡ before ++ more)
goes front told at said p q before now h = (h.1.0, (h.0, h.1.1), h.1.2)

pub taken_for : (front : List ℕ) (told : Telling) (at : ℕ) (said : Said) (old new : Watch) (before now name : List ℕ)
    (p q : Picture) → name ≡ host_of front → known_in old name ≡ p → known_in new name ≡ q
    → IsHeld (host_in new name)
    → ((other : List ℕ) → is_text name other ≡ false → host_in new other ≡ host_in old other)
    → Applies front told at said p q before now → AddsFor front told at said old new before now
taken_for front told at said old new before now name p q is was known held others own =
    let own_at = goes front told at said (known_in old name) (known_in new name) before now
    (subst (λ (x : Picture). Applies front told at said x (known_in new name) before now) (sym was)
    (subst (λ (x : Picture). Applies front told at said p x before now) (sym known) own)) in (
      own_at.0,
      record {
        own =
            subst (λ (n : List ℕ). Goes front told at said (known_in old n) (known_in new n) own_at.0) is own_at.1;
        held = subst (λ (n : List ℕ). IsHeld (host_in new n)) is held;
        others = λ other apart. ap known_of (others other (ap (λ (n : List ℕ). is_text n other) is ∙ apart));
      },
      own_at.2,
    )

-- only the hosts count of what was before
known_same : (a b : Watch) (name : List ℕ) → a.hosts ≡ b.hosts → known_in a name ≡ known_in b name
known_same a b name same =
    ap (λ hosts. known_of (lookup (is_at (λ k. slice_cmp nat_cmp name k.items)) hosts.entries)) same

goes_from : (front : List ℕ) (told : Telling) (at : ℕ) (said : Said) (a b new : Watch) (more : List ℕ)
    → a.hosts ≡ b.hosts → GoesFor front told at said a new more → GoesFor front told at said b new more
goes_from front told at said a b new more same h = record {
  own = subst (λ (p : Picture). Goes front told at said p (known_in new (host_of front)) more)
      (known_same a b (host_of front) same) h.own;
  held = h.held;
  others = λ name apart. h.others name apart ∙ known_same a b name same;
}

takes_from : (front : List ℕ) (told : Telling) (at : ℕ) (said : Said) (a b new : Watch) (more : List ℕ)
    → a.hosts ≡ b.hosts → TakesSaid front told at said a new more → TakesSaid front told at said b new more
takes_from front told at Saids.Lost a b new more same h = (h.0 ∙ same, h.1)
takes_from front told at Saids.Nothing a b new more same h = (h.0 ∙ same, h.1)
takes_from front told at (Saids.Is key text) a b new more same h =
    goes_from front told at (Saids.Is key text) a b new more same h
takes_from front told at (Saids.Refused key) a b new more same h =
    goes_from front told at (Saids.Refused key) a b new more same h
takes_from front told at (Saids.Went key gone) a b new more same h =
    goes_from front told at (Saids.Went key gone) a b new more same h
takes_from front told at (Saids.Begin dump) a b new more same h =
    goes_from front told at (Saids.Begin dump) a b new more same h
takes_from front told at (Saids.Done dump family) a b new more same h =
    goes_from front told at (Saids.Done dump family) a b new more same h
takes_from front told at Saids.Blind a b new more same h = goes_from front told at Saids.Blind a b new more same h

pub takes_at : (front line_front : List ℕ) (told : Telling) (at place : ℕ) (said : Said) (a b new : Watch)
    (more : List ℕ) → front ≡ line_front → at ≡ place → a.hosts ≡ b.hosts
    → TakesSaid front told at said a new more → TakesSaid line_front told place said b new more
takes_at front line_front told at place said a b new more fronts places hosts takes =
    subst (λ (f : List ℕ). TakesSaid f told place said b new more) fronts
    (subst (λ (n : ℕ). TakesSaid front told n said b new more) places
    (takes_from front told at said a b new more hosts takes))
