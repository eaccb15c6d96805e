-- Several numbers at once: what was found in front of a rest, and what is found in it.
use Rattle.std.proofs.Common.{◌≡◌, ℕ, ◌+◌, ◌-◌, ◌<◌, inl, inr, List, [], ◌∷◌, length, drop, map, refl, ap, sym, ◌∙◌}
use Rattle.std.proofs.Common.{subst, Bool, true, false, arith, Option, Some, None, Result, Ok, Err}
use Rattle.std.specs.Prelude.{◌==◌, if◌then◌else◌, IfOk, MatchResult}
use Rattle.std.specs.List.{AllByRecursion}
use Rattle.std.proofs.lemmas.List.{length-drop}
use Rattle.std.proofs.Math.Seq.{drop-drop}
use Rattle.nla_wire.specs.Frames.{Frame, number, missing, Begins, BadFront, BeginsWithNone}
use Rattle.nla_wire.specs.Gives.{without_place}
use Rattle.nla_wire.specs.Items.{Item, items}
use Rattle.nla_wire.specs.Reading.{front, step, ◌>>=◌}
use Rattle.nla_wire.specs.declared.error.Cause.{Cause}
use Rattle.nla_wire.specs.declared.error.DecodeError.{DecodeError}
use Rattle.nla_wire.proofs.Front.{first_comes, first_fails, items_ended}
use Rattle.nla_wire.proofs.Steps.{step_whole, bad_step}
use Rattle.link_view.specs.Views.{latest, HasNumber}
use Rattle.link_view.specs.Search.{found_at, cleared, kept, numbers, IsFound, AreFound}
use Rattle.link_view.specs.declared.sought.Sought.{Sought}

-- ** the frame in front

bad_front : (b : List ℕ) (c : Cause) → BadFront b c → front (step b) ≡ Err c
bad_front b c (inl bad) = ap front (bad_step b c bad)
bad_front b c (inr (none, short)) = ap (λ x. front (step x)) none ∙ ap (λ x. Err x) (sym short)

pub checked_is : (b : List ℕ) (r : Result Frame DecodeError)
    → MatchResult r (λ f. (rest : List ℕ) × Begins b f rest) (λ e. BadFront b e.cause × BeginsWithNone b)
    → without_place r ≡ front (step b)
checked_is b (Ok f) (rest, begins) = sym (ap front (step_whole b f rest begins))
checked_is b (Err e) (bad, none) = sym (bad_front b e.cause bad)

-- what is left of b from some place on
abbrev pub IsEnd : List ℕ → List ℕ → Type 0
IsEnd b rest = (at : ℕ) × (rest ≡ drop at b)

same_end : (b rest : List ℕ) (at : ℕ) → rest ≡ drop at b → 0 < length rest → drop (length b - length rest) b ≡ rest
same_end b rest at is some =
    let size : length rest ≡ length b - at = ap length is ∙ length-drop at b in
    let place : length b - length rest ≡ at = omega (arith, size, some) in
    ap (λ k. drop k b) place ∙ sym is

some_left : (left : ℕ) (r : Result (Option Frame) Cause) → 0 < left → (if left == 0 then Ok None else r) ≡ r
some_left left r some = grind arith

found_here : (b rest : List ℕ) (g : Frame) → IsEnd b rest → 0 < length rest → front (step rest) ≡ Ok g
    → found_at b (length rest) ≡ Ok (Some g)
found_here b rest g (at, is) some comes =
    some_left (length rest) (front (step (drop (length b - length rest) b)) >>= λ f. Ok (Some f)) some
    ∙ ap (λ x. front (step x) >>= λ f. Ok (Some f)) (same_end b rest at is some)
    ∙ ap (λ r. r >>= λ f. Ok (Some f)) comes

-- ** one number

-- what was found in front of the rest, and what is found in it, is what is found in all
abbrev pub Holds : List ℕ → List ℕ → Sought → Type 0
Holds b rest s =
    (f : Option Frame) × (found_at b s.left ≡ Ok f) × (latest s.number f (items rest) ≡ latest s.number None (items b))

same_number : (c : Bool) (left : ℕ) (s : Sought)
    → (if c then record { number = s.number; left = left } else s).number ≡ s.number
same_number true left s = refl
same_number false left s = refl

holds_next : (b next : List ℕ) (left : ℕ) (g : Frame) (s : Sought) (f : Option Frame) (c : Bool)
    → found_at b left ≡ Ok (Some g) → found_at b s.left ≡ Ok f
    → latest s.number (if c then Some g else f) (items next) ≡ latest s.number None (items b)
    → Holds b next (if c then record { number = s.number; left = left } else s)
holds_next b next left g s f true here was all = (Some g, here, all)
holds_next b next left g s f false here was all = (f, was, all)

-- ** each

abbrev pub AllHold : List ℕ → List ℕ → List Sought → List Sought → Type 0
AllHold b rest [] [] = Unit {0}
AllHold b rest [] (s ∷ new) = ⊥
AllHold b rest (o ∷ old) [] = ⊥
AllHold b rest (o ∷ old) (s ∷ new) = (s.number ≡ o.number) × Holds b rest s × AllHold b rest old new

begins : (b : List ℕ) (old : List Sought) → AllHold b b old (map cleared old)
begins b [] = tt
begins b (o ∷ old) = (refl, (None, refl, refl), begins b old)

pub begins_with : (b : List ℕ) (old new : List Sought) → new ≡ map cleared old → IsEnd b b × AllHold b b old new
begins_with b old new is = ((0, refl), subst (λ l. AllHold b b old l) (sym is) (begins b old))

each_next : (b rest next : List ℕ) (left : ℕ) (g : Frame) (old new : List Sought)
    → found_at b left ≡ Ok (Some g) → items rest ≡ Ok g ∷ items next → AllHold b rest old new
    → AllHold b next old (map (kept (number g) left) new)
each_next b rest next left g [] [] here more h = tt
each_next b rest next left g [] (s ∷ new) here more h = absurd h
each_next b rest next left g (o ∷ old) [] here more h = absurd h
each_next b rest next left g (o ∷ old) (s ∷ new) here more (same, (f, was, all), others) = (
  same_number (number g == s.number) left s ∙ same,
  holds_next b next left g s f (number g == s.number) here was (sym (ap (latest s.number f) more) ∙ all),
  each_next b rest next left g old new here more others,
)

pub goes_on : (b rest next : List ℕ) (g : Frame) (n len by : ℕ) (old new later : List Sought) → 0 < length rest
    → front (step rest) ≡ Ok g → n ≡ number g → len ≡ 4 + length g.payload → by ≡ len + missing len
    → next ≡ drop by rest → IsEnd b rest × AllHold b rest old new → later ≡ map (kept n (length rest)) new
    → IsEnd b next × AllHold b next old later
goes_on b rest next g n len by old new later some comes n_is len_is by_is next_is (end, h) later_is =
    let size : 4 + length g.payload + missing (length g.payload) ≡ len + missing len = omega (arith, len_is) in
    let after : drop (4 + length g.payload + missing (length g.payload)) rest ≡ next = ap (λ k. drop k rest)
    (size ∙ sym by_is) ∙ sym next_is in
    let more : items rest ≡ Ok g ∷ items next = first_comes rest g comes ∙ ap (λ r. Ok g ∷ items r) after in
    let place : next ≡ drop (end.0 + by) b = next_is ∙ ap (drop by) end.1 ∙ drop-drop by end.0 b in (
      (end.0 + by, place),
      subst (λ l. AllHold b next old l) (sym (later_is ∙ ap (λ k. map (kept k (length rest)) new) n_is))
          (each_next b rest next (length rest) g old new (found_here b rest g end some comes) more h),
    )

all_found : (b rest : List ℕ) (old new : List Sought) → items rest ≡ [] → AllHold b rest old new
    → (numbers new ≡ numbers old) × AllByRecursion (IsFound b) new
all_found b rest [] [] none h = (refl, tt)
all_found b rest [] (s ∷ new) none h = absurd h
all_found b rest (o ∷ old) [] none h = absurd h
all_found b rest (o ∷ old) (s ∷ new) none (same, (f, was, all), more) =
    let others = all_found b rest old new none more in (
      λ i. same i ∷ others.0 i,
      (was ∙ sym (ap (latest s.number f) none) ∙ all, others.1),
    )

pub ends : (b rest : List ℕ) (old new : List Sought) → length rest ≡ 0 → IsEnd b rest × AllHold b rest old new
    → AreFound b old new (Ok tt)
ends b rest old new none h = all_found b rest old new (items_ended rest none) h.1

all_stopped : (b rest : List ℕ) (c : Cause) (old new : List Sought) → items rest ≡ Err c ∷ items []
    → AllHold b rest old new → AllByRecursion (λ s. latest s.number None (items b) ≡ Err c) old
all_stopped b rest c [] [] fault h = tt
all_stopped b rest c [] (s ∷ new) fault h = absurd h
all_stopped b rest c (o ∷ old) [] fault h = absurd h
all_stopped b rest c (o ∷ old) (s ∷ new) fault (same, (f, was, all), more) = (
  subst (λ n. latest n None (items b) ≡ Err c) same (sym all ∙ ap (latest s.number f) fault),
  all_stopped b rest c old new fault more,
)

pub stops : (b rest : List ℕ) (e : DecodeError) (old new : List Sought) → 0 < length rest
    → front (step rest) ≡ Err e.cause → IsEnd b rest × AllHold b rest old new → AreFound b old new (Err e)
stops b rest e old new some fails h = all_stopped b rest e.cause old new (first_fails rest e.cause some fails) h.1

-- ** the number of what is found

number_of : (n : ℕ) (g : Frame) (f : Option Frame) → HasNumber n f → HasNumber n (if number g == n then Some g else f)
number_of n g f h = grind arith

latest_numbered : (n : ℕ) (f r : Option Frame) (xs : List Item) → HasNumber n f → latest n f xs ≡ Ok r → HasNumber n r
latest_numbered n f r [] h e = let same : f ≡ r = cc in subst (HasNumber n) same h
latest_numbered n f r ((Err c) ∷ xs) h e = absurd cc
latest_numbered n f r ((Ok g) ∷ xs) h e =
    latest_numbered n (if number g == n then Some g else f) r xs (number_of n g f h) e

pub found_numbered : (n : ℕ) (xs : List Item) (r : Result (Option Frame) DecodeError)
    → without_place r ≡ latest n None xs → IfOk r (λ f. HasNumber n f)
found_numbered n xs (Ok f) e = latest_numbered n None f xs tt (sym e)
found_numbered n xs (Err c) e = tt
