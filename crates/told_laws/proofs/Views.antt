-- What is known of one interface that is no part of another one, where only changes are told.
use Rattle.std.proofs.Common.{◌≡◌, ◌++◌, ℕ, suc, Bool, true, false, List, [], ◌∷◌, refl, sym, ap, ◌∙◌, subst, arith}
use Rattle.std.specs.Prelude.{Option, None, Some, cond, map, not, nat_le, ◌&&◌, ◌||◌, ◌==◌}
use Rattle.std.proofs.lemmas.Bool.{eqb-true}
use Rattle.std.proofs.lemmas.Bool.Decides.{nat_tests}
use Rattle.std.proofs.lemmas.List.{append-nil}
use Rattle.message_diff.specs.declared.key.Key.{Key}
use Rattle.message_diff.specs.declared.snapshot.Compared.{Compared}
use Rattle.message_diff.specs.Announced.{is_another, kind_in, kind_or}
use Rattle.message_diff.specs.Shots.{Shot}
use Rattle.message_diff.specs.Known.{Item, Picture, Seen, after, in_family, is_among, is_key, is_missed_by, is_part}
use Rattle.message_diff.specs.Known.{is_run, is_since, is_text, kind_of, of_after, parts, reaches, run_after}
use Rattle.message_diff.specs.Known.{shot_of, whole_after}
use Rattle.message_diff.specs.Told.{is_told_gone, kept_of, own_shot}
use Rattle.message_diff.proofs.Missed.{laws, same_key}
use Rattle.told_laws.specs.Entries.{Entry, of_key}
use Rattle.told_laws.specs.Fewer.{changes_by}
use Rattle.told_laws.specs.TwoWays.{known_behind, unworded}
use Rattle.told_laws.proofs.Entries.{entries_at, gone_entry, new_entry}

-- ** what is known

-- of an interface, words aside
pub record Last : Type 0 where
  pub at : ℕ
  pub shot : Option Shot
  pub kind : Option (List ℕ)

abbrev pub last_in : Option Seen → Option Last
last_in None = None
last_in (Some seen) = Some (record { at = seen.at; shot = seen.shot; kind = seen.kind })

abbrev pub last_shot : Option Last → Option Shot
last_shot None = None
last_shot (Some last) = last.shot

abbrev pub last_kind : Option Last → Option (List ℕ)
last_kind None = None
last_kind (Some last) = last.kind

abbrev pub last_since : ℕ → Option Last → Bool
last_since at None = false
last_since at (Some last) = nat_le at last.at

-- of it, and of the dump that runs
pub record View : Type 0 where
  pub of : Option Last
  pub run : Option (List ℕ × ℕ)
  pub whole : Bool

abbrev pub view : Key → Picture → View
view q p = record { of = last_in (p.of q); run = p.run; whole = p.whole q.family }

-- ** what a line does

-- it had no line since the dump began
abbrev pub missing : Option (List ℕ × ℕ) → Option Last → Bool
missing None o = true
missing (Some r) o = not (last_since r.1 o)

-- the end of a dump of its family
abbrev pub closes : Key → Option (List ℕ × ℕ) → List ℕ → ℕ → Bool
closes q r dump f = is_run r dump && f == q.family

abbrev pub is_gone : Key → Option Last → Bool
is_gone q None = q.family == 0
is_gone q (Some last) = true

abbrev pub own_last : Key → Option Shot → Option Last → Option Shot
own_last q None o = last_shot o
own_last q (Some shot) o = cond (is_gone q o) (Some shot) None

abbrev pub of_step : Key → ℕ → Item → View → Option Last
of_step q at (Item.is key shot words) v =
    cond (is_key key q)
    (Some (record { at = at; shot = Some shot; kind = kind_or (kind_in shot.text) (last_kind v.of) })) v.of
of_step q at (Item.refused key) v =
    cond (is_key key q) (Some (record { at = at; shot = last_shot v.of; kind = last_kind v.of })) v.of
of_step q at (Item.went key shot) v = cond (is_key key q) None v.of
of_step q at (Item.finished dump f) v = cond (closes q v.run dump f && missing v.run v.of) None v.of
of_step q at x v = v.of

abbrev pub run_step : ℕ → Item → View → Option (List ℕ × ℕ)
run_step at (Item.started dump) v = Some (dump, at)
run_step at Item.blind v = None
run_step at x v = v.run

abbrev pub whole_step : Key → Item → View → Bool
whole_step q (Item.finished dump f) v = v.whole || closes q v.run dump f
whole_step q x v = v.whole

abbrev pub step : Key → ℕ → Item → View → View
step q at x v = record { of = of_step q at x v; run = run_step at x v; whole = whole_step q x v }

-- ** what a line tells
abbrev pub message_entries : Key → Shot → Option Last → Bool → List Entry
message_entries q shot o whole =
    cond (is_another (last_kind o) shot.text) (gone_entry q (last_shot o)) []
    ++ new_entry (is_another (last_kind o) shot.text || whole)
    (kept_of (is_another (last_kind o) shot.text) (last_shot o)) q shot

abbrev pub step_entries : Key → Item → View → List Entry
step_entries q (Item.is key shot words) v = cond (is_key key q) (message_entries q shot v.of v.whole) []
step_entries q (Item.went key shot) v = cond (is_key key q) (gone_entry q (own_last q shot v.of)) []
step_entries q (Item.finished dump f) v =
    cond (closes q v.run dump f && missing v.run v.of) (gone_entry q (last_shot v.of)) []
step_entries q x v = []

-- ** that is so

one_shot : (o : Option Seen) → shot_of o ≡ last_shot (last_in o)
one_shot None = refl
one_shot (Some seen) = refl

one_kind : (o : Option Seen) → kind_of o ≡ last_kind (last_in o)
one_kind None = refl
one_kind (Some seen) = refl

one_since : (at : ℕ) (o : Option Seen) → is_since at o ≡ last_since at (last_in o)
one_since at None = refl
one_since at (Some seen) = refl

one_gone : (q : Key) (o : Option Seen) → is_told_gone q o ≡ is_gone q (last_in o)
one_gone q None = refl
one_gone q (Some seen) = refl

one_own : (q : Key) (shot : Option Shot) (o : Option Seen) → own_shot q shot o ≡ own_last q shot (last_in o)
one_own q None o = one_shot o
one_own q (Some shot) o = ap (λ t. cond t (Some shot) None) (one_gone q o)

last_if : (t : Bool) (a b : Option Seen) → last_in (cond t a b) ≡ cond t (last_in a) (last_in b)
last_if true a b = refl
last_if false a b = refl

-- an interface that is no part of another one ends with none
no_key : (f : ℕ) (key q : Key) (t : Bool) → is_part f ≡ true → is_part q.family ≡ false
    → is_key (in_family f key) q ≡ t → t ≡ false
no_key f key q true part none h =
    let same : in_family f key ≡ q = same_key (in_family f key) q h in
    absurd (let e : is_part q.family ≡ true = ap (λ (k : Key). is_part k.family) (sym same) ∙ part in cc)
no_key f key q false part none h = refl

no_part : (key q : Key) (t : Bool) → is_part q.family ≡ false
    → is_among (cond t (in_family 7 key ∷ in_family 10 key ∷ []) []) q ≡ false
no_part key q true none =
    ap (λ u. u || (is_key (in_family 10 key) q || false)) (no_key 7 key q (is_key (in_family 7 key) q) refl none refl)
    ∙ ap (λ u. u || false) (no_key 10 key q (is_key (in_family 10 key) q) refl none refl)
no_part key q false none = refl

eq_back : (a b : ℕ) → (a == b) ≡ (b == a)
eq_back a b = grind (arith, nat_tests)

and_none : (a : Bool) → (a && false) ≡ false
and_none true = refl
and_none false = refl

and_true : (a : Bool) → (a && true) ≡ a
and_true true = refl
and_true false = refl

-- of what a dump has no line, where it is of this family and where it is not
this_family : (a s : Bool) → (a && (not s && (true && not s))) ≡ ((a && true) && not s)
this_family true true = refl
this_family true false = refl
this_family false s = refl

other_family : (a s t : Bool) → (a && (not s && (false && t))) ≡ ((a && false) && not s)
other_family true true t = refl
other_family true false t = refl
other_family false s t = refl

module _ (by : Compared) (q : Key) (part : is_part q.family ≡ false) (p : Picture) where
  reach : (f : ℕ) (t : Bool) → (f == q.family) ≡ t → reaches f q.family ≡ t
  reach f t h =
      ap (λ u. u || (f == 0 && is_part q.family)) (eq_back q.family f ∙ h)
      ∙ ap (λ u. t || (f == 0 && u)) part
      ∙ ap (λ u. t || u) (and_none (f == 0))
      ∙ or_none t
    where
      or_none : (b : Bool) → (b || false) ≡ b
      or_none true = refl
      or_none false = refl

  missed_by : (f : ℕ) (a : Bool) (r : List ℕ × ℕ) (t : Bool) → (f == q.family) ≡ t
      → (a && (not (is_since r.1 (p.of q)) && (reaches f q.family && not (is_since r.1 (p.of (in_family f q))))))
      ≡ ((a && t) && not (last_since r.1 (last_in (p.of q))))
  missed_by f a r true h =
      let same : in_family f q ≡ q = ap (λ g. in_family g q) (eqb-true f q.family h) in
      ap (λ u. a && (not (is_since r.1 (p.of q)) && (u && not (is_since r.1 (p.of (in_family f q)))))) (reach f true h)
      ∙ ap (λ k. a && (not (is_since r.1 (p.of q)) && (true && not (is_since r.1 (p.of k))))) same
      ∙ this_family a (is_since r.1 (p.of q))
      ∙ ap (λ s. (a && true) && not s) (one_since r.1 (p.of q))
  missed_by f a r false h =
      ap (λ u. a && (not (is_since r.1 (p.of q)) && (u && not (is_since r.1 (p.of (in_family f q)))))) (reach f false h)
      ∙ other_family a (is_since r.1 (p.of q)) (not (is_since r.1 (p.of (in_family f q))))
      ∙ ap (λ s. (a && false) && not s) (one_since r.1 (p.of q))

  missed_is : (dump : List ℕ) (f : ℕ) (r : Option (List ℕ × ℕ))
      → is_missed_by p.of r dump f q ≡ (closes q r dump f && missing r (last_in (p.of q)))
  missed_is dump f None = refl
  missed_is dump f (Some r) = missed_by f (is_text r.0 dump) r (f == q.family) refl

  -- ** what is known behind it
  none_part : (key : Key) → is_among (parts key) q ≡ false
  none_part key = no_part key q (key.family == 0) part

  is_of : (at : ℕ) (key : Key) (shot : Shot) (words : Option (List ℕ)) (a t : Bool) → is_key key q ≡ t
      → last_in (cond t
      (Some (record {
        at = at;
        shot = Some shot;
        kind = kind_or (kind_in shot.text) (kind_of (p.of key));
        words = words;
      }))
      (cond (a && (t || is_among (parts key) q)) None (p.of q)))
      ≡ cond t
      (Some (record { at = at; shot = Some shot; kind = kind_or (kind_in shot.text) (last_kind (last_in (p.of q))) }))
      (last_in (p.of q))
  is_of at key shot words a true h =
      ap (λ k. Some (record { at = at; shot = Some shot; kind = kind_or (kind_in shot.text) k }))
      (one_kind (p.of key) ∙ ap (λ k. last_kind (last_in (p.of k))) (same_key key q h))
  is_of at key shot words a false h =
      ap (λ u. last_in (cond u None (p.of q))) (ap (λ b. a && b) (none_part key) ∙ and_none a)

  refused_of : (at : ℕ) (key : Key) (words : Option (List ℕ)) (t : Bool) → is_key key q ≡ t
      → last_in (cond t
      (Some (record { at = at; shot = shot_of (p.of key); kind = kind_of (p.of key); words = words })) (p.of q))
      ≡ cond t (Some (record { at = at; shot = last_shot (last_in (p.of q)); kind = last_kind (last_in (p.of q)) }))
      (last_in (p.of q))
  refused_of at key words true h =
      ap (λ s. Some (record { at = at; shot = s; kind = kind_of (p.of key) })) (one_shot (p.of key))
      ∙ ap (λ k. Some (record { at = at; shot = last_shot (last_in (p.of key)); kind = k })) (one_kind (p.of key))
      ∙ ap (λ k. Some (record { at = at; shot = last_shot (last_in (p.of k)); kind = last_kind (last_in (p.of k)) }))
      (same_key key q h)
  refused_of at key words false h = refl

  went_of : (key : Key) (t : Bool)
      → last_in (cond (t || is_among (parts key) q) None (p.of q)) ≡ cond t None (last_in (p.of q))
  went_of key true = refl
  went_of key false = ap (λ u. last_in (cond u None (p.of q))) (none_part key)

  of_is : (at : ℕ) (x : Item) → last_in (of_after p at x q) ≡ of_step q at x (view q p)
  of_is at (Item.is key shot words) =
      is_of at key shot words (is_another (kind_of (p.of key)) shot.text) (is_key key q) refl
  of_is at (Item.refused key) = refused_of at key _ (is_key key q) refl
  of_is at (Item.went key shot) = went_of key (is_key key q)
  of_is at (Item.started dump) = refl
  of_is at (Item.finished dump f) =
      ap (λ t. last_in (cond t None (p.of q))) (missed_is dump f p.run)
      ∙ last_if (closes q p.run dump f && missing p.run (last_in (p.of q))) None (p.of q)
  of_is at Item.blind = refl
  of_is at Item.nothing = refl

  view_of : (at : ℕ) (x : Item) → run_after p at x ≡ run_step at x (view q p)
      → whole_after p x q.family ≡ whole_step q x (view q p) → view q (after p (at, x)) ≡ step q at x (view q p)
  view_of at x run whole =
      ap (λ o. record { of = o; run = run_after p at x; whole = whole_after p x q.family }) (of_is at x)
      ∙ ap (λ r. record { of = of_step q at x (view q p); run = r; whole = whole_after p x q.family }) run
      ∙ ap (λ w. record { of = of_step q at x (view q p); run = run_step at x (view q p); whole = w }) whole

  pub view_step : (at : ℕ) (x : Item) → view q (after p (at, x)) ≡ step q at x (view q p)
  view_step at (Item.is key shot words) = view_of at (Item.is key shot words) refl refl
  view_step at (Item.refused key) = view_of at (Item.refused key) refl refl
  view_step at (Item.went key shot) = view_of at (Item.went key shot) refl refl
  view_step at (Item.started dump) = view_of at (Item.started dump) refl refl
  view_step at (Item.finished dump f) = view_of at (Item.finished dump f) refl refl
  view_step at Item.blind = view_of at Item.blind refl refl
  view_step at Item.nothing = view_of at Item.nothing refl refl

  -- ** what it tells
  own_if : (key : Key) (e : Entry) (t : Bool) → t ≡ true → cond t (e ∷ []) [] ≡ e ∷ []
  own_if key e t h = ap (λ u. cond u (e ∷ []) []) h

  own_new : (is_told : Bool) (s : Option Shot) (key : Key) (shot : Shot)
      → of_key key (new_entry is_told s key shot) ≡ new_entry is_told s key shot
  own_new true None key shot = own_if key (Entry.came key shot) (is_key key key) (laws.refl key)
  own_new false None key shot = refl
  own_new is_told (Some last) key shot = by_same (is_text last.text shot.text)
    where
      by_same : (same : Bool) → of_key key (cond same [] (Entry.changed key last shot ∷ []))
          ≡ cond same [] (Entry.changed key last shot ∷ [])
      by_same true = refl
      by_same false = own_if key (Entry.changed key last shot) (is_key key key) (laws.refl key)

  abbrev said : Bool → Option Shot → Key → Shot → Bool → List Entry
  said a s key shot whole = cond a (gone_entry key s) [] ++ new_entry (a || whole) (kept_of a s) key shot

  is_own : (key : Key) (shot : Shot)
      → cond (is_another (kind_of (p.of key)) shot.text && true) (gone_entry key (shot_of (p.of key))) []
      ++ of_key key
      (new_entry (is_another (kind_of (p.of key)) shot.text || p.whole key.family)
      (kept_of (is_another (kind_of (p.of key)) shot.text) (shot_of (p.of key))) key shot)
      ≡ message_entries key shot (last_in (p.of key)) (p.whole key.family)
  is_own key shot =
      let a : Bool = is_another (kind_of (p.of key)) shot.text in
      ap (λ l. cond (a && true) (gone_entry key (shot_of (p.of key))) [] ++ l)
      (own_new (a || p.whole key.family) (kept_of a (shot_of (p.of key))) key shot)
      ∙ ap (λ t. cond t (gone_entry key (shot_of (p.of key))) []
      ++ new_entry (a || p.whole key.family) (kept_of a (shot_of (p.of key))) key shot) (and_true a)
      ∙ ap (λ s. said a s key shot (p.whole key.family)) (one_shot (p.of key))
      ∙ ap (λ k. said (is_another k shot.text) (last_shot (last_in (p.of key))) key shot (p.whole key.family))
      (one_kind (p.of key))

  no_new : (is_told : Bool) (s : Option Shot) (key : Key) (shot : Shot) → is_key key q ≡ false
      → of_key q (new_entry is_told s key shot) ≡ []
  no_new true None key shot h = ap (λ t. cond t (Entry.came key shot ∷ []) []) h
  no_new false None key shot h = refl
  no_new is_told (Some last) key shot h = by_same (is_text last.text shot.text)
    where
      by_same : (same : Bool) → of_key q (cond same [] (Entry.changed key last shot ∷ [])) ≡ []
      by_same true = refl
      by_same false = ap (λ t. cond t (Entry.changed key last shot ∷ []) []) h

  is_entries : (key : Key) (shot : Shot) (t : Bool) → is_key key q ≡ t
      → cond (is_another (kind_of (p.of key)) shot.text && (t || is_among (parts key) q))
      (gone_entry q (shot_of (p.of q))) []
      ++ of_key q
      (new_entry (is_another (kind_of (p.of key)) shot.text || p.whole key.family)
      (kept_of (is_another (kind_of (p.of key)) shot.text) (shot_of (p.of key))) key shot)
      ≡ cond t (message_entries q shot (last_in (p.of q)) (p.whole q.family)) []
  is_entries key shot true h =
      subst (λ k. cond (is_another (kind_of (p.of key)) shot.text && true) (gone_entry k (shot_of (p.of k))) []
      ++ of_key k
      (new_entry (is_another (kind_of (p.of key)) shot.text || p.whole key.family)
      (kept_of (is_another (kind_of (p.of key)) shot.text) (shot_of (p.of key))) key shot)
      ≡ message_entries k shot (last_in (p.of k)) (p.whole k.family)) (same_key key q h) (is_own key shot)
  is_entries key shot false h =
      let a : Bool = is_another (kind_of (p.of key)) shot.text in
      ap (λ l. cond (a && is_among (parts key) q) (gone_entry q (shot_of (p.of q))) [] ++ l)
      (no_new (a || p.whole key.family) (kept_of a (shot_of (p.of key))) key shot h)
      ∙ ap (λ t. cond t (gone_entry q (shot_of (p.of q))) [] ++ [])
      (ap (λ b. a && b) (none_part key) ∙ and_none a)

  went_entries : (key : Key) (shot : Option Shot) (t : Bool) → is_key key q ≡ t
      → cond (t || is_among (parts key) q) (gone_entry q (cond t (own_shot key shot (p.of key)) (shot_of (p.of q)))) []
      ++ []
      ≡ cond t (gone_entry q (own_last q shot (last_in (p.of q)))) []
  went_entries key shot true h =
      append-nil (gone_entry q (own_shot key shot (p.of key)))
      ∙ ap (λ k. gone_entry q (own_shot k shot (p.of k))) (same_key key q h)
      ∙ ap (λ s. gone_entry q s) (one_own q shot (p.of q))
  went_entries key shot false h =
      ap (λ t. cond t (gone_entry q (shot_of (p.of q))) [] ++ []) (none_part key)

  pub entries_step : (x : Item) → entries_at (changes_by by) p x q ≡ step_entries q x (view q p)
  entries_step (Item.is key shot words) = is_entries key shot (is_key key q) refl
  entries_step (Item.refused key) = refl
  entries_step (Item.went key shot) = went_entries key shot (is_key key q) refl
  entries_step (Item.started dump) = refl
  entries_step (Item.finished dump f) =
      append-nil (cond (is_missed_by p.of p.run dump f q) (gone_entry q (shot_of (p.of q))) [])
      ∙ ap (λ t. cond t (gone_entry q (shot_of (p.of q))) []) (missed_is dump f p.run)
      ∙ ap (λ s. cond (closes q p.run dump f && missing p.run (last_in (p.of q))) (gone_entry q s) [])
      (one_shot (p.of q))
  entries_step Item.blind = refl
  entries_step Item.nothing = refl

-- ** lines

abbrev pub walk : Key → ℕ → View → List Item → View
walk q at v [] = v
walk q at v (x ∷ xs) = walk q (suc at) (step q (suc at) x v) xs

abbrev pub walk_entries : Key → ℕ → View → List Item → List Entry
walk_entries q at v [] = []
walk_entries q at v (x ∷ xs) = step_entries q x v ++ walk_entries q (suc at) (step q (suc at) x v) xs

abbrev pub entries_of : Compared → ℕ → Picture → List Item → Key → List Entry
entries_of by at p [] q = []
entries_of by at p (x ∷ xs) q =
    entries_at (changes_by by) p x q ++ entries_of by (suc at) (after p (suc at, x)) xs q

module _ (by : Compared) (q : Key) (part : is_part q.family ≡ false) where
  pub view_walk : (at : ℕ) (p : Picture) (xs : List Item)
      → view q (known_behind at p xs) ≡ walk q at (view q p) xs
  view_walk at p [] = refl
  view_walk at p (x ∷ xs) =
      view_walk (suc at) (after p (suc at, x)) xs
      ∙ ap (λ v. walk q (suc at) v xs) (view_step by q part p (suc at) x)

  pub entries_walk : (at : ℕ) (p : Picture) (xs : List Item)
      → entries_of by at p xs q ≡ walk_entries q at (view q p) xs
  entries_walk at p [] = refl
  entries_walk at p (x ∷ xs) =
      ap (λ l. l ++ entries_of by (suc at) (after p (suc at, x)) xs q) (entries_step by q part p x)
      ∙ ap (λ l. step_entries q x (view q p) ++ l)
      (entries_walk (suc at) (after p (suc at, x)) xs
      ∙ ap (λ v. walk_entries q (suc at) v xs) (view_step by q part p (suc at) x))

-- words aside
step_unworded : (q : Key) (at : ℕ) (x : Item) (v : View) → step q at (unworded x) v ≡ step q at x v
step_unworded q at (Item.is key shot words) v = refl
step_unworded q at (Item.refused key) v = refl
step_unworded q at (Item.went key shot) v = refl
step_unworded q at (Item.started dump) v = refl
step_unworded q at (Item.finished dump f) v = refl
step_unworded q at Item.blind v = refl
step_unworded q at Item.nothing v = refl

told_unworded : (q : Key) (x : Item) (v : View) → step_entries q (unworded x) v ≡ step_entries q x v
told_unworded q (Item.is key shot words) v = refl
told_unworded q (Item.refused key) v = refl
told_unworded q (Item.went key shot) v = refl
told_unworded q (Item.started dump) v = refl
told_unworded q (Item.finished dump f) v = refl
told_unworded q Item.blind v = refl
told_unworded q Item.nothing v = refl

pub walk_unworded : (q : Key) (at : ℕ) (v : View) (xs : List Item)
    → walk_entries q at v (map unworded xs) ≡ walk_entries q at v xs
walk_unworded q at v [] = refl
walk_unworded q at v (x ∷ xs) =
    ap (λ l. l ++ walk_entries q (suc at) (step q (suc at) (unworded x) v) (map unworded xs)) (told_unworded q x v)
    ∙ ap (λ w. step_entries q x v ++ walk_entries q (suc at) w (map unworded xs)) (step_unworded q (suc at) x v)
    ∙ ap (λ l. step_entries q x v ++ l) (walk_unworded q (suc at) (step q (suc at) x v) xs)
