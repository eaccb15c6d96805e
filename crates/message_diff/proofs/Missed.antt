-- What a whole dump ends, by the entries of the map and by what is known.
use Rattle.std.proofs.Common.{◌≡◌, ℕ, Bool, true, false, not, List, [], ◌∷◌, refl, sym, ap, subst, ◌∙◌, arith}
use Rattle.std.specs.Prelude.{Option, None, Some, cond, is_some, ◌&&◌, ◌||◌, ◌==◌, nat_le}
use Rattle.std.specs.List.{filter, AllByRecursion, IsDistinct}
use Rattle.std.specs.declared.cmp.Ordering.TheVariants.{Less}
use Rattle.std.specs.List.Sorted.{IsStrictlySortedBy}
use Rattle.std.specs.Map.{keys_of, lookup}
use Rattle.std.specs.BTreeMap.{is_at}
use Rattle.std.specs.Ordering.{is_eq, eq_by_cmp, nat_cmp}
use Rattle.std.specs.Cmp.{IsEquivalence, tied_then, unsigned_tied}
use Rattle.std.proofs.lemmas.Bool.Decides.{nat_tests}
use Rattle.std.proofs.lemmas.Cmp.{eq_by_cmp_equiv}
use Rattle.std.proofs.lemmas.Map.{NonePasses}
use Rattle.std.proofs.lemmas.Map.Entries.{lookup_head, lookup_tail, none_past_head}
use Rattle.std.proofs.lemmas.Map.Keys.{IsDistinct-from_sorted, IsDistinct-tail}
use Rattle.message_diff.specs.declared.key.Key.{Key}
use Rattle.message_diff.specs.declared.store.Known.{Known}
use Rattle.message_diff.specs.declared.store.Dump.{Dump}
use Rattle.message_diff.specs.declared.store.Host.{Host}
use Rattle.message_diff.specs.Known.{Item, Seen, key_cmp, is_key, is_among, is_since, is_missed, is_missed_by, is_text}
use Rattle.message_diff.specs.Known.{reaches, in_family, ends, shot_of}
use Rattle.message_diff.specs.Told.{is_told}
use Rattle.message_diff.specs.Held.{seen_in, held, picture, is_left, left, begin_of, run_in}
use Rattle.message_diff.proofs.Pictures.{key_total, seen_taken}

pub laws : IsEquivalence (eq_by_cmp key_cmp)
laws = eq_by_cmp_equiv key_total

pub both : (x y : Bool) → (x && y) ≡ true → (x ≡ true) × (y ≡ true)
both true y h = (refl, h)
both false y h = absurd cc

same_number : (m n : ℕ) → is_eq (nat_cmp m n) ≡ true → m ≡ n
same_number m n h = let e : (m == n) ≡ true = sym (unsigned_tied m n) ∙ h in grind (arith, nat_tests)

key_at : ℕ → ℕ → Key
key_at family index = record { family = family; index = index }

pub same_key : (a b : Key) → is_key a b ≡ true → a ≡ b
unfolding key_at
same_key a b h =
    let ties = both (is_eq (nat_cmp a.family b.family)) (is_eq (nat_cmp a.index b.index))
    (tied_then (nat_cmp a.family b.family) (nat_cmp a.index b.index) ∙ h) in
    ap (λ (f : ℕ). key_at f a.index) (same_number a.family b.family ties.0)
    ∙ ap (λ (i : ℕ). key_at b.family i) (same_number a.index b.index ties.1)

-- ** an interface among those that pass a test
behind_none : (p : Bool) (q : Key) (e : Key × Known) (rest : List (Key × Known)) → is_key e.0 q ≡ false
    → is_among (keys_of (cond p (e ∷ rest) rest)) q ≡ is_among (keys_of rest) q
behind_none true q e rest h = ap (λ b. b || is_among (keys_of rest) q) h
behind_none false q e rest h = refl

at_head : (p : Bool) (q : Key) (e : Key × Known) (rest : List (Key × Known)) → is_key e.0 q ≡ true
    → is_among (keys_of rest) q ≡ false → is_among (keys_of (cond p (e ∷ rest) rest)) q ≡ p
at_head true q e rest h k = ap (λ b. b || is_among (keys_of rest) q) h
at_head false q e rest h k = k

none_among : (P : Key × Known → Bool) (q : Key) (es : List (Key × Known)) → NonePasses (is_at (key_cmp q)) es
    → is_among (keys_of (filter P es)) q ≡ false
none_among P q [] h = refl
none_among P q (e ∷ es) h = behind_none (P e) q e (filter P es) (laws.symm e.0 q ∙ h.0) ∙ none_among P q es h.1

passes : (Key → Bool) → ℕ → Key × Known → Bool
passes C begin e = not (nat_le begin e.1.at) && C e.0

none_both : (b : Bool) (o : Option Seen) → o ≡ None → o ≡ cond b None o
none_both true o h = h
none_both false o h = refl

-- what is taken out of what is known at an interface
Among : (Key → Bool) → ℕ → Key → List (Key × Known) → Option Known → Type 0
Among C begin q kept o =
    cond (is_among (keys_of kept) q) None (seen_in o) ≡ cond (not (is_since begin (seen_in o)) && C q) None (seen_in o)

among_head : (C : Key → Bool) (begin : ℕ) (q : Key) (e : Key × Known) (es : List (Key × Known))
    → IsDistinct (eq_by_cmp key_cmp) (keys_of (e ∷ es)) → is_key q e.0 ≡ true
    → Among C begin q (filter (passes C begin) (e ∷ es)) (lookup (is_at (key_cmp q)) (e ∷ es))
unfolding passes Among
among_head C begin q e es d h =
    let none = none_among (passes C begin) q es (none_past_head laws q e es d h) in
    let is = at_head (passes C begin e) q e (filter (passes C begin) es) (laws.symm e.0 q ∙ h) none in
    let same : C e.0 ≡ C q = ap C (sym (same_key q e.0 h)) in
    subst (λ (o : Option Known). Among C begin q (filter (passes C begin) (e ∷ es)) o)
    (sym (lookup_head (is_at (key_cmp q)) e es h))
    (ap (λ b. cond b None (seen_in (Some e.1))) (is ∙ ap (λ b. not (nat_le begin e.1.at) && b) same))

among_tail : (C : Key → Bool) (begin : ℕ) (q : Key) (e : Key × Known) (es : List (Key × Known))
    → is_key q e.0 ≡ false → Among C begin q (filter (passes C begin) es) (lookup (is_at (key_cmp q)) es)
    → Among C begin q (filter (passes C begin) (e ∷ es)) (lookup (is_at (key_cmp q)) (e ∷ es))
unfolding passes Among
among_tail C begin q e es h is =
    let past = behind_none (passes C begin e) q e (filter (passes C begin) es) (laws.symm e.0 q ∙ h) in
    subst (λ (o : Option Known). Among C begin q (filter (passes C begin) (e ∷ es)) o)
    (sym (lookup_tail (is_at (key_cmp q)) e es h))
    (ap (λ b. cond b None (seen_in (lookup (is_at (key_cmp q)) es))) past ∙ is)

among_either : (C : Key → Bool) (begin : ℕ) (q : Key) (e : Key × Known) (es : List (Key × Known)) (b : Bool)
    → is_key q e.0 ≡ b → IsDistinct (eq_by_cmp key_cmp) (keys_of (e ∷ es))
    → Among C begin q (filter (passes C begin) es) (lookup (is_at (key_cmp q)) es)
    → Among C begin q (filter (passes C begin) (e ∷ es)) (lookup (is_at (key_cmp q)) (e ∷ es))
among_either C begin q e es true h d is = among_head C begin q e es d h
among_either C begin q e es false h d is = among_tail C begin q e es h is

among : (C : Key → Bool) (begin : ℕ) (q : Key) (es : List (Key × Known)) → IsDistinct (eq_by_cmp key_cmp) (keys_of es)
    → Among C begin q (filter (passes C begin) es) (lookup (is_at (key_cmp q)) es)
unfolding Among
among C begin q [] d = none_both (C q) None refl
among C begin q (e ∷ es) d =
    among_either C begin q e es (is_key q e.0) refl d
    (among C begin q es (IsDistinct-tail (eq_by_cmp key_cmp) e.0 (keys_of es) d))

-- ** a dump that is the one that runs, and one that is not
chosen : (b : Bool) (n begin : ℕ) → cond b (Some n) None ≡ Some begin → (b ≡ true) × (n ≡ begin)
chosen true n begin h = (refl, cc)
chosen false n begin h = absurd cc

not_chosen : (b : Bool) (n : ℕ) → cond b (Some n) None ≡ None → b ≡ false
not_chosen true n h = absurd cc
not_chosen false n h = refl

pub runs : (d : Option Dump) (name : List ℕ) (begin : ℕ) → begin_of d name ≡ Some begin → (of : Key → Option Seen)
    → (family : ℕ) (q : Key) → is_missed_by of (run_in d) name family q ≡ is_missed of begin family q
runs None name begin h of family q = absurd cc
runs (Some d) name begin h of family q =
    let is = chosen (is_text d.name.items name) d.begin begin h in
    ap (λ b. b && is_missed of d.begin family q) is.0 ∙ ap (λ n. is_missed of n family q) is.1

pub runs_not : (d : Option Dump) (name : List ℕ) → begin_of d name ≡ None → (of : Key → Option Seen)
    → (family : ℕ) (q : Key) → is_missed_by of (run_in d) name family q ≡ false
runs_not None name h of family q = refl
runs_not (Some d) name h of family q =
    ap (λ b. b && is_missed of d.begin family q) (not_chosen (is_text d.name.items name) d.begin h)

pub missed_taken : (host : Host) (family begin : ℕ) → IsStrictlySortedBy key_cmp (keys_of host.known.entries)
    → (q : Key) → seen_in (cond (is_among (keys_of (left host family begin)) q) None (held host q))
    ≡ cond (is_missed (λ k. seen_in (held host k)) begin family q) None (seen_in (held host q))
unfolding passes Among
missed_taken host family begin sorted q =
    seen_taken (is_among (keys_of (left host family begin)) q) (held host q)
    ∙ among (λ k. reaches family k.family && not (is_since begin (seen_in (held host (in_family family k))))) begin q
    host.known.entries (IsDistinct-from_sorted key_cmp (keys_of host.known.entries) sorted)

-- ** in order
less_cond : (k : Key) (e : Key × Known) (rest : List (Key × Known)) (b : Bool) → key_cmp k e.0 ≡ Less
    → AllByRecursion (λ y. key_cmp k y ≡ Less) (keys_of rest)
    → AllByRecursion (λ y. key_cmp k y ≡ Less) (keys_of (cond b (e ∷ rest) rest))
less_cond k e rest true one all = (one, all)
less_cond k e rest false one all = all

less_filter : (k : Key) (P : Key × Known → Bool) (es : List (Key × Known))
    → AllByRecursion (λ y. key_cmp k y ≡ Less) (keys_of es)
    → AllByRecursion (λ y. key_cmp k y ≡ Less) (keys_of (filter P es))
less_filter k P [] h = tt
less_filter k P (e ∷ es) h = less_cond k e (filter P es) (P e) h.0 (less_filter k P es h.1)

sorted_cond : (e : Key × Known) (rest : List (Key × Known)) (b : Bool)
    → AllByRecursion (λ y. key_cmp e.0 y ≡ Less) (keys_of rest) → IsStrictlySortedBy key_cmp (keys_of rest)
    → IsStrictlySortedBy key_cmp (keys_of (cond b (e ∷ rest) rest))
unfolding IsStrictlySortedBy
sorted_cond e rest true less h = (less, h)
sorted_cond e rest false less h = h

sorted_filter : (P : Key × Known → Bool) (es : List (Key × Known)) → IsStrictlySortedBy key_cmp (keys_of es)
    → IsStrictlySortedBy key_cmp (keys_of (filter P es))
unfolding IsStrictlySortedBy
sorted_filter P [] h = tt
sorted_filter P (e ∷ es) h =
    sorted_cond e (filter P es) (P e) (less_filter e.0 P es h.0) (sorted_filter P es h.1)

pub left_sorted : (host : Host) (family begin : ℕ) → IsStrictlySortedBy key_cmp (keys_of host.known.entries)
    → IsStrictlySortedBy key_cmp (keys_of (left host family begin))
left_sorted host family begin sorted = sorted_filter (is_left host.known.entries family begin) host.known.entries sorted

-- ** those that are told
told_same : (a b : Bool) (o : Option Seen) → cond a None o ≡ cond b None o
    → (is_some (shot_of o) && a) ≡ (is_some (shot_of o) && b)
told_same a b None h = refl
told_same true true (Some s) h = refl
told_same false false (Some s) h = refl
told_same true false (Some s) h = absurd cc
told_same false true (Some s) h = absurd cc

pub left_each : (host : Host) (family begin : ℕ) (name : List ℕ)
    → IsStrictlySortedBy key_cmp (keys_of host.known.entries) → begin_of host.dump name ≡ Some begin → (q : Key)
    → (is_told (picture host) (Item.finished name family) q && is_among (keys_of (left host family begin)) q)
    ≡ (is_told (picture host) (Item.finished name family) q && ends (picture host) (Item.finished name family) q)
left_each host family begin name sorted is q =
    let of : Key → Option Seen = λ k. seen_in (held host k) in
    told_same (is_among (keys_of (left host family begin)) q) (is_missed of begin family q) (of q)
    (sym (seen_taken (is_among (keys_of (left host family begin)) q) (held host q))
    ∙ missed_taken host family begin sorted q)
    ∙ ap (λ b. is_told (picture host) (Item.finished name family) q && b)
    (sym (runs host.dump name begin is of family q))
