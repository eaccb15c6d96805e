-- What a dump should have had and did not, family by family.
use Rattle.std.proofs.Common.{◌≡◌, ◌⊎◌, ◌<◌, ◌≤◌, ℕ, zero, suc, Bool, true, false, not, List, [], ◌∷◌, ◌++◌, refl}
use Rattle.std.proofs.Common.{sym, ap, ◌∙◌, append_assoc, subst, arith, inl, inr}
use Rattle.std.proofs.lemmas.List.{map-append}
use Rattle.std.specs.Prelude.{cond, nat_le, nat_lt, ◌&&◌, ◌||◌, ◌==◌}
use Rattle.std.specs.List.{filter, AllByRecursion}
use Rattle.std.specs.List.Sorted.{IsStrictlySortedBy}
use Rattle.std.specs.Map.{keys_of}
use Rattle.std.specs.BTreeMap.Range.{entries_between, is_past_end, range_contains}
use Rattle.std.specs.declared.cmp.Ordering.{Ordering}
use Rattle.std.specs.declared.cmp.Ordering.TheVariants.{Less, Equal, Greater}
use Rattle.std.specs.declared.ops.Bound.TheVariants.{Excluded, Unbounded}
use Rattle.std.specs.Ordering.{is_le, nat_cmp, ordering_then}
use Rattle.std.proofs.lemmas.Bool.Decides.{nat_tests}
use Rattle.message_diff.specs.declared.key.Key.{Key}
use Rattle.message_diff.specs.declared.store.Known.{Known}
use Rattle.message_diff.specs.declared.store.Host.{Host}
use Rattle.message_diff.specs.Known.{is_part, key_cmp, reaches}
use Rattle.message_diff.specs.Held.{end_of, is_left, left, left_in, start_of}
use Rattle.message_diff.proofs.Missed.{both}

-- ** the interfaces of one family

abbrev first : ℕ → Key
first family = record { family = family; index = 0 }

zero_le : (i : ℕ) → is_le (nat_cmp 0 i) ≡ true
zero_le zero = refl
zero_le (suc i) =
    let less : nat_lt 0 (suc i) ≡ true = grind (arith, nat_tests) in
    ap (λ b. is_le (cond b Less (cond (0 == suc i) Equal Greater))) less

le_by : (l e : Bool) (o : Ordering) → is_le o ≡ true
    → is_le (ordering_then (cond l Less (cond e Equal Greater)) o) ≡ (l || e)
le_by true e o h = refl
le_by false true o h = h
le_by false false o h = refl

le_or : (m n : ℕ) → (nat_lt m n || m == n) ≡ nat_le m n
le_or m n = by (nat_lt m n) refl
  where
    by : (l : Bool) → nat_lt m n ≡ l → (nat_lt m n || m == n) ≡ nat_le m n
    by true l =
        let le : nat_le m n ≡ true = grind (arith, nat_tests) in ap (λ b. b || m == n) l ∙ sym le
    by false l = ap (λ b. b || m == n) l ∙ other (m == n) refl
      where
        other : (e : Bool) → (m == n) ≡ e → (m == n) ≡ nat_le m n
        other true e = let le : nat_le m n ≡ true = grind (arith, nat_tests) in e ∙ sym le
        other false e = let le : nat_le m n ≡ false = grind (arith, nat_tests) in e ∙ sym le

le_is : (family : ℕ) (k : Key) → is_le (key_cmp (first family) k) ≡ nat_le family k.family
le_is family k =
    le_by (nat_lt family k.family) (family == k.family) (nat_cmp 0 k.index) (zero_le k.index)
    ∙ le_or family k.family

past_by : (b : Bool) (family : ℕ) (k : Key)
    → is_past_end key_cmp (cond b (Excluded (first (suc family))) Unbounded) k
    ≡ (b && is_le (key_cmp (first (suc family)) k))
past_by true family k = refl
past_by false family k = refl

abbrev within : ℕ → Key → Bool
within family k = range_contains key_cmp (start_of family) (end_of family) k

within_is : (family : ℕ) (k : Key)
    → within family k ≡ (nat_le family k.family && not (nat_lt family 255 && nat_le (suc family) k.family))
within_is family k =
    let past = past_by (nat_lt family 255) family k ∙ ap (λ b. nat_lt family 255 && b) (le_is (suc family) k) in
    λ i. le_is family k i && not (past i)

own_by : (b : Bool) → (true && not (b && false)) ≡ true
own_by true = refl
own_by false = refl

and_false : (b : Bool) → (b && false) ≡ false
and_false true = refl
and_false false = refl

own : (family : ℕ) (k : Key) → k.family ≡ family → within family k ≡ true
own family k is =
    let from : nat_le family k.family ≡ true = grind (arith, nat_tests) in
    let to : nat_le (suc family) k.family ≡ false = grind (arith, nat_tests) in
    within_is family k ∙ (λ i. from i && not (nat_lt family 255 && to i)) ∙ own_by (nat_lt family 255)

before : (family : ℕ) (k : Key) → k.family < family → within family k ≡ false
before family k less =
    let from : nat_le family k.family ≡ false = grind (arith, nat_tests) in
    within_is family k ∙ ap (λ b. b && not (nat_lt family 255 && nat_le (suc family) k.family)) from

behind : (family : ℕ) (k : Key) → nat_lt family 255 ≡ true → family < k.family → within family k ≡ false
behind family k few less =
    let to : nat_le (suc family) k.family ≡ true = grind (arith, nat_tests) in
    within_is family k ∙ (λ i. nat_le family k.family && not (few i && to i)) ∙ and_false (nat_le family k.family)

-- ** entries

abbrev Entries : Type 0
Entries = List (Key × Known)

abbrev of_family : ℕ → Entries → Entries
of_family family es = entries_between key_cmp (start_of family) (end_of family) es

-- one that does not pass
skipped : (P : Key × Known → Bool) (e : Key × Known) (es : Entries) (b : Bool) → P e ≡ false
    → filter P (cond b (e ∷ es) es) ≡ filter P es
skipped P e es true p = ap (λ x. cond x (e ∷ filter P es) (filter P es)) p
skipped P e es false p = refl

-- one that does
passed : (P : Key × Known → Bool) (e : Key × Known) (es : Entries) → P e ≡ true → filter P (e ∷ es) ≡ e ∷ filter P es
passed P e es p = ap (λ x. cond x (e ∷ filter P es) (filter P es)) p

is_in : (family : ℕ) (e : Key × Known) (es : Entries) → within family e.0 ≡ true
    → of_family family (e ∷ es) ≡ e ∷ of_family family es
is_in family e es w = ap (λ x. cond x (e ∷ of_family family es) (of_family family es)) w

is_out : (family : ℕ) (e : Key × Known) (es : Entries) → within family e.0 ≡ false
    → of_family family (e ∷ es) ≡ of_family family es
is_out family e es w = ap (λ x. cond x (e ∷ of_family family es) (of_family family es)) w

-- where only those of one family pass
one_passes : (P : Key × Known → Bool) (family : ℕ) (es : Entries)
    → ((e : Key × Known) → P e ≡ true → within family e.0 ≡ true) → filter P (of_family family es) ≡ filter P es
one_passes P family [] all = refl
one_passes P family (e ∷ es) all = by (one_passes P family es all) (P e) refl
  where
    by : filter P (of_family family es) ≡ filter P es → (p : Bool) → P e ≡ p
        → filter P (of_family family (e ∷ es)) ≡ filter P (e ∷ es)
    by rest true p =
        ap (filter P) (is_in family e es (all e p)) ∙ passed P e (of_family family es) p ∙ ap (λ l. e ∷ l) rest
        ∙ sym (passed P e es p)
    by rest false p =
        skipped P e (of_family family es) (within family e.0) p ∙ rest ∙ sym (skipped P e es true p)

-- ** of three families, one after another

family_le : (a b : Key) → key_cmp a b ≡ Less → a.family ≤ b.family
family_le a b h = by (nat_lt a.family b.family) refl (a.family == b.family) refl
  where
    by : (l : Bool) → nat_lt a.family b.family ≡ l → (e : Bool) → (a.family == b.family) ≡ e → a.family ≤ b.family
    by true l e _ = grind (arith, nat_tests)
    by false l true e = grind (arith, nat_tests)
    by false l false e =
        let clash : Greater ≡ Less =
        (λ i. ordering_then (cond (sym l i) Less (cond (sym e i) Equal Greater)) (nat_cmp a.index b.index)) ∙ h in
        absurd cc

none_behind : (family : ℕ) (k : Key) (es : Entries) → nat_lt family 255 ≡ true → family < k.family
    → AllByRecursion (λ y. key_cmp k y ≡ Less) (keys_of es) → of_family family es ≡ []
none_behind family k [] few less all = refl
none_behind family k (e ∷ es) few less all =
    let le = family_le k e.0 all.0 in
    is_out family e es (behind family e.0 few (omega (arith, le))) ∙ none_behind family k es few less all.1

abbrev IsOfThree : Key → Type 0
IsOfThree k = (k.family ≡ 0) ⊎ ((k.family ≡ 7) ⊎ (k.family ≡ 10))

abbrev three_of : (Key × Known → Bool) → Entries → Entries
three_of P es = filter P (of_family 0 es) ++ (filter P (of_family 7 es) ++ filter P (of_family 10 es))

three_more : (P : Key × Known → Bool) (e : Key × Known) (es : Entries)
    → ((x : Key × Known) → P x ≡ true → IsOfThree x.0) → AllByRecursion (λ y. key_cmp e.0 y ≡ Less) (keys_of es)
    → filter P es ≡ three_of P es → filter P (e ∷ es) ≡ three_of P (e ∷ es)
three_more P e es all later rest = by (P e) refl
  where
    each : P e ≡ true → IsOfThree e.0 → filter P (e ∷ es) ≡ three_of P (e ∷ es)
    each p (inl f) =
        let a = ap (filter P) (is_in 0 e es (own 0 e.0 f)) ∙ passed P e (of_family 0 es) p in
        let b = is_out 7 e es (before 7 e.0 (omega (arith, f))) in
        let c = is_out 10 e es (before 10 e.0 (omega (arith, f))) in
        passed P e es p ∙ ap (λ l. e ∷ l) rest ∙ sym (λ i. a i ++ (filter P (b i) ++ filter P (c i)))
    each p (inr (inl f)) =
        let none = none_behind 0 e.0 es refl (omega (arith, f)) later in
        let a = is_out 0 e es (behind 0 e.0 refl (omega (arith, f))) ∙ none in
        let b = ap (filter P) (is_in 7 e es (own 7 e.0 f)) ∙ passed P e (of_family 7 es) p in
        let c = is_out 10 e es (before 10 e.0 (omega (arith, f))) in
        passed P e es p
        ∙ ap (λ l. e ∷ l)
        (rest ∙ ap (λ l. filter P l ++ (filter P (of_family 7 es) ++ filter P (of_family 10 es))) none)
        ∙ sym (λ i. filter P (a i) ++ (b i ++ filter P (c i)))
    each p (inr (inr f)) =
        let none = none_behind 0 e.0 es refl (omega (arith, f)) later in
        let none_too = none_behind 7 e.0 es refl (omega (arith, f)) later in
        let a = is_out 0 e es (behind 0 e.0 refl (omega (arith, f))) ∙ none in
        let b = is_out 7 e es (behind 7 e.0 refl (omega (arith, f))) ∙ none_too in
        let c = ap (filter P) (is_in 10 e es (own 10 e.0 f)) ∙ passed P e (of_family 10 es) p in
        passed P e es p
        ∙ ap (λ l. e ∷ l)
        (rest ∙ (λ i. filter P (none i) ++ (filter P (none_too i) ++ filter P (of_family 10 es))))
        ∙ sym (λ i. filter P (a i) ++ (filter P (b i) ++ c i))

    by : (p : Bool) → P e ≡ p → filter P (e ∷ es) ≡ three_of P (e ∷ es)
    by true p = each p (all e p)
    by false p =
        skipped P e es true p ∙ rest
        ∙ sym (λ i. skipped P e (of_family 0 es) (within 0 e.0) p i
        ++ (skipped P e (of_family 7 es) (within 7 e.0) p i ++ skipped P e (of_family 10 es) (within 10 e.0) p i))

three_pass : (P : Key × Known → Bool) (es : Entries) → ((e : Key × Known) → P e ≡ true → IsOfThree e.0)
    → IsStrictlySortedBy key_cmp (keys_of es) → filter P es ≡ three_of P es
unfolding IsStrictlySortedBy
three_pass P [] all sorted = refl
three_pass P (e ∷ es) all sorted = three_more P e es all sorted.0 (three_pass P es all sorted.1)

-- ** what is left

reached : (entries : Entries) (family begin : ℕ) (e : Key × Known) → is_left entries family begin e ≡ true
    → reaches family e.0.family ≡ true
reached entries family begin e h = (both _ _ (both _ _ h).1).0

same_family : (family other : ℕ) → (family == 0) ≡ false → reaches family other ≡ true → other ≡ family
same_family family other alone h = by (other == family) refl
  where
    by : (b : Bool) → (other == family) ≡ b → other ≡ family
    by true b = grind (arith, nat_tests)
    by false b =
        let clash : false ≡ true = (λ i. sym b i || (sym alone i && is_part other)) ∙ h in absurd cc

pub left_one : (host : Host) (family begin : ℕ) → (family == 0) ≡ false
    → left_in host family family begin ≡ left host family begin
left_one host family begin alone =
    one_passes (is_left host.known.entries family begin) family host.known.entries
    (λ e h. own family e.0 (same_family family e.0.family alone (reached host.known.entries family begin e h)))

of_three : (other : ℕ) → reaches 0 other ≡ true → (other ≡ 0) ⊎ ((other ≡ 7) ⊎ (other ≡ 10))
of_three other h = by (other == 0) refl (other == 7) refl (other == 10) refl
  where
    by : (a : Bool) → (other == 0) ≡ a → (b : Bool) → (other == 7) ≡ b → (c : Bool) → (other == 10) ≡ c
        → (other ≡ 0) ⊎ ((other ≡ 7) ⊎ (other ≡ 10))
    by true a b _ c _ = inl (grind (arith, nat_tests))
    by false a true b c _ = inr (inl (grind (arith, nat_tests)))
    by false a false b true c = inr (inr (grind (arith, nat_tests)))
    by false a false b false c =
        let clash : false ≡ true = (λ i. sym a i || (true && (sym b i || sym c i))) ∙ h in absurd cc

left_three : (host : Host) (begin : ℕ) → IsStrictlySortedBy key_cmp (keys_of host.known.entries)
    → left host 0 begin ≡ left_in host 0 0 begin ++ (left_in host 7 0 begin ++ left_in host 10 0 begin)
left_three host begin sorted =
    three_pass (is_left host.known.entries 0 begin) host.known.entries
    (λ e h. of_three e.0.family (reached host.known.entries 0 begin e h)) sorted

-- ** their keys, as they are added one after another
keys_three : (a b c : Entries) (none : List Key) → none ≡ []
    → ((none ++ keys_of a) ++ keys_of b) ++ keys_of c ≡ keys_of (a ++ (b ++ c))
keys_three a b c none empty =
    ap (λ n. ((n ++ keys_of a) ++ keys_of b) ++ keys_of c) empty ∙ append_assoc (keys_of a) (keys_of b) (keys_of c)
    ∙ ap (λ l. keys_of a ++ l) (sym (map-append (λ e. e.0) b c)) ∙ sym (map-append (λ e. e.0) a (b ++ c))

pub missed_one : (host : Host) (family begin : ℕ) (none keys : List Key) → (family ≡ 0 → ⊥) → none ≡ []
    → keys ≡ none ++ keys_of (left_in host family family begin) → keys ≡ keys_of (left host family begin)
missed_one host family begin none keys alone empty is =
    let other : (family == 0) ≡ false = not_zero (family == 0) refl in
    is ∙ ap (λ n. n ++ keys_of (left_in host family family begin)) empty ∙ ap keys_of (left_one host family begin other)
  where
    not_zero : (b : Bool) → (family == 0) ≡ b → (family == 0) ≡ false
    not_zero true e = let zero_is : family ≡ 0 = grind (arith, nat_tests) in absurd (alone zero_is)
    not_zero false e = e

pub missed_three : (host : Host) (family begin : ℕ) (none one two keys : List Key) → family ≡ 0
    → IsStrictlySortedBy key_cmp (keys_of host.known.entries) → none ≡ []
    → one ≡ none ++ keys_of (left_in host family family begin) → two ≡ one ++ keys_of (left_in host 7 family begin)
    → keys ≡ two ++ keys_of (left_in host 10 family begin) → keys ≡ keys_of (left host family begin)
missed_three host family begin none one two keys alone sorted empty first_is then_is last_is =
    last_is
    ∙ ap (λ l. l ++ keys_of (left_in host 10 family begin))
    (then_is ∙ ap (λ l. l ++ keys_of (left_in host 7 family begin)) first_is)
    ∙ keys_three (left_in host family family begin) (left_in host 7 family begin) (left_in host 10 family begin) none
    empty
    ∙ ap keys_of (sym (subst (λ f. left host f begin
    ≡ left_in host f f begin ++ (left_in host 7 f begin ++ left_in host 10 f begin)) (sym alone)
    (left_three host begin sorted)))
