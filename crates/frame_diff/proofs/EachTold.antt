-- Lists that are told as a whole, and lists of values that are their own keys.
use Rattle.std.proofs.Common.{◌≡◌, ℕ, ◌+◌, ◌-◌, ◌<◌, ◌≤◌, Bool, true, false, List, [], ◌∷◌, ◌++◌, refl, sym, ap, ◌∙◌}
use Rattle.std.proofs.Common.{arith, drop, get_or, length, map}
use Rattle.std.specs.Prelude.{Option, None, Some, codes, cond, nat_lt, unwrap_or}
use Rattle.std.specs.BTreeMap.{BTreeMap, UpdatesBy, is_at}
use Rattle.std.specs.Cmp.Lexicographic.{slice_cmp, nat_list_cmp_total, nat_list_eq_equiv}
use Rattle.std.specs.Global.{Vec}
use Rattle.std.specs.List.{flat_map}
use Rattle.std.specs.Map.{KeepsOthers}
use Rattle.std.specs.Ordering.{eq_by_cmp, is_eq, nat_cmp}
use Rattle.std.specs.declared.cmp.Ordering.{Ordering}
use Rattle.std.proofs.lemmas.Bool.Decides.{nat_tests}
use Rattle.std.proofs.lemmas.Cmp.{eq_by_cmp_equiv}
use Rattle.std.proofs.lemmas.List.{drop_all, drop_more, length-map, map-append}
use Rattle.std.proofs.lemmas.Map.Text.{is_eq-slice_cmp}
use Rattle.json.specs.Token.{Token}
use Rattle.shown.specs.Drafts.{Draft, Members, object_of, with_members}
use Rattle.frame_shown.specs.Items.{objects}
use Rattle.frame_shown.specs.Kept.{frame_members}
use Rattle.frame_shown.specs.Tables.{entry_list}
use Rattle.frame_shown.specs.Values.{Nesting}
use Rattle.frame_shown.specs.declared.form.Group.{Group}
use Rattle.frame_shown.proofs.Items.{on_next}
use Rattle.frame_diff.specs.Differences.{is_shown_same, text_of}
use Rattle.frame_diff.specs.Forests.{is_text}
use Rattle.frame_diff.specs.Items.{alone_texts, each_items, leaf_items}
use Rattle.frame_diff.specs.Texts.{over_behind, times, times_in}
use Rattle.frame_diff.specs.Values.{other_shown}
use Rattle.frame_diff.specs.declared.kept.Kept.{Kept}
use Rattle.frame_diff.specs.declared.keyed.Labelled.{Labelled}
use Rattle.frame_diff.specs.declared.leaf.Value.{Value}
use Rattle.frame_diff.specs.declared.side.Side.{Side}
use Rattle.frame_diff.proofs.Steps.{text_is, text_same}

-- ** values of a list, as members of it

abbrev pub other_member : Option Kept → Members
other_member None = []
other_member (Some k) = ([], object_of (frame_members k.name.now k.kind k.payload.now)) ∷ []

abbrev pub other_members : List (Labelled (Option Kept)) → Members
other_members ks = flat_map (λ (k : Labelled (Option Kept)). other_member k.value) ks

one_value : (k : Option Kept) (ts : List Token) (ms : Members) → flat_map (λ m. m.1) ms ≡ ts
    → flat_map (λ m. m.1) (other_member k ++ ms) ≡ other_shown k ++ ts
one_value None ts ms rest = rest
one_value (Some k) ts ms rest =
    ap (λ us. object_of (frame_members k.name.now k.kind k.payload.now) ++ us) rest

pub others_values : (ks : List (Labelled (Option Kept)))
    → flat_map (λ m. m.1) (other_members ks) ≡ flat_map (λ (k : Labelled (Option Kept)). other_shown k.value) ks
others_values [] = refl
others_values (k ∷ ks) =
    one_value k.value (flat_map (λ (l : Labelled (Option Kept)). other_shown l.value) ks) (other_members ks)
    (others_values ks)

abbrev pub entry_members : Nesting → Group → List (Vec ℕ) → Members
entry_members nest group es = map (λ (e : Vec ℕ). ([], nest (entry_list group) e.items)) es

pub entries_values : (nest : Nesting) (group : Group) (es : List (Vec ℕ))
    → flat_map (λ m. m.1) (entry_members nest group es)
    ≡ flat_map (λ (e : Vec ℕ). nest (entry_list group) e.items) es
entries_values nest group [] = refl
entries_values nest group (e ∷ es) =
    ap (λ ts. nest (entry_list group) e.items ++ ts) (entries_values nest group es)

-- ** counts in a map

abbrev pub text_cmp : Vec ℕ → Vec ℕ → Ordering
text_cmp x y = slice_cmp nat_cmp x.items y.items

text_apart : (a b key : List ℕ) → is_text b a ≡ false → is_eq (slice_cmp nat_cmp a key) ≡ true
    → is_eq (slice_cmp nat_cmp b key) ≡ false
text_apart a b key other is =
    is_eq-slice_cmp b key ∙ nat_list_eq_equiv.symm b key
    ∙ sym (nat_list_eq_equiv.congr a key b (sym (is_eq-slice_cmp a key) ∙ is))
    ∙ nat_list_eq_equiv.symm a b ∙ other

others_stay : (a b : List ℕ) (old new : BTreeMap (Vec ℕ) ℕ)
    → KeepsOthers (eq_by_cmp text_cmp) (is_at (λ (k : Vec ℕ). slice_cmp nat_cmp a k.items)) old.entries new.entries
    → is_text b a ≡ false → times_in new b ≡ times_in old b
unfolding KeepsOthers
others_stay a b old new keeps other =
    ap (λ o. unwrap_or o 0) (keeps (is_at (λ (k : Vec ℕ). slice_cmp nat_cmp b k.items))
    (λ x y. (eq_by_cmp_equiv nat_list_cmp_total).congr b x.items y.items)
    (λ (k : Vec ℕ). text_apart a b k.items other))

-- a map counts n of a text from then on
abbrev pub Puts : BTreeMap (Vec ℕ) ℕ → BTreeMap (Vec ℕ) ℕ → List ℕ → ℕ → Type 0
Puts old new a n = UpdatesBy text_cmp (λ (k : Vec ℕ). slice_cmp nat_cmp a k.items) old new (Some n)

puts : (a : List ℕ) (n : ℕ) (old new : BTreeMap (Vec ℕ) ℕ) (other : List ℕ) → Puts old new a n
    → times_in new other ≡ cond (is_text other a) n (times_in old other)
puts a n old new other updates = by (is_text other a) refl
  where
    by : (b : Bool) → is_text other a ≡ b → times_in new other ≡ cond b n (times_in old other)
    by true same = ap (times_in new) (text_same other a same) ∙ ap (λ o. unwrap_or o 0) updates.1
    by false apart = others_stay a other old new updates.3 apart

pub one_more : (a : List ℕ) (n : ℕ) (old new : BTreeMap (Vec ℕ) ℕ) → Puts old new a (n + 1) → n ≡ times_in old a
    → (other : List ℕ) → times_in new other ≡ cond (is_text other a) 1 0 + times_in old other
one_more a n old new updates is other = puts a (n + 1) old new other updates ∙ by (is_text other a) refl
  where
    by : (b : Bool) → is_text other a ≡ b
        → cond b (n + 1) (times_in old other) ≡ cond b 1 0 + times_in old other
    by true same =
        let e : times_in old other ≡ times_in old a = ap (times_in old) (text_same other a same) in
        omega (arith, e, is)
    by false apart = omega arith

pub one_fewer : (a : List ℕ) (n : ℕ) (old new : BTreeMap (Vec ℕ) ℕ) → Puts old new a n → n + 1 ≡ times_in old a
    → (other : List ℕ) → times_in new other ≡ times_in old other - cond (is_text other a) 1 0
one_fewer a n old new updates is other = puts a n old new other updates ∙ by (is_text other a) refl
  where
    by : (b : Bool) → is_text other a ≡ b
        → cond b n (times_in old other) ≡ times_in old other - cond b 1 0
    by true same =
        let e : times_in old other ≡ times_in old a = ap (times_in old) (text_same other a same) in
        omega (arith, e, is)
    by false apart = omega arith

pub none_fewer : (a : List ℕ) (counts : BTreeMap (Vec ℕ) ℕ) → times_in counts a ≡ 0 → (other : List ℕ)
    → times_in counts other ≡ times_in counts other - cond (is_text other a) 1 0
none_fewer a counts none other = by (is_text other a) refl
  where
    by : (b : Bool) → is_text other a ≡ b → times_in counts other ≡ times_in counts other - cond b 1 0
    by true same =
        let e : times_in counts other ≡ times_in counts a = ap (times_in counts) (text_same other a same) in
        omega (arith, e, none)
    by false apart = omega arith

-- ** how many of a list have a text

times_few : (v : List Token) (ws : List (List Token)) → times v ws ≤ length ws
times_few v [] = omega arith
times_few v (w ∷ ws) = by (is_shown_same v w) (times_few v ws)
  where
    by : (b : Bool) → times v ws ≤ length ws → cond b 1 0 + times v ws ≤ length (w ∷ ws)
    by true few = omega (arith, few)
    by false few = omega (arith, few)

sum_on : (new old one was rest all : ℕ) → new ≡ one + old → was ≡ one + rest → old + was ≡ all → new + rest ≡ all
sum_on new old one was rest all now split before = omega (arith, now, split, before)

less_more : (x y z one new : ℕ) → x ≡ y - z → new ≡ x - one → new ≡ y - (one + z)
less_more x y z one new is now = omega (arith, is, now)

some_left : (m n : ℕ) → nat_lt 0 (n - m) ≡ nat_lt m n
some_left m n = grind (arith, nat_tests)

module _ (f : Value → List Token) (vs : List Value) (i : ℕ) (d value : Value) (within : i < length vs)
    (here : value ≡ get_or vs i d) where
  next_value : map f (drop i vs) ≡ f value ∷ map f (drop (i + 1) vs)
  next_value = ap (map f) (drop_more vs i d within) ∙ ap (λ v. f v ∷ map f (drop (i + 1) vs)) (sym here)

  -- a map counts those before
  pub counted_on : (text : List ℕ) (old new : BTreeMap (Vec ℕ) ℕ) (v : List Token) (all : ℕ)
      → text ≡ text_of (f value)
      → ((other : List ℕ) → times_in new other ≡ cond (is_text other text) 1 0 + times_in old other)
      → times_in old (text_of v) + times v (map f (drop i vs)) ≡ all
      → times_in new (text_of v) + times v (map f (drop (i + 1) vs)) ≡ all
  counted_on text old new v all is counts before =
      sum_on (times_in new (text_of v)) (times_in old (text_of v)) (cond (is_shown_same v (f value)) 1 0)
      (times v (map f (drop i vs))) (times v (map f (drop (i + 1) vs))) all
      (counts (text_of v) ∙ ap (λ t. cond (is_text (text_of v) t) 1 0 + times_in old (text_of v)) is)
      (ap (times v) next_value) before

  -- there is room for one more
  pub few_counted : (text : List ℕ) (old : BTreeMap (Vec ℕ) ℕ) → text ≡ text_of (f value)
      → times_in old (text_of (f value)) + times (f value) (map f (drop i vs)) ≡ times (f value) (map f vs)
      → times_in old text + 1 ≤ length vs
  few_counted text old is before =
      let same : times_in old text ≡ times_in old (text_of (f value)) = ap (times_in old) is in
      let split : times (f value) (map f (drop i vs)) ≡ 1 + times (f value) (map f (drop (i + 1) vs)) =
      ap (times (f value)) next_value
      ∙ ap (λ b. cond b 1 0 + times (f value) (map f (drop (i + 1) vs))) (text_is (text_of (f value))) in
      let few : times (f value) (map f vs) ≤ length (map f vs) = times_few (f value) (map f vs) in
      let size : length (map f vs) ≡ length vs = length-map vs f in
      omega (arith, same, split, before, few, size)

  -- ** what one value tells

  told_next : (first os more : List Members) (page new all : Draft) → first ≡ os ++ more
      → with_members (objects first) page ≡ all → new ≡ with_members (objects os) page
      → with_members (objects more) new ≡ all
  told_next first os more page new all split was is =
      on_next (objects first) (objects os) (objects more) page new all
      (ap objects split ∙ map-append (λ o. ([], object_of o)) os more) was is

  pub all_on : (side : Side) (text : List ℕ) (page new all : Draft)
      → new ≡ with_members (objects (leaf_items side (text ++ codes "[]") (f value) None)) page
      → with_members (objects (each_items side text (map f (drop i vs)))) page ≡ all
      → with_members (objects (each_items side text (map f (drop (i + 1) vs)))) new ≡ all
  all_on side text page new all is was =
      told_next (each_items side text (map f (drop i vs))) (leaf_items side (text ++ codes "[]") (f value) None)
      (each_items side text (map f (drop (i + 1) vs))) page new all (ap (each_items side text) next_value) was is

-- a map has of each text how many more there are than among those before
abbrev pub HasLeft : BTreeMap (Vec ℕ) ℕ → List (List Token) → List (List Token) → Type 0
HasLeft counts before ws = (v : List Token) → times_in counts (text_of v) ≡ times v ws - times v before

pub left_first : (counts : BTreeMap (Vec ℕ) ℕ) (ws : List (List Token))
    → ((v : List Token) → times_in counts (text_of v) ≡ times v ws) → HasLeft counts [] ws
left_first counts ws has v = has v ∙ (omega arith)

one_told : (side : Side) (text : List ℕ) (b : Bool) (v : List Token) (vs : List (List Token))
    → each_items side text (cond b [] (v ∷ []) ++ vs)
    ≡ cond b [] (leaf_items side (text ++ codes "[]") v None) ++ each_items side text vs
one_told side text true v vs = refl
one_told side text false v vs = refl

module _ (f : Value → List Token) (vs : List Value) (i : ℕ) (d value : Value) (within : i < length vs)
    (here : value ≡ get_or vs i d) (ws before : List (List Token)) (counts : BTreeMap (Vec ℕ) ℕ)
    (has : HasLeft counts before ws) where
  pub left_on : (next : BTreeMap (Vec ℕ) ℕ)
      → ((other : List ℕ) → times_in next other ≡ times_in counts other - cond (is_text other (text_of (f value))) 1 0)
      → HasLeft next (f value ∷ before) ws
  left_on next takes v =
      less_more (times_in counts (text_of v)) (times v ws) (times v before) (cond (is_shown_same v (f value)) 1 0)
      (times_in next (text_of v)) (has v) (takes (text_of v))

  pub over_on : (side : Side) (text : List ℕ) (page new all : Draft)
      → new ≡ with_members (objects (cond (nat_lt 0 (times_in counts (text_of (f value)))) []
      (leaf_items side (text ++ codes "[]") (f value) None))) page
      → with_members (objects (each_items side text (over_behind before ws (map f (drop i vs))))) page ≡ all
      → with_members (objects (each_items side text (over_behind (f value ∷ before) ws (map f (drop (i + 1) vs))))) new
      ≡ all
  over_on side text page new all is was =
      let w = f value in
      let rest = over_behind (w ∷ before) ws (map f (drop (i + 1) vs)) in
      let any : nat_lt 0 (times_in counts (text_of w)) ≡ nat_lt (times w before) (times w ws) =
      ap (nat_lt 0) (has w) ∙ some_left (times w before) (times w ws) in
      told_next f vs i d value within here (each_items side text (over_behind before ws (map f (drop i vs))))
      (cond (nat_lt 0 (times_in counts (text_of w))) [] (leaf_items side (text ++ codes "[]") w None))
      (each_items side text rest) page new all
      (ap (λ us. each_items side text (over_behind before ws us)) (next_value f vs i d value within here)
      ∙ one_told side text (nat_lt (times w before) (times w ws)) w rest
      ∙ sym (ap (λ b. cond b [] (leaf_items side (text ++ codes "[]") w None) ++ each_items side text rest) any))
      was is

pub over_ended : (f : Value → List Token) (vs : List Value) (i : ℕ) (ws before : List (List Token)) (side : Side)
    (text : List ℕ) (page all : Draft) → length vs ≤ i
    → with_members (objects (each_items side text (over_behind before ws (map f (drop i vs))))) page ≡ all → page ≡ all
over_ended f vs i ws before side text page all past was =
    sym (ap (λ us. with_members (objects (each_items side text (over_behind before ws (map f us)))) page)
    (drop_all i vs past)) ∙ was

pub all_ended : (f : Value → List Token) (vs : List Value) (i : ℕ) (side : Side) (text : List ℕ) (page all : Draft)
    → length vs ≤ i → with_members (objects (each_items side text (map f (drop i vs)))) page ≡ all → page ≡ all
all_ended f vs i side text page all past was =
    sym (ap (λ us. with_members (objects (each_items side text (map f us))) page) (drop_all i vs past)) ∙ was

pub counted_all : (f : Value → List Token) (vs : List Value) (i : ℕ) (counts : BTreeMap (Vec ℕ) ℕ) (v : List Token)
    (all : ℕ) → length vs ≤ i → times_in counts (text_of v) + times v (map f (drop i vs)) ≡ all
    → times_in counts (text_of v) ≡ all
counted_all f vs i counts v all past was =
    let none : times v (map f (drop i vs)) ≡ 0 = ap (λ us. times v (map f us)) (drop_all i vs past) in
    omega (arith, none, was)

-- a list that stands alone
pub alone_none : (f : Value → List Token) (vs : List Value) (side : Side) (text : List ℕ) (v : List Token)
    → length vs ≡ 0 → alone_texts side text v (map f vs) None ≡ leaf_items side text v None
alone_none f [] side text v none = refl
alone_none f (x ∷ vs) side text v none = absurd (omega (arith, none))

pub alone_some : (f : Value → List Token) (vs : List Value) (side : Side) (text : List ℕ) (v : List Token)
    → 0 < length vs → alone_texts side text v (map f vs) None ≡ each_items side text (map f vs)
alone_some f [] side text v some = absurd (omega (arith, some))
alone_some f (x ∷ vs) side text v some = refl
