-- Members without the values of those that hold others: they have the same leaves.
use Rattle.std.proofs.Common.{◌≡◌, ℕ, ◌+◌, Bool, true, false, List, [], ◌∷◌, ◌++◌, length, map, not, refl, sym}
use Rattle.std.proofs.Common.{ap, ◌∙◌}
use Rattle.std.specs.Prelude.{◌&&◌, Option, Some, None, cond}
use Rattle.std.specs.List.{flat_map}
use Rattle.json.specs.Token.{Token, begin_object}
use Rattle.shown.specs.Drafts.{list_of}
use Rattle.frame_diff.specs.Forests.{Forest, Held, Leaf, Member, Step, comes, forest, is_step, leaves, leaves_at}
use Rattle.frame_diff.specs.Forests.{left_of}
use Rattle.frame_diff.specs.Labels.{count, label_step, labelled, labels_behind, labels_of}
use Rattle.frame_diff.specs.Members.{alone, earlier, group_of, inside_of, is_nest, list_at, placed, places}
use Rattle.frame_diff.specs.Members.{are_plain, flat_inside, unless_none, value_in, values_inside}
use Rattle.frame_diff.specs.Vlans.{flat}
use Rattle.frame_diff.specs.declared.keys.Key.{Key}
use Rattle.frame_diff.specs.declared.labels.Label.{Label}

-- inside a value there is no member: it is a leaf
abbrev pub is_leaf : Forest → Bool
is_leaf Forest.none = true
is_leaf Forest.passed = false
is_leaf (Forest.vlans runs) = false
is_leaf (Forest.texts vs) = true
is_leaf (Forest.tree s v i rest) = false

-- so it is with each VLAN as a member
abbrev pub is_none : Forest → Bool
is_none f = is_leaf (flat f)

-- the value of an object or a list, if it holds no members
abbrev pub nest_value : List Token → Forest → List Token
nest_value v i = cond (is_none i) v (begin_object ∷ [])

abbrev pub bare_value : List Token → Forest → List Token
bare_value v i = cond (is_nest v) (nest_value v i) v

abbrev pub bare : Forest → Forest
bare Forest.none = Forest.none
bare Forest.passed = Forest.passed
bare (Forest.vlans runs) = Forest.vlans runs
bare (Forest.texts vs) = Forest.none
bare (Forest.tree s v i rest) = Forest.tree s (bare_value v i) (bare i) (bare rest)

abbrev pub bare_held : Held → Held
bare_held held = (bare_value held.0 held.1, bare held.1)

abbrev pub bare_one : Member → Member
bare_one m = (m.0, bare_held m.1)

abbrev pub bare_all : List Member → List Member
bare_all ms = map bare_one ms

abbrev pub bare_opt : Option Held → Option Held
bare_opt None = None
bare_opt (Some held) = Some (bare_held held)

abbrev pub bare_opts : List (Option Held) → List (Option Held)
bare_opts hs = map bare_opt hs

-- ** leaves

value_there : (v : List Token) → bare_value v Forest.none ≡ v
value_there v = by (is_nest v)
  where
    by : (b : Bool) → cond b v v ≡ v
    by true = refl
    by false = refl

-- values that hold no members are there
value_kept : (s : Step) (v : List Token) (f : Forest) (ls : List Leaf)
    → leaves_at s (cond (is_nest v) (cond (is_leaf f) v (begin_object ∷ [])) v) f ls ≡ leaves_at s v f ls
value_kept s v Forest.none ls = ap (λ w. (s ∷ [], w) ∷ []) (value_there v)
value_kept s v Forest.passed ls = refl
value_kept s v (Forest.vlans runs) ls = refl
value_kept s v (Forest.texts vs) ls = ap (λ w. (s ∷ [], w) ∷ []) (value_there v)
value_kept s v (Forest.tree a b c d) ls = refl

inside_kept : (s : Step) (v : List Token) (i : Forest) (ls : List Leaf)
    → leaves_at s v (flat (bare i)) ls ≡ leaves_at s v (flat i) ls
inside_kept s v Forest.none ls = refl
inside_kept s v Forest.passed ls = refl
inside_kept s v (Forest.vlans runs) ls = refl
inside_kept s v (Forest.texts vs) ls = refl
inside_kept s v (Forest.tree a b c d) ls = refl

pub leaves_bare : (f : Forest) → leaves (flat (bare f)) ≡ leaves (flat f)
leaves_bare Forest.none = refl
leaves_bare Forest.passed = refl
leaves_bare (Forest.vlans runs) = refl
leaves_bare (Forest.texts vs) = refl
leaves_bare (Forest.tree s v i rest) =
    (λ k. (inside_kept s (bare_value v i) i (leaves (flat (bare i)))
    ∙ value_kept s v (flat i) (leaves (flat (bare i)))
    ∙ ap (leaves_at s v (flat i)) (leaves_bare i)) k ++ leaves_bare rest k)

-- ** members

pub bare_append : (xs ys : List Member) → bare_all (xs ++ ys) ≡ bare_all xs ++ bare_all ys
bare_append [] ys = refl
bare_append (x ∷ xs) ys = ap (λ ms. bare_one x ∷ ms) (bare_append xs ys)

comes_bare : (s : Step) (ms : List Member) → comes s (bare_all ms) ≡ comes s ms
comes_bare s [] = refl
comes_bare s (m ∷ ms) = ap (cond (is_step m.0 s) true) (comes_bare s ms)

pub forest_bare : (ms : List Member) → bare (forest ms) ≡ forest (bare_all ms)
forest_bare [] = refl
forest_bare (m ∷ ms) =
    by (comes m.0 ms)
    ∙ (λ k. cond (sym (comes_bare m.0 ms) k) (forest_bare ms k)
    (Forest.tree m.0 (bare_value m.1.0 m.1.1) (bare m.1.1) (forest_bare ms k)))
  where
    by : (b : Bool) → bare (cond b (forest ms) (Forest.tree m.0 m.1.0 m.1.1 (forest ms)))
        ≡ cond b (bare (forest ms))
        (Forest.tree m.0 (bare_value m.1.0 m.1.1) (bare m.1.1) (bare (forest ms)))
    by true = refl
    by false = refl

left_bare : (b : Bool) (ms : List Member) → bare (left_of b ms) ≡ left_of b (bare_all ms)
left_bare true [] = refl
left_bare false [] = refl
left_bare b (m ∷ ms) = forest_bare (m ∷ ms)

-- ** lists of values

nest_bare : (v : List Token) (i : Forest) → is_nest (bare_value v i) ≡ is_nest v
nest_bare v i = by (is_nest v) refl (is_none i)
  where
    by : (b : Bool) → is_nest v ≡ b → (none : Bool)
        → is_nest (cond b (cond none v (begin_object ∷ [])) v) ≡ b
    by true is true = is
    by true is false = refl
    by false is none = is

-- values that are the same with what is in them are the same where that is passed over
pub passed_same : (v w : List Token) (i j : Forest) → bare_held (v, i) ≡ bare_held (w, j)
    → bare_held (v, Forest.passed) ≡ bare_held (w, Forest.passed)
passed_same v w i j same =
    ap (λ t. (t, Forest.passed))
    (by (is_nest v) (is_nest w) refl refl
    (sym (nest_bare v i) ∙ ap (λ held. is_nest held.0) same ∙ nest_bare w j) (ap (λ held. held.0) same))
  where
    by : (a b : Bool) → is_nest v ≡ a → is_nest w ≡ b → a ≡ b → bare_value v i ≡ bare_value w j
        → cond a (begin_object ∷ []) v ≡ cond b (begin_object ∷ []) w
    by true true nest other one is = refl
    by true false nest other one is = let clash : true ≡ false = one in absurd cc
    by false true nest other one is = let clash : true ≡ false = sym one in absurd cc
    by false false nest other one is =
        sym (ap (λ t. cond t (nest_value v i) v) nest) ∙ is ∙ ap (λ t. cond t (nest_value w j) w) other

placed_bare : (n : ℕ) (hs : List (Option Held)) → bare_all (placed n hs) ≡ placed n (bare_opts hs)
placed_bare n [] = refl
placed_bare n (None ∷ hs) = placed_bare (n + 1) hs
placed_bare n (Some held ∷ hs) =
    ap (λ ms. (Step.place n, bare_held held) ∷ ms) (placed_bare (n + 1) hs)

places_bare : (hs : List (Option Held)) → bare (places hs) ≡ places (bare_opts hs)
places_bare hs = forest_bare (placed 0 hs) ∙ ap forest (placed_bare 0 hs)

labelled_bare : (key : Key) (ls : List Label) (hs : List (Option Held))
    → bare_all (labelled key ls hs) ≡ labelled key ls (bare_opts hs)
labelled_bare key [] hs = refl
labelled_bare key (l ∷ ls) [] = refl
labelled_bare key (l ∷ ls) (None ∷ hs) = labelled_bare key ls hs
labelled_bare key (l ∷ ls) (Some held ∷ hs) =
    ap (λ ms. (label_step key l, bare_held held) ∷ ms) (labelled_bare key ls hs)

-- by their numbers, or by their places
of_bare : (key : Option Key) (ns : List (Option ℕ)) (hs : List (Option Held))
    → bare (inside_of key ns hs) ≡ inside_of key ns (bare_opts hs)
of_bare None ns hs = places_bare hs
of_bare (Some key) ns hs =
    forest_bare (labelled key (labels_of ns) hs) ∙ ap forest (labelled_bare key (labels_of ns) hs)

pub of_same : (key : Option Key) (ns ms : List (Option ℕ)) (hs js : List (Option Held)) → ns ≡ ms
    → bare_opts hs ≡ bare_opts js → bare (inside_of key ns hs) ≡ bare (inside_of key ms js)
of_same key ns ms hs js numbers same =
    of_bare key ns hs ∙ (λ k. inside_of key (numbers k) (same k)) ∙ sym (of_bare key ms js)

pub unless_bare : (s : Step) (v : List Token) (f : Forest) → is_nest v ≡ true
    → bare_all (unless_none s v f) ≡ unless_none s (begin_object ∷ []) (bare f)
unless_bare s v Forest.none nest = refl
unless_bare s v Forest.passed nest = refl
unless_bare s v (Forest.vlans runs) nest = refl
unless_bare s v (Forest.texts vs) nest = refl
unless_bare s v (Forest.tree a b c d) nest =
    ap (λ t. (s, (cond t (begin_object ∷ []) v, bare (Forest.tree a b c d))) ∷ []) nest

list_bare : (s : Step) (hs : List (Option Held))
    → bare_all (list_at s hs) ≡ unless_none s (begin_object ∷ []) (places (bare_opts hs))
list_bare s hs =
    unless_bare s (list_of (flat_map value_in hs)) (places hs) refl
    ∙ ap (unless_none s (begin_object ∷ [])) (places_bare hs)

pub list_same : (s : Step) (hs js : List (Option Held)) → bare_opts hs ≡ bare_opts js
    → bare_all (list_at s hs) ≡ bare_all (list_at s js)
list_same s hs js same =
    list_bare s hs ∙ ap (λ os. unless_none s (begin_object ∷ []) (places os)) same ∙ sym (list_bare s js)

-- the earlier ones of each step
abbrev pub alone_bare : Member → Option Held
alone_bare (Step.name name, held) =
    Some (begin_object ∷ [], Forest.tree (Step.name name) held.0 held.1 Forest.none)
alone_bare (Step.array name, held) = None
alone_bare (Step.part sort text, held) = None
alone_bare (Step.place n, held) = None
alone_bare (Step.label name label, held) = None
alone_bare (Step.repeated, held) = None
alone_bare (Step.other, held) = None

one_alone : (m : Member) → bare_opt (alone m) ≡ alone_bare (bare_one m)
one_alone (Step.name name, held) = refl
one_alone (Step.array name, held) = refl
one_alone (Step.part sort text, held) = refl
one_alone (Step.place n, held) = refl
one_alone (Step.label name label, held) = refl
one_alone (Step.repeated, held) = refl
one_alone (Step.other, held) = refl

pub opts_append : (xs ys : List (Option Held)) → bare_opts (xs ++ ys) ≡ bare_opts xs ++ bare_opts ys
opts_append [] ys = refl
opts_append (x ∷ xs) ys = ap (λ hs. bare_opt x ∷ hs) (opts_append xs ys)

abbrev pub earlier_ones : List Member → List (Option Held)
earlier_ones [] = []
earlier_ones (m ∷ ms) = cond (comes m.0 ms) (alone_bare m ∷ []) [] ++ earlier_ones ms

earlier_bare : (ms : List Member) → bare_opts (earlier ms) ≡ earlier_ones (bare_all ms)
earlier_bare [] = refl
earlier_bare (m ∷ ms) =
    opts_append (cond (comes m.0 ms) (alone m ∷ []) []) (earlier ms)
    ∙ (λ k. by (comes m.0 ms) k ++ earlier_bare ms k)
    ∙ ap (λ b. cond b (alone_bare (bare_one m) ∷ []) [] ++ earlier_ones (bare_all ms)) (sym (comes_bare m.0 ms))
  where
    by : (b : Bool) → bare_opts (cond b (alone m ∷ []) []) ≡ cond b (alone_bare (bare_one m) ∷ []) []
    by true = ap (λ o. o ∷ []) (one_alone m)
    by false = refl

pub earlier_same : (ms ns : List Member) → bare_all ms ≡ bare_all ns
    → bare_opts (earlier ms) ≡ bare_opts (earlier ns)
earlier_same ms ns same = earlier_bare ms ∙ ap earlier_ones same ∙ sym (earlier_bare ns)

-- ** values that hold none

none_bare : (f : Forest) → is_none (bare f) ≡ is_none f
none_bare Forest.none = refl
none_bare Forest.passed = refl
none_bare (Forest.vlans runs) = refl
none_bare (Forest.texts vs) = refl
none_bare (Forest.tree s v i rest) = refl

-- a forest of some members holds some
some_there : (m : Member) (ms : List Member) → is_none (forest (m ∷ ms)) ≡ false
some_there m [] = refl
some_there m (n ∷ ns) = by (comes m.0 (n ∷ ns)) (some_there n ns)
  where
    by : (b : Bool) → is_none (forest (n ∷ ns)) ≡ false
        → is_none (cond b (forest (n ∷ ns)) (Forest.tree m.0 m.1.0 m.1.1 (forest (n ∷ ns)))) ≡ false
    by true later = later
    by false later = refl

-- where none of a list is an object or a list, their values are there
abbrev pub values : List (Option Held) → List Token
values hs = flat_map value_in hs

plain_values : (hs : List (Option Held)) → are_plain hs ≡ true → values hs ≡ values (bare_opts hs)
plain_values [] plain = refl
plain_values (None ∷ hs) plain = plain_values hs plain
plain_values (Some held ∷ hs) plain = by (is_nest held.0) plain (plain_values hs)
  where
    by : (b : Bool) → (not b && are_plain hs) ≡ true
        → (are_plain hs ≡ true → values hs ≡ values (bare_opts hs))
        → held.0 ++ values hs ≡ cond b (nest_value held.0 held.1) held.0 ++ values (bare_opts hs)
    by true h later = absurd cc
    by false h later = ap (λ vs. held.0 ++ vs) (later h)

plain_bare : (hs : List (Option Held)) → are_plain (bare_opts hs) ≡ are_plain hs
plain_bare [] = refl
plain_bare (None ∷ hs) = plain_bare hs
plain_bare (Some held ∷ hs) = λ k. not (nest_bare held.0 held.1 k) && plain_bare hs k

-- values that are their own keys are no members
flat_bare : (own : Bool) (hs : List (Option Held)) → bare (flat_inside own hs) ≡ Forest.none
flat_bare true hs = refl
flat_bare false hs = refl

flat_is : (own : Bool) (hs : List (Option Held)) → is_none (flat_inside own hs) ≡ true
flat_is true hs = refl
flat_is false hs = refl

inside_bare : (own : Bool) (hs : List (Option Held)) (f : Forest)
    → bare (values_inside own hs f) ≡ values_inside false (bare_opts hs) (bare f)
inside_bare own hs f = by (are_plain hs) ∙ ap (λ b. cond b Forest.none (bare f)) (sym (plain_bare hs))
  where
    by : (b : Bool) → bare (cond b (flat_inside own hs) f) ≡ cond b Forest.none (bare f)
    by true = flat_bare own hs
    by false = refl

-- of values of which one is an object or a list there are some inside
abbrev pub HoldsSome : List (Option Held) → Forest → Type 0
HoldsSome hs f = are_plain hs ≡ false → is_none f ≡ false

pub placed_some : (n : ℕ) (hs : List (Option Held)) → are_plain hs ≡ false → is_none (forest (placed n hs)) ≡ false
placed_some n [] some = absurd cc
placed_some n (None ∷ hs) some = placed_some (n + 1) hs some
placed_some n (Some held ∷ hs) some = some_there (Step.place n, held) (placed (n + 1) hs)

labelled_some : (key : Key) (before ns : List (Option ℕ)) (hs : List (Option Held)) → length ns ≡ length hs
    → are_plain hs ≡ false → is_none (forest (labelled key (labels_behind before ns) hs)) ≡ false
labelled_some key before ns [] many some = absurd cc
labelled_some key before [] (h ∷ hs) many some = absurd cc
labelled_some key before (n ∷ ns) (None ∷ hs) many some =
    let rest : length ns ≡ length hs = cc in labelled_some key (n ∷ before) ns hs rest some
labelled_some key before (n ∷ ns) (Some held ∷ hs) many some =
    some_there (label_step key (record { number = n; again = count n before }), held)
    (labelled key (labels_behind (n ∷ before) ns) hs)

pub of_some : (key : Option Key) (ns : List (Option ℕ)) (hs : List (Option Held)) → length ns ≡ length hs
    → HoldsSome hs (inside_of key ns hs)
of_some None ns hs many some = placed_some 0 hs some
of_some (Some key) ns hs many some = labelled_some key [] ns hs many some

inside_is : (own : Bool) (hs : List (Option Held)) (f : Forest) → HoldsSome hs f
    → is_none (values_inside own hs f) ≡ are_plain hs
inside_is own hs f there = by (are_plain hs) refl
  where
    by : (b : Bool) → are_plain hs ≡ b → is_none (cond b (flat_inside own hs) f) ≡ b
    by true is = flat_is own hs
    by false is = there is

abbrev pub list_value : Bool → List (Option Held) → Forest → List Token
list_value own hs f = nest_value (list_of (values hs)) (values_inside own hs f)

list_value_bare : (own : Bool) (hs : List (Option Held)) (f : Forest) → HoldsSome hs f
    → list_value own hs f ≡ list_value false (bare_opts hs) (bare f)
list_value_bare own hs f there =
    by (is_none (values_inside own hs f)) refl
    ∙ ap (λ b. cond b (list_of (values (bare_opts hs))) (begin_object ∷ []))
    (sym (ap is_none (sym (inside_bare own hs f)) ∙ none_bare (values_inside own hs f)))
  where
    by : (b : Bool) → is_none (values_inside own hs f) ≡ b
        → cond b (list_of (values hs)) (begin_object ∷ [])
        ≡ cond b (list_of (values (bare_opts hs))) (begin_object ∷ [])
    by true none = ap list_of (plain_values hs (sym (inside_is own hs f there) ∙ none))
    by false some = refl

group_bare : (s : Step) (own : Bool) (hs : List (Option Held)) (f : Forest) → HoldsSome hs f
    → bare_one (group_of s own hs f)
    ≡ (s, (list_value false (bare_opts hs) (bare f), values_inside false (bare_opts hs) (bare f)))
group_bare s own hs f there = λ k. (s, (list_value_bare own hs f there k, inside_bare own hs f k))

pub group_same : (s : Step) (own : Bool) (hs js : List (Option Held)) (f g : Forest) → HoldsSome hs f
    → HoldsSome js g → bare_opts hs ≡ bare_opts js → bare f ≡ bare g
    → bare_one (group_of s own hs f) ≡ bare_one (group_of s own js g)
group_same s own hs js f g there here same inside =
    group_bare s own hs f there
    ∙ (λ k. (s, (list_value false (same k) (inside k), values_inside false (same k) (inside k))))
    ∙ sym (group_bare s own js g here)

-- ** an object, and the members inside it

abbrev pub object_value : List Token → Bool → List Member → List Token
object_value v true ms = begin_object ∷ []
object_value v false [] = v
object_value v false (m ∷ ms) = begin_object ∷ []

left_value : (v : List Token) (b : Bool) (ms : List Member)
    → nest_value v (left_of b ms) ≡ object_value v b (bare_all ms)
left_value v true [] = refl
left_value v false [] = refl
left_value v true (m ∷ ms) = ap (λ n. cond n v (begin_object ∷ [])) (some_there m ms)
left_value v false (m ∷ ms) = ap (λ n. cond n v (begin_object ∷ [])) (some_there m ms)

left_held : (v : List Token) (b : Bool) (ms : List Member) → is_nest v ≡ true
    → bare_held (v, left_of b ms) ≡ (object_value v b (bare_all ms), left_of b (bare_all ms))
left_held v b ms nest = λ k.
    ((ap (λ t. cond t (nest_value v (left_of b ms)) v) nest ∙ left_value v b ms) k, left_bare b ms k)

value_same : (v w : List Token) (b : Bool) (ms : List Member) → (b ≡ false → v ≡ w)
    → object_value v b ms ≡ object_value w b ms
value_same v w true ms same = refl
value_same v w false [] same = same refl
value_same v w false (m ∷ ms) same = refl

pub left_same : (v w : List Token) (b : Bool) (ms ns : List Member) → is_nest v ≡ true → is_nest w ≡ true
    → (b ≡ false → v ≡ w) → bare_all ms ≡ bare_all ns
    → bare_held (v, left_of b ms) ≡ bare_held (w, left_of b ns)
left_same v w b ms ns nest other value same =
    left_held v b ms nest
    ∙ (λ k. (value_same v w b (bare_all ms) value k, left_of b (bare_all ms)))
    ∙ ap (λ l. (object_value w b l, left_of b l)) same
    ∙ sym (left_held w b ns other)
