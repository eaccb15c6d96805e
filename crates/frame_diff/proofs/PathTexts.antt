-- Paths of one text are one path, where the text of a step, and of those in front of it, say which step it is, and hold
-- no mark: a point stands between steps, and the other marks in labels.
use Rattle.std.proofs.Common.{◌≡◌, ℕ, zero, suc, ◌+◌, ◌%◌, ◌<◌, ◌^◌, Bool, true, false, List, [], ◌∷◌, ◌++◌, refl, sym}
use Rattle.std.proofs.Common.{◌∙◌, ◌⊎◌, ap, append_assoc, append-nil, arith, decimal, eq-eqb, inl, inr, ne_eqb}
use Rattle.std.proofs.Common.{eqb-true, subst, take}
use Rattle.std.proofs.lemmas.Bool.{and_from, and_parts, or_parts, not-true}
use Rattle.std.proofs.lemmas.Fmt.{decimal_by_steps, decimal_injective}
use Rattle.std.specs.Prelude.{◌==◌, ◌&&◌, ◌||◌, Option, None, Some, codes, cond, not}
use Rattle.std.specs.List.{list_any}
use Rattle.frame_diff.specs.Forests.{Path, Step, entries_step, field_step, is_label, is_step, is_text, rest_step}
use Rattle.frame_diff.specs.Forests.{values_step}
use Rattle.frame_diff.specs.Items.{further, path_text, step_text, text_behind}
use Rattle.frame_diff.specs.Labels.{again_text, label_text, number_text}
use Rattle.frame_diff.specs.Members.{refused_step}
use Rattle.frame_diff.specs.declared.labels.Label.{Label}
use Rattle.frame_diff.proofs.Steps.{step_same}

-- ** the sorts of members beside each other

-- attributes of a function, of a list of addresses, or all others, and with them the header of a message
pub data Whose : Type 0 where
  function : Whose
  addresses : Whose
  other : Whose

-- none; fields of a record, which hold no others, so that their names may be any; values of a list, or VLANs; a list of
-- entries; a list of those that have a name; attributes
pub data Sort : Type 0 where
  nothing : Sort
  fields : Sort
  values : Sort → Sort
  entries : Sort
  listed : Sort
  attributes : Whose → Sort

-- the lists that attributes are the values of
abbrev pub array_steps : Whose → List Step
array_steps Whose.function = []
array_steps Whose.addresses = Step.array (codes "macaddr") ∷ []
array_steps Whose.other =
    Step.array (codes "vlan-info")
    ∷ Step.array (codes "vlan-tunnel-info")
    ∷ Step.array (codes "entry")
    ∷ Step.array (codes "mapping")
    ∷ []

-- the steps beside attributes that are no names
abbrev pub own_steps : Whose → List Step
own_steps whose =
    Step.repeated
    ∷ Step.other
    ∷ refused_step
    ∷ field_step (codes "ifi-family")
    ∷ field_step (codes "ifi-type")
    ∷ field_step (codes "ifi-index")
    ∷ field_step (codes "ifi-flags")
    ∷ field_step (codes "ifi-change")
    ∷ array_steps whose

-- the step of a text among these, or the name
abbrev pub step_among : List Step → List ℕ → Step
step_among [] text = Step.name text
step_among (s ∷ steps) text = cond (is_text (step_text s) text) s (step_among steps text)

-- the step of a text, where the text says it; that of a place is found by its digits
abbrev pub step_at : Sort → List ℕ → Step
step_at Sort.nothing text = Step.other
step_at Sort.fields text = field_step text
step_at (Sort.values sort) text = Step.other
step_at Sort.entries text = entries_step text
step_at Sort.listed text = cond (is_text (codes "other") text) (rest_step text) (values_step text)
step_at (Sort.attributes whose) text = step_among (own_steps whose) text

-- names of attributes that hold others than fields: of those of a function, and of all others
abbrev pub attribute_sorts : List (List ℕ × Sort)
attribute_sorts =
    (codes "refused", Sort.attributes Whose.other)
    ∷ (codes "linkinfo", Sort.attributes Whose.other)
    ∷ (codes "vfinfo-list", Sort.entries)
    ∷ (codes "vf-ports", Sort.entries)
    ∷ (codes "port-self", Sort.attributes Whose.other)
    ∷ (codes "af-spec", Sort.attributes Whose.other)
    ∷ (codes "protinfo", Sort.attributes Whose.other)
    ∷ (codes "xdp", Sort.attributes Whose.other)
    ∷ (codes "prop-list", Sort.listed)
    ∷ (codes "proto-down-reason", Sort.attributes Whose.other)
    ∷ (codes "devlink-port", Sort.attributes Whose.other)
    ∷ (codes "dpll-pin", Sort.attributes Whose.other)
    ∷ (codes "inet", Sort.attributes Whose.other)
    ∷ (codes "inet6", Sort.attributes Whose.other)
    ∷ (codes "mctp", Sort.attributes Whose.other)
    ∷ (codes "data", Sort.attributes Whose.other)
    ∷ (codes "slave-data", Sort.attributes Whose.other)
    ∷ (codes "mapping", Sort.values Sort.fields)
    ∷ (codes "egress-qos", Sort.attributes Whose.other)
    ∷ (codes "ingress-qos", Sort.attributes Whose.other)
    ∷ (codes "ad-info", Sort.attributes Whose.other)
    ∷ (codes "mcast-querier-state", Sort.attributes Whose.other)
    ∷ (codes "macaddr-data", Sort.attributes Whose.addresses)
    ∷ (codes "macaddr", Sort.values Sort.fields)
    ∷ (codes "tdc", Sort.attributes Whose.other)
    ∷ (codes "ctrlmode-ext", Sort.attributes Whose.other)
    ∷ (codes "vlan-info", Sort.values Sort.fields)
    ∷ (codes "vlan-tunnel-info", Sort.values (Sort.attributes Whose.other))
    ∷ (codes "mst", Sort.attributes Whose.other)
    ∷ (codes "entry", Sort.values (Sort.attributes Whose.other))
    ∷ []

abbrev pub function_sorts : List (List ℕ × Sort)
function_sorts = (codes "stats", Sort.attributes Whose.other) ∷ (codes "vlan-list", Sort.listed) ∷ []

abbrev pub sorts_of : Whose → List (List ℕ × Sort)
sorts_of Whose.function = function_sorts
sorts_of Whose.addresses = attribute_sorts
sorts_of Whose.other = attribute_sorts

-- the sort of a name
abbrev pub sort_among : List (List ℕ × Sort) → List ℕ → Sort
sort_among [] text = Sort.fields
sort_among (row ∷ rows) text = cond (is_text row.0 text) row.1 (sort_among rows text)

-- that of an entry, by the name of its list
abbrev pub whose_entry : List ℕ → Whose
whose_entry text = cond (is_text (codes "info") text) Whose.function Whose.other

-- the text of the label of a VLAN, inside which fields stand
abbrev is_vlan : List ℕ → Bool
is_vlan text = is_text (take 5 text) (codes "[vid=")

-- the sort of the members inside the one of this text
abbrev pub within : Sort → List ℕ → Sort
within Sort.nothing text = Sort.nothing
within Sort.fields text = Sort.nothing
within (Sort.values sort) text = cond (is_vlan text) Sort.fields sort
within Sort.entries text = Sort.values (Sort.attributes (whose_entry text))
within Sort.listed text = Sort.values Sort.fields
within (Sort.attributes whose) text =
    cond (is_text (codes "repeated") text) (Sort.values (Sort.attributes whose))
    (cond (is_text (codes "other") text) (Sort.values Sort.fields) (sort_among (sorts_of whose) text))

-- ** texts without marks

-- a point, and what stands in a label that is no name and no number
abbrev is_mark : ℕ → Bool
is_mark x = x == 46 || x == 91 || x == 93 || x == 61 || x == 35

abbrev pub lacks_marks : List ℕ → Bool
lacks_marks [] = true
lacks_marks (x ∷ text) = not (is_mark x) && lacks_marks text

-- nothing, or a mark first
abbrev is_marked : List ℕ → Bool
is_marked [] = true
is_marked (x ∷ text) = is_mark x

-- and not empty
abbrev pub is_plain : List ℕ → Bool
is_plain [] = false
is_plain (x ∷ text) = lacks_marks (x ∷ text)

lacks : (text : List ℕ) → is_plain text ≡ true → lacks_marks text ≡ true
lacks [] h = absurd cc
lacks (x ∷ text) h = h

-- a plain text that is that of no other step
abbrev pub is_name : Whose → List ℕ → Bool
is_name whose text = is_plain text && not (list_any (λ s. is_text (step_text s) text) (own_steps whose))

-- a plain text that is that of a list of values
abbrev pub is_array : Whose → List ℕ → Bool
is_array whose text = is_plain text && is_step (step_among (own_steps whose) text) (Step.array text)

digit_lacks : (n : ℕ) → n < 10 → lacks_marks ((48 + n) ∷ []) ≡ true
digit_lacks n less =
    let other : (x : ℕ) → (48 + n ≡ x → ⊥) → (48 + n == x) ≡ false = ne_eqb (48 + n) in
    (λ k. not (other 46 (λ same. omega (arith, same)) k || other 91 (λ same. omega (arith, same)) k
    || other 93 (λ same. omega (arith, same)) k || other 61 (λ same. omega (arith, same)) k
    || other 35 (λ same. omega (arith, same)) k) && true)

lacks_append : (xs ys : List ℕ) → lacks_marks xs ≡ true → lacks_marks ys ≡ true → lacks_marks (xs ++ ys) ≡ true
lacks_append [] ys h k = k
lacks_append (x ∷ xs) ys h k =
    let both = and_parts (not (is_mark x)) (lacks_marks xs) h in
    and_from (not (is_mark x)) (lacks_marks (xs ++ ys)) both.0 (lacks_append xs ys both.1 k)

decimal_lacks : (n : ℕ) → n < 2 ^ 64 → lacks_marks (decimal n) ≡ true
decimal_lacks = decimal_by_steps (λ n ds. lacks_marks ds ≡ true) digit_lacks
    (λ n ds two h. lacks_append ds ((48 + n % 10) ∷ []) h (digit_lacks (n % 10) (omega arith)))

-- ** steps and paths that stand in a sort

-- the one of its text
abbrev pub IsAt : Sort → Step → Type 0
IsAt sort s = (s ≡ step_at sort (step_text s)) × (is_plain (step_text s) ≡ true)

abbrev IsPlace : Step → Type 0
IsPlace s = (n : ℕ) × (n < 2 ^ 64) × (s ≡ Step.place n)

-- of numbers that are written out
abbrev pub IsBounded : Option ℕ → Type 0
IsBounded None = Unit {0}
IsBounded (Some n) = n < 2 ^ 64

abbrev pub IsWritten : Label → Type 0
IsWritten l = IsBounded l.number × (l.again < 2 ^ 64)

abbrev IsLabel : Step → Type 0
IsLabel s = (name : List ℕ) × (l : Label) × (lacks_marks name ≡ true) × IsWritten l × (s ≡ Step.label name l)

abbrev pub Stands : Sort → Step → Type 0
Stands Sort.nothing s = ⊥
Stands Sort.fields s = s ≡ field_step (step_text s)
Stands (Sort.values sort) s = IsPlace s ⊎ IsLabel s
Stands Sort.entries s = IsAt Sort.entries s
Stands Sort.listed s = IsAt Sort.listed s
Stands (Sort.attributes whose) s = IsAt (Sort.attributes whose) s

abbrev pub StandsIn : Sort → Path → Type 0
StandsIn sort [] = Unit {0}
StandsIn sort (s ∷ path) = Stands sort s × StandsIn (within sort (step_text s)) path

-- a name that is no other step
pub name_stands : (whose : Whose) (name : List ℕ) → is_name whose name ≡ true
    → Stands (Sort.attributes whose) (Step.name name)
name_stands whose name h =
    let steps = own_steps whose in
    let both = and_parts (is_plain name) (not (list_any (λ s. is_text (step_text s) name) steps)) h in
    (sym (among steps (not-true (list_any (λ s. is_text (step_text s) name) steps) both.1)), both.0)
  where
    among : (steps : List Step) → list_any (λ s. is_text (step_text s) name) steps ≡ false
        → step_among steps name ≡ Step.name name
    among [] none = refl
    among (s ∷ steps) none =
        let both = or_parts (is_text (step_text s) name) (list_any (λ t. is_text (step_text t) name) steps) none in
        ap (λ b. cond b s (step_among steps name)) both.0 ∙ among steps both.1

-- and one that is a list of values
pub array_stands : (whose : Whose) (name : List ℕ) → is_array whose name ≡ true
    → Stands (Sort.attributes whose) (Step.array name)
array_stands whose name h =
    let both = and_parts (is_plain name) (is_step (step_among (own_steps whose) name) (Step.array name)) h in
    (sym (step_same (step_among (own_steps whose) name) (Step.array name) both.1), both.0)

-- ** steps that are no labels

plain_no_label : (s : Step) → is_plain (step_text s) ≡ true → is_label s ≡ false
plain_no_label (Step.label name l) h = absurd cc
plain_no_label (Step.name text) h = refl
plain_no_label (Step.array text) h = refl
plain_no_label (Step.part n text) h = refl
plain_no_label (Step.place n) h = refl
plain_no_label Step.repeated h = refl
plain_no_label Step.other h = refl

-- ** texts of paths

-- the text of a step behind others, and of such steps
abbrev step_behind : Step → List ℕ
step_behind s = cond (is_label s) (step_text s) (46 ∷ step_text s)

abbrev behind : Path → List ℕ
behind [] = []
behind (s ∷ path) = step_behind s ++ behind path

behind_marked : (path : Path) → is_marked (behind path) ≡ true
behind_marked [] = refl
behind_marked (Step.label name l ∷ path) = refl
behind_marked (Step.name text ∷ path) = refl
behind_marked (Step.array text ∷ path) = refl
behind_marked (Step.part n text ∷ path) = refl
behind_marked (Step.place n ∷ path) = refl
behind_marked (Step.repeated ∷ path) = refl
behind_marked (Step.other ∷ path) = refl

further_is : (x : ℕ) (text : List ℕ) (s : Step) → further (x ∷ text) s ≡ (x ∷ text) ++ step_behind s
further_is x text s = by (is_label s)
  where
    by : (b : Bool) → cond b ((x ∷ text) ++ step_text s) ((x ∷ text) ++ 46 ∷ step_text s)
        ≡ (x ∷ text) ++ cond b (step_text s) (46 ∷ step_text s)
    by true = refl
    by false = refl

first_is : (s : Step) → further [] s ≡ step_text s
first_is s = by (is_label s)
  where
    by : (b : Bool) → cond b (step_text s) (step_text s) ≡ step_text s
    by true = refl
    by false = refl

goes_on : (x : ℕ) (text : List ℕ) (path : Path) → text_behind (x ∷ text) path ≡ (x ∷ text) ++ behind path
goes_on x text [] = sym (append-nil (x ∷ text))
goes_on x text (s ∷ path) =
    ap (λ front. text_behind front path) (further_is x text s) ∙ goes_on x (text ++ step_behind s) path
    ∙ append_assoc (x ∷ text) (step_behind s) (behind path)

begins : (text : List ℕ) (path : Path) → is_plain text ≡ true → text_behind text path ≡ text ++ behind path
begins [] path h = absurd cc
begins (x ∷ text) path h = goes_on x text path

first_begins : (s : Step) (path : Path) → is_plain (step_text s) ≡ true
    → path_text (s ∷ path) ≡ step_text s ++ behind path
first_begins s path h = ap (λ front. text_behind front path) (first_is s) ∙ begins (step_text s) path h

-- ** texts that are the same

no_mark : (x : ℕ) (text : List ℕ) → is_mark x ≡ true → lacks_marks (x ∷ text) ≡ true → ⊥
no_mark x text is h = let clash : false ≡ true = sym (ap (λ b. not b && lacks_marks text) is) ∙ h in absurd cc

-- digits are no label of a VLAN
no_vlan : (text : List ℕ) → lacks_marks text ≡ true → is_vlan text ≡ false
no_vlan [] h = refl
no_vlan (x ∷ text) h = by (x == 91) refl
  where
    by : (b : Bool) → (x == 91) ≡ b → (b && is_text (take 4 text) (codes "vid=")) ≡ false
    by true is = absurd (no_mark x text (ap is_mark (eqb-true x 91 is)) h)
    by false is = refl

pub place_within : (sort : Sort) (n : ℕ) → n < 2 ^ 64 → within (Sort.values sort) (decimal n) ≡ sort
place_within sort n few = ap (λ b. cond b Sort.fields sort) (no_vlan (decimal n) (decimal_lacks n few))

other_first : (x y : ℕ) (a b : List ℕ) → (x == y) ≡ false → x ∷ a ≡ y ∷ b → ⊥
other_first x y a b unlike same =
    let first : x ≡ y = cc in
    let clash : true ≡ false = sym (eq-eqb x y first) ∙ unlike in absurd cc

not_empty : (text rest : List ℕ) → is_plain text ≡ true → [] ≡ text ++ rest → ⊥
not_empty [] rest h none = absurd cc
not_empty (x ∷ text) rest h none = absurd cc

-- they are the same up to the first mark, and behind it
fronts : (a b r u : List ℕ) → lacks_marks a ≡ true → lacks_marks b ≡ true → is_marked r ≡ true → is_marked u ≡ true
    → a ++ r ≡ b ++ u → (a ≡ b) × (r ≡ u)
fronts [] [] r u h k f g same = (refl, same)
fronts [] (y ∷ b) [] u h k f g same = absurd cc
fronts [] (y ∷ b) (z ∷ r) u h k f g same =
    let first : z ≡ y = cc in absurd (no_mark y b (sym (ap is_mark first) ∙ f) k)
fronts (x ∷ a) [] r [] h k f g same = absurd cc
fronts (x ∷ a) [] r (z ∷ u) h k f g same =
    let first : x ≡ z = cc in absurd (no_mark x a (ap is_mark first ∙ g) h)
fronts (x ∷ a) (y ∷ b) r u h k f g same =
    let first : x ≡ y = cc in
    let rest : a ++ r ≡ b ++ u = cc in
    let both = fronts a b r u (and_parts (not (is_mark x)) (lacks_marks a) h).1
    (and_parts (not (is_mark y)) (lacks_marks b) k).1 f g rest in
    ((λ i. first i ∷ both.0 i), both.1)

step_there : (s : Step) (path : Path) → behind (s ∷ path) ≡ [] → ⊥
step_there (Step.label name l) path none = absurd cc
step_there (Step.name text) path none = absurd cc
step_there (Step.array text) path none = absurd cc
step_there (Step.part n text) path none = absurd cc
step_there (Step.place n) path none = absurd cc
step_there Step.repeated path none = absurd cc
step_there Step.other path none = absurd cc

-- ** labels

-- how the text of a label ends, and what is behind it
abbrev ending : Option ℕ → ℕ → List ℕ → List ℕ
ending n again rest = number_text n ++ (again_text n again ++ 93 ∷ rest)

label_ends : (name : List ℕ) (l : Label) (rest : List ℕ)
    → label_text name l ++ rest ≡ 91 ∷ name ++ ending l.number l.again rest
label_ends name l rest =
    let again = again_text l.number l.again in
    let number = number_text l.number in
    append_assoc (91 ∷ name ++ number ++ again) (93 ∷ []) rest
    ∙ append_assoc (91 ∷ name ++ number) again (93 ∷ rest)
    ∙ append_assoc (91 ∷ name) number (again ++ 93 ∷ rest)

-- nothing, or the count
again_is : (n again : ℕ)
    → ((again ≡ 0) × (again_text (Some n) again ≡ [])) ⊎ (again_text (Some n) again ≡ 35 ∷ decimal again)
again_is n zero = inl (refl, refl)
again_is n (suc again) = inr refl

ending_marked : (n : Option ℕ) (again : ℕ) (rest : List ℕ) → is_marked (ending n again rest) ≡ true
ending_marked None again rest = refl
ending_marked (Some n) again rest = refl

again_marked : (n again : ℕ) (rest : List ℕ) → is_marked (again_text (Some n) again ++ 93 ∷ rest) ≡ true
again_marked n again rest = by (again_is n again)
  where
    by : ((again ≡ 0) × (again_text (Some n) again ≡ [])) ⊎ (again_text (Some n) again ≡ 35 ∷ decimal again)
        → is_marked (again_text (Some n) again ++ 93 ∷ rest) ≡ true
    by (inl h) = ap (λ text. is_marked (text ++ 93 ∷ rest)) h.1
    by (inr h) = ap (λ text. is_marked (text ++ 93 ∷ rest)) h

counted : (j k : ℕ) (r u : List ℕ) → j < 2 ^ 64 → k < 2 ^ 64 → decimal j ++ 93 ∷ r ≡ decimal k ++ 93 ∷ u
    → (j ≡ k) × (r ≡ u)
counted j k r u less few same =
    let both = fronts (decimal j) (decimal k) (93 ∷ r) (93 ∷ u) (decimal_lacks j less) (decimal_lacks k few) refl refl
    same in
    let rest : 93 ∷ r ≡ 93 ∷ u = both.1 in
    (decimal_injective j k less few both.0, cc)

again_same : (m n j k : ℕ) (r u : List ℕ) → j < 2 ^ 64 → k < 2 ^ 64
    → again_text (Some m) j ++ 93 ∷ r ≡ again_text (Some n) k ++ 93 ∷ u → (j ≡ k) × (r ≡ u)
again_same m n j k r u less few same = by (again_is m j) (again_is n k)
  where
    -- with these texts in place of both
    turned : (a b : List ℕ) → again_text (Some m) j ≡ a → again_text (Some n) k ≡ b → a ++ 93 ∷ r ≡ b ++ 93 ∷ u
    turned a b h g = ap (λ text. text ++ 93 ∷ r) (sym h) ∙ same ∙ ap (λ text. text ++ 93 ∷ u) g

    by : ((j ≡ 0) × (again_text (Some m) j ≡ [])) ⊎ (again_text (Some m) j ≡ 35 ∷ decimal j)
        → ((k ≡ 0) × (again_text (Some n) k ≡ [])) ⊎ (again_text (Some n) k ≡ 35 ∷ decimal k)
        → (j ≡ k) × (r ≡ u)
    by (inl h) (inl g) =
        let texts : 93 ∷ r ≡ 93 ∷ u = turned [] [] h.1 g.1 in
        let rest : r ≡ u = cc in (h.0 ∙ sym g.0, rest)
    by (inl h) (inr g) =
        absurd (other_first 93 35 r (decimal k ++ 93 ∷ u) refl (turned [] (35 ∷ decimal k) h.1 g))
    by (inr h) (inl g) =
        absurd (other_first 35 93 (decimal j ++ 93 ∷ r) u refl (turned (35 ∷ decimal j) [] h g.1))
    by (inr h) (inr g) =
        let texts : 35 ∷ (decimal j ++ 93 ∷ r) ≡ 35 ∷ (decimal k ++ 93 ∷ u) =
        turned (35 ∷ decimal j) (35 ∷ decimal k) h g in
        let rest : decimal j ++ 93 ∷ r ≡ decimal k ++ 93 ∷ u = cc in counted j k r u less few rest

ending_same : (m n : Option ℕ) (j k : ℕ) (r u : List ℕ) → IsBounded m → IsBounded n → j < 2 ^ 64 → k < 2 ^ 64
    → ending m j r ≡ ending n k u → (m ≡ n) × (j ≡ k) × (r ≡ u)
ending_same None None j k r u h f less few same =
    let rest : decimal j ++ 93 ∷ r ≡ decimal k ++ 93 ∷ u = cc in
    let both = counted j k r u less few rest in
    (refl, both.0, both.1)
ending_same None (Some n) j k r u h f less few same = absurd (other_first 35 61 _ _ refl same)
ending_same (Some m) None j k r u h f less few same = absurd (other_first 61 35 _ _ refl same)
ending_same (Some m) (Some n) j k r u h f less few same =
    let behind_m = again_text (Some m) j ++ 93 ∷ r in
    let behind_n = again_text (Some n) k ++ 93 ∷ u in
    let rest : decimal m ++ behind_m ≡ decimal n ++ behind_n = cc in
    let front = fronts (decimal m) (decimal n) behind_m behind_n (decimal_lacks m h) (decimal_lacks n f)
    (again_marked m j r) (again_marked n k u) rest in
    let both = again_same m n j k r u less few front.1 in
    (ap Some (decimal_injective m n h f front.0), both.0, both.1)

-- ** the same step is first, and the same text is behind it

abbrev AreSame : Step → Step → Path → Path → Type 0
AreSame s t p q = (s ≡ t) × (behind p ≡ behind q)

point_behind : (s : Step) → is_label s ≡ false → step_behind s ≡ 46 ∷ step_text s
point_behind s is = ap (λ b. cond b (step_text s) (46 ∷ step_text s)) is

texts_same : (s t : Step) (p q : Path) → is_label s ≡ false → is_label t ≡ false → behind (s ∷ p) ≡ behind (t ∷ q)
    → step_text s ++ behind p ≡ step_text t ++ behind q
texts_same s t p q is are same =
    let points : 46 ∷ step_text s ++ behind p ≡ 46 ∷ step_text t ++ behind q =
    ap (λ text. text ++ behind p) (sym (point_behind s is)) ∙ same
    ∙ ap (λ text. text ++ behind q) (point_behind t are) in cc

at_same : (sort : Sort) (s t : Step) (p q : Path) → IsAt sort s → IsAt sort t → behind (s ∷ p) ≡ behind (t ∷ q)
    → AreSame s t p q
at_same sort s t p q h k same =
    let both = fronts (step_text s) (step_text t) (behind p) (behind q) (lacks (step_text s) h.1)
    (lacks (step_text t) k.1) (behind_marked p) (behind_marked q)
    (texts_same s t p q (plain_no_label s h.1) (plain_no_label t k.1) same) in
    (h.0 ∙ ap (step_at sort) both.0 ∙ sym k.0, both.1)

place_same : (m n : ℕ) (p q : Path) → m < 2 ^ 64 → n < 2 ^ 64
    → behind (Step.place m ∷ p) ≡ behind (Step.place n ∷ q) → AreSame (Step.place m) (Step.place n) p q
place_same m n p q less few same =
    let both = fronts (decimal m) (decimal n) (behind p) (behind q) (decimal_lacks m less) (decimal_lacks n few)
    (behind_marked p) (behind_marked q) (texts_same (Step.place m) (Step.place n) p q refl refl same) in
    (ap Step.place (decimal_injective m n less few both.0), both.1)

label_same : (a b : List ℕ) (l m : Label) (p q : Path) → lacks_marks a ≡ true → lacks_marks b ≡ true → IsWritten l
    → IsWritten m → behind (Step.label a l ∷ p) ≡ behind (Step.label b m ∷ q)
    → AreSame (Step.label a l) (Step.label b m) p q
label_same a b l m p q h k f g same =
    let texts : 91 ∷ a ++ ending l.number l.again (behind p) ≡ 91 ∷ b ++ ending m.number m.again (behind q) =
    sym (label_ends a l (behind p)) ∙ same ∙ label_ends b m (behind q) in
    let rest : a ++ ending l.number l.again (behind p) ≡ b ++ ending m.number m.again (behind q) = cc in
    let names = fronts a b (ending l.number l.again (behind p)) (ending m.number m.again (behind q)) h k
    (ending_marked l.number l.again (behind p)) (ending_marked m.number m.again (behind q)) rest in
    let all = ending_same l.number m.number l.again m.again (behind p) (behind q) f.0 g.0 f.1 g.1 names.1 in
    ((λ i. Step.label (names.0 i) (record { number = all.0 i; again = all.1 i })), all.2)

-- a place stands behind a point, and a label behind a bracket
value_same : (s t : Step) (p q : Path) → IsPlace s ⊎ IsLabel s → IsPlace t ⊎ IsLabel t
    → behind (s ∷ p) ≡ behind (t ∷ q) → AreSame s t p q
value_same s t p q (inl h) (inl k) same =
    let both = place_same h.0 k.0 p q h.1 k.1 (ap (λ u. behind (u ∷ p)) (sym h.2) ∙ same
    ∙ ap (λ u. behind (u ∷ q)) k.2) in
    (h.2 ∙ both.0 ∙ sym k.2, both.1)
value_same s t p q (inl h) (inr k) same =
    let clash : behind (Step.place h.0 ∷ p) ≡ behind (Step.label k.0 k.1 ∷ q) =
    ap (λ u. behind (u ∷ p)) (sym h.2) ∙ same ∙ ap (λ u. behind (u ∷ q)) k.4 in
    absurd (other_first 46 91 _ _ refl clash)
value_same s t p q (inr h) (inl k) same =
    let clash : behind (Step.label h.0 h.1 ∷ p) ≡ behind (Step.place k.0 ∷ q) =
    ap (λ u. behind (u ∷ p)) (sym h.4) ∙ same ∙ ap (λ u. behind (u ∷ q)) k.2 in
    absurd (other_first 91 46 _ _ refl clash)
value_same s t p q (inr h) (inr k) same =
    let both = label_same h.0 k.0 h.1 k.1 p q h.2 k.2 h.3 k.3 (ap (λ u. behind (u ∷ p)) (sym h.4) ∙ same
    ∙ ap (λ u. behind (u ∷ q)) k.4) in
    (h.4 ∙ both.0 ∙ sym k.4, both.1)

one_step : (sort : Sort) (s t : Step) (p q : Path) → Stands sort s → Stands sort t
    → StandsIn (within sort (step_text s)) p → StandsIn (within sort (step_text t)) q
    → behind (s ∷ p) ≡ behind (t ∷ q) → AreSame s t p q
one_step Sort.nothing s t p q h k f g same = absurd h
one_step Sort.fields s t [] [] h k f g same =
    let texts = texts_same s t [] [] (ap is_label h) (ap is_label k) same in
    let words : step_text s ≡ step_text t =
    sym (append-nil (step_text s)) ∙ texts ∙ append-nil (step_text t) in
    (h ∙ ap field_step words ∙ sym k, refl)
one_step Sort.fields s t [] (y ∷ q) h k f g same = absurd g.0
one_step Sort.fields s t (x ∷ p) q h k f g same = absurd f.0
one_step (Sort.values sort) s t p q h k f g same = value_same s t p q h k same
one_step Sort.entries s t p q h k f g same = at_same Sort.entries s t p q h k same
one_step Sort.listed s t p q h k f g same = at_same Sort.listed s t p q h k same
one_step (Sort.attributes whose) s t p q h k f g same =
    at_same (Sort.attributes whose) s t p q h k same

paths_same : (sort : Sort) (p q : Path) → StandsIn sort p → StandsIn sort q → behind p ≡ behind q → p ≡ q
paths_same sort [] [] f g same = refl
paths_same sort [] (t ∷ q) f g same = absurd (step_there t q (sym same))
paths_same sort (s ∷ p) [] f g same = absurd (step_there s p same)
paths_same sort (s ∷ p) (t ∷ q) f g same =
    let both = one_step sort s t p q f.0 g.0 f.1 g.1 same in
    let rest = paths_same (within sort (step_text s)) p q f.1
    (subst (λ u. StandsIn (within sort (step_text u)) q) (sym both.0) g.1) both.1 in
    (λ k. both.0 k ∷ rest k)

-- beside the attributes of a message
pub path_of_text : (p q : Path) → StandsIn (Sort.attributes Whose.other) p → StandsIn (Sort.attributes Whose.other) q
    → path_text p ≡ path_text q → p ≡ q
path_of_text [] [] f g same = refl
path_of_text [] (t ∷ q) f g same =
    let clash : [] ≡ step_text t ++ behind q = same ∙ first_begins t q g.0.1 in
    absurd (not_empty (step_text t) (behind q) g.0.1 clash)
path_of_text (s ∷ p) [] f g same =
    let clash : [] ≡ step_text s ++ behind p = sym same ∙ first_begins s p f.0.1 in
    absurd (not_empty (step_text s) (behind p) f.0.1 clash)
path_of_text (s ∷ p) (t ∷ q) f g same =
    paths_same (Sort.attributes Whose.other) (s ∷ p) (t ∷ q) f g
    (ap (λ text. text ++ behind p) (point_behind s (plain_no_label s f.0.1))
    ∙ ap (λ text. 46 ∷ text) (sym (first_begins s p f.0.1) ∙ same ∙ first_begins t q g.0.1)
    ∙ sym (ap (λ text. text ++ behind q) (point_behind t (plain_no_label t g.0.1))))
