-- What members tell that stand in parts: no step of one part is that of another.
use Rattle.std.proofs.Common.{◌≡◌, ℕ, Bool, true, false, List, [], ◌∷◌, ◌++◌, append_assoc, append-nil, refl, sym}
use Rattle.std.proofs.Common.{ap, ◌∙◌}
use Rattle.std.specs.Prelude.{Option, Some, None, codes, cond}
use Rattle.json.specs.Token.{Token}
use Rattle.nla_wire.specs.Frames.{Frame, number}
use Rattle.shown.specs.Drafts.{Members}
use Rattle.frame_shown.specs.Tables.{row_in, lists_in}
use Rattle.frame_shown.specs.declared.form.List.{List as Shape}
use Rattle.frame_diff.specs.Beside.{held_of}
use Rattle.frame_diff.specs.Forests.{Forest, Held, Member, Step, comes, find, forest, is_label, is_step, is_text}
use Rattle.frame_diff.specs.Items.{further, items_told, joined}
use Rattle.frame_diff.specs.Members.{Reading, earlier, kept_in, kept_inside, list_at, list_by, members_in, named_in}
use Rattle.frame_diff.specs.Members.{places}
use Rattle.frame_diff.specs.Members.{is_unnamed, array_at, arrays_in, arrays_of, inside_with, unless_none}
use Rattle.frame_diff.specs.Members.{values_with}
use Rattle.frame_diff.specs.Walked.{held_items, last_items, step_items}
use Rattle.frame_diff.specs.declared.side.Side.{Side}
use Rattle.frame_diff.proofs.Apart.{find_none}
use Rattle.frame_diff.proofs.Beside.{found_last, last_at, or_else, or_none}
use Rattle.frame_diff.proofs.Steps.{step_is}
use Rattle.frame_diff.proofs.Walked.{last_further, plain_items}
use Rattle.frame_shown.specs.Items.{Lists}
use Rattle.std.specs.List.{AllByRecursion}
use Rattle.frame_diff.specs.Forests.{runs_inside}
use Rattle.frame_diff.specs.Labels.{labelled, labels_of}
use Rattle.frame_diff.specs.Members.{kept_with, numbers_by, placed}
use Rattle.frame_diff.specs.declared.keys.Key.TheVariants as Keys
use Rattle.frame_diff.proofs.Apart.{no_runs}
use Rattle.frame_diff.specs.Items.{list_items, moved_items, piece_items}
use Rattle.frame_diff.specs.Keyed.{held_unless, list_beside}
use Rattle.frame_diff.specs.Members.{value_in}
use Rattle.frame_diff.specs.Sides.{is_moved}
use Rattle.frame_diff.proofs.Walked.{not_loose}
use Rattle.shown.specs.Drafts.{list_of}
use Rattle.std.specs.List.{flat_map}
use Rattle.link_vlans.specs.Pieces.{pieces_of}
use Rattle.frame_diff.specs.Members.{is_own_key}

-- ** what stands at a step

last_front : (s : Step) (ms more : List Member) → comes s more ≡ false → last_at s (ms ++ more) ≡ last_at s ms
last_front s [] more none = sym (found_last s more) ∙ find_none s more none
last_front s (m ∷ ms) more none =
    ap (λ l. or_else l (cond (is_step m.0 s) (Some m.1) None)) (last_front s ms more none)

last_back : (s : Step) (ms more : List Member) → comes s ms ≡ false → last_at s (ms ++ more) ≡ last_at s more
last_back s [] more none = refl
last_back s (m ∷ ms) more none = by (is_step m.0 s) none (last_back s ms more)
  where
    by : (b : Bool) → cond b true (comes s ms) ≡ false
        → (comes s ms ≡ false → last_at s (ms ++ more) ≡ last_at s more)
        → or_else (last_at s (ms ++ more)) (cond b (Some m.1) None) ≡ last_at s more
    by true h later = absurd cc
    by false h later = or_none (last_at s (ms ++ more)) ∙ later h

find_front : (s : Step) (ms more : List Member) → comes s more ≡ false
    → find s (forest (ms ++ more)) ≡ find s (forest ms)
find_front s ms more none = found_last s (ms ++ more) ∙ last_front s ms more none ∙ sym (found_last s ms)

pub find_back : (s : Step) (ms more : List Member) → comes s ms ≡ false
    → find s (forest (ms ++ more)) ≡ find s (forest more)
find_back s ms more none = found_last s (ms ++ more) ∙ last_back s ms more none ∙ sym (found_last s more)

-- ** what they tell

-- no step of the first ones is one of the others
abbrev pub NoneComes : List Member → List Member → Type 0
NoneComes [] ys = Unit {0}
NoneComes (x ∷ xs) ys = (comes x.0 ys ≡ false) × NoneComes xs ys

pub comes_append : (s : Step) (xs ys : List Member) → comes s ys ≡ false → comes s (xs ++ ys) ≡ comes s xs
comes_append s [] ys none = none
comes_append s (x ∷ xs) ys none = ap (λ b. cond (is_step x.0 s) true b) (comes_append s xs ys none)

module _ (side : Side) (text : List ℕ) where
  abbrev one : Forest → List Member → Member → List Members
  one others behind m = last_items side text behind m (find m.0 others)

  pub told_parts : (others : Forest) (ms more : List Member) → NoneComes ms more
      → items_told side text (forest (ms ++ more)) others
      ≡ items_told side text (forest ms) others ++ items_told side text (forest more) others
  told_parts others [] more none = refl
  told_parts others (m ∷ ms) more none =
      let front = one others ms m in
      last_further side text others m (ms ++ more)
      ∙ (λ k. cond (comes_append m.0 ms more none.0 k) [] (step_items side text m.0 m.1 (find m.0 others))
      ++ told_parts others ms more none.1 k)
      ∙ sym (append_assoc front (items_told side text (forest ms) others) (items_told side text (forest more) others))
      ∙ ap (λ l. l ++ items_told side text (forest more) others) (sym (last_further side text others m ms))

  -- beside the front part
  told_front : (ms ns more : List Member) → NoneComes ms more
      → items_told side text (forest ms) (forest (ns ++ more)) ≡ items_told side text (forest ms) (forest ns)
  told_front [] ns more none = refl
  told_front (m ∷ ms) ns more none =
      last_further side text (forest (ns ++ more)) m ms
      ∙ (λ k. last_items side text ms m (find_front m.0 ns more none.0 k) ++ told_front ms ns more none.1 k)
      ∙ sym (last_further side text (forest ns) m ms)

  -- beside the part behind
  told_back : (ms ns more : List Member) → NoneComes ms ns
      → items_told side text (forest ms) (forest (ns ++ more)) ≡ items_told side text (forest ms) (forest more)
  told_back [] ns more none = refl
  told_back (m ∷ ms) ns more none =
      last_further side text (forest (ns ++ more)) m ms
      ∙ (λ k. last_items side text ms m (find_back m.0 ns more none.0 k) ++ told_back ms ns more none.1 k)
      ∙ sym (last_further side text (forest more) m ms)

  pub both_parts : (ms more ns others : List Member) → NoneComes ms more → NoneComes ms others → NoneComes more ns
      → items_told side text (forest (ms ++ more)) (forest (ns ++ others))
      ≡ items_told side text (forest ms) (forest ns) ++ items_told side text (forest more) (forest others)
  both_parts ms more ns others apart front back =
      told_parts (forest (ns ++ others)) ms more apart
      ∙ (λ k. told_front ms ns others front k ++ told_back more ns others back k)

-- ** the parts of a list of attributes

-- they are at names
abbrev pub AreNames : List Member → Type 0
AreNames [] = Unit {0}
AreNames (m ∷ ms) = ((name : List ℕ) × (m.0 ≡ Step.name name)) × AreNames ms

-- and this step is none
abbrev pub IsNoName : Step → Type 0
IsNoName s = (name : List ℕ) → (is_step s (Step.name name) ≡ false) × (is_step (Step.name name) s ≡ false)

pub named_names : (r : Reading) (list : Shape) (fs : List Frame) → AreNames (named_in r list fs)
named_names r list [] = tt
named_names r list (f ∷ fs) =
    by (is_unnamed (row_in r.around list (number f)).1 f.payload) (named_names r list fs)
  where
    by : (kept : Bool) → AreNames (named_in r list fs)
        → AreNames (cond kept [] ((Step.name (row_in r.around list (number f)).0, held_of r list f) ∷ [])
        ++ named_in r list fs)
    by true later = later
    by false later = (((row_in r.around list (number f)).0, refl), later)

-- they are at lists of values
abbrev pub AreArrays : List Member → Type 0
AreArrays [] = Unit {0}
AreArrays (m ∷ ms) = ((name : List ℕ) × (m.0 ≡ Step.array name)) × AreArrays ms

-- and this step is none
abbrev pub IsNoArray : Step → Type 0
IsNoArray s = (name : List ℕ) → (is_step s (Step.array name) ≡ false) × (is_step (Step.array name) s ≡ false)

arrays_append : (xs ys : List Member) → AreArrays xs → AreArrays ys → AreArrays (xs ++ ys)
arrays_append [] ys h k = k
arrays_append (x ∷ xs) ys h k = (h.0, arrays_append xs ys h.1 k)

array_array : (name : List ℕ) (own : Bool) (hs : List (Option Held)) (inside : Forest)
    → AreArrays (array_at name own hs inside)
array_array name own [] inside = tt
array_array name own (h ∷ hs) inside = ((name, refl), tt)

pub arrays_arrays : (r : Reading) (list : Shape) (lists : Lists) (fs : List Frame)
    → AreArrays (arrays_of r list lists fs)
arrays_arrays r list [] fs = tt
arrays_arrays r list (l ∷ lists) fs =
    let hs = values_with r list l.0 fs in
    let inside = inside_with r list l.0 fs in
    let own = is_own_key (Some l.0) list in
    arrays_append (array_at l.1 own hs inside) (arrays_of r list lists fs) (array_array l.1 own hs inside)
    (arrays_arrays r list lists fs)

pub list_lacks : (t s : Step) (hs : List (Option Held)) (inside : Forest) → is_step s t ≡ false
    → comes t (list_by s hs inside) ≡ false
list_lacks t s hs Forest.none other = refl
list_lacks t s hs Forest.passed other = refl
list_lacks t s hs (Forest.vlans runs) other = refl
list_lacks t s hs (Forest.texts vs) other = refl
list_lacks t s hs (Forest.tree a b c d) other = ap (λ x. cond x true false) other

pub names_lack : (ms : List Member) (s : Step) (hs : List (Option Held)) (inside : Forest) → AreNames ms → IsNoName s
    → NoneComes ms (list_by s hs inside)
names_lack [] s hs inside names none = tt
names_lack (m ∷ ms) s hs inside names none = (
  list_lacks m.0 s hs inside (ap (is_step s) names.0.1 ∙ (none names.0.0).0),
  names_lack ms s hs inside names.1 none,
)

no_names : (s : Step) (ms : List Member) → AreNames ms → IsNoName s → comes s ms ≡ false
no_names s [] names none = refl
no_names s (m ∷ ms) names none =
    ap (λ t. cond (is_step t s) true (comes s ms)) names.0.1
    ∙ ap (λ b. cond b true (comes s ms)) (none names.0.0).1
    ∙ no_names s ms names.1 none

pub list_lacks_names : (s : Step) (hs : List (Option Held)) (inside : Forest) (ms : List Member) → AreNames ms
    → IsNoName s → NoneComes (list_by s hs inside) ms
list_lacks_names s hs Forest.none ms names none = tt
list_lacks_names s hs Forest.passed ms names none = tt
list_lacks_names s hs (Forest.vlans runs) ms names none = tt
list_lacks_names s hs (Forest.texts vs) ms names none = tt
list_lacks_names s hs (Forest.tree a b c d) ms names none = (no_names s ms names none, tt)

pub lists_lack : (s t : Step) (hs gs : List (Option Held)) (inside other : Forest) → is_step t s ≡ false
    → NoneComes (list_by s hs inside) (list_by t gs other)
lists_lack s t hs gs Forest.none other apart = tt
lists_lack s t hs gs Forest.passed other apart = tt
lists_lack s t hs gs (Forest.vlans runs) other apart = tt
lists_lack s t hs gs (Forest.texts vs) other apart = tt
lists_lack s t hs gs (Forest.tree a b c d) other apart = (list_lacks s t gs other apart, tt)

-- no name is a list of values
no_arrays : (s : Step) (ms : List Member) → AreArrays ms → IsNoArray s → comes s ms ≡ false
no_arrays s [] arrays none = refl
no_arrays s (m ∷ ms) arrays none =
    ap (λ t. cond (is_step t s) true (comes s ms)) arrays.0.1
    ∙ ap (λ b. cond b true (comes s ms)) (none arrays.0.0).1
    ∙ no_arrays s ms arrays.1 none

pub names_lack_arrays : (ms lists : List Member) → AreNames ms → AreArrays lists → NoneComes ms lists
names_lack_arrays [] lists names arrays = tt
names_lack_arrays (m ∷ ms) lists names arrays = (
  ap (λ s. comes s lists) names.0.1 ∙ no_arrays (Step.name names.0.0) lists arrays (λ name. (refl, refl)),
  names_lack_arrays ms lists names.1 arrays,
)

pub arrays_lack_names : (lists ms : List Member) → AreArrays lists → AreNames ms → NoneComes lists ms
arrays_lack_names [] ms arrays names = tt
arrays_lack_names (l ∷ lists) ms arrays names = (
  ap (λ s. comes s ms) arrays.0.1 ∙ no_names (Step.array arrays.0.0) ms names (λ name. (refl, refl)),
  arrays_lack_names lists ms arrays.1 names,
)

pub arrays_lack : (ms : List Member) (s : Step) (hs : List (Option Held)) (inside : Forest) → AreArrays ms
    → IsNoArray s → NoneComes ms (list_by s hs inside)
arrays_lack [] s hs inside arrays none = tt
arrays_lack (m ∷ ms) s hs inside arrays none = (
  list_lacks m.0 s hs inside (ap (is_step s) arrays.0.1 ∙ (none arrays.0.0).0),
  arrays_lack ms s hs inside arrays.1 none,
)

pub list_lacks_arrays : (s : Step) (hs : List (Option Held)) (inside : Forest) (ms : List Member) → AreArrays ms
    → IsNoArray s → NoneComes (list_by s hs inside) ms
list_lacks_arrays s hs Forest.none ms arrays none = tt
list_lacks_arrays s hs Forest.passed ms arrays none = tt
list_lacks_arrays s hs (Forest.vlans runs) ms arrays none = tt
list_lacks_arrays s hs (Forest.texts vs) ms arrays none = tt
list_lacks_arrays s hs (Forest.tree a b c d) ms arrays none = (no_arrays s ms arrays none, tt)

-- no list of a name is among those of other names
array_lacks : (s : Step) (name : List ℕ) (own : Bool) (hs : List (Option Held)) (inside : Forest)
    → is_step (Step.array name) s ≡ false → comes s (array_at name own hs inside) ≡ false
array_lacks s name own [] inside other = refl
array_lacks s name own (h ∷ hs) inside other = ap (λ b. cond b true false) other

pub lists_lack_name : (r : Reading) (list : Shape) (name : List ℕ) (lists : Lists) (fs : List Frame)
    → AllByRecursion (λ m. is_text m.1 name ≡ false) lists
    → comes (Step.array name) (arrays_of r list lists fs) ≡ false
lists_lack_name r list name [] fs none = refl
lists_lack_name r list name (l ∷ lists) fs none =
    let hs = values_with r list l.0 fs in
    let inside = inside_with r list l.0 fs in
    let own = is_own_key (Some l.0) list in
    comes_append (Step.array name) (array_at l.1 own hs inside) (arrays_of r list lists fs)
    (lists_lack_name r list name lists fs none.1)
    ∙ array_lacks (Step.array name) l.1 own hs inside none.0

pub array_apart : (r : Reading) (list : Shape) (name : List ℕ) (own : Bool) (hs : List (Option Held)) (inside : Forest)
    (lists : Lists) (fs : List Frame) → AllByRecursion (λ m. is_text m.1 name ≡ false) lists
    → NoneComes (array_at name own hs inside) (arrays_of r list lists fs)
array_apart r list name own [] inside lists fs none = tt
array_apart r list name own (h ∷ hs) inside lists fs none = (lists_lack_name r list name lists fs none, tt)

-- beside members that are all passed over as beside none
pub lacking : (side : Side) (text : List ℕ) (f : Forest)
    → items_told side text f Forest.none ≡ items_told side text f Forest.passed
lacking side text Forest.none = refl
lacking side text Forest.passed = refl
lacking side text (Forest.vlans runs) = refl
lacking side text (Forest.texts vs) = refl
lacking side text (Forest.tree s v i rest) =
    ap (λ l. step_items side text s (v, i) None ++ l) (lacking side text rest)

-- and beside a list without VLANs
lacking_vlans : (side : Side) (text : List ℕ) (f : Forest)
    → items_told side text f Forest.none ≡ items_told side text f (Forest.vlans [])
lacking_vlans side text Forest.none = refl
lacking_vlans side text Forest.passed = refl
lacking_vlans side text (Forest.vlans runs) = refl
lacking_vlans side text (Forest.texts vs) = refl
lacking_vlans side text (Forest.tree s v i rest) =
    ap (λ l. step_items side text s (v, i) None ++ l) (lacking_vlans side text rest)

-- and beside texts
lacking_texts : (side : Side) (text : List ℕ) (vs : List (List Token)) (f : Forest)
    → items_told side text f Forest.none ≡ items_told side text f (Forest.texts vs)
lacking_texts side text vs Forest.none = refl
lacking_texts side text vs Forest.passed = refl
lacking_texts side text vs (Forest.vlans runs) = refl
lacking_texts side text vs (Forest.texts ws) = refl
lacking_texts side text vs (Forest.tree s v i rest) =
    ap (λ l. step_items side text s (v, i) None ++ l) (lacking_texts side text vs rest)

-- no VLANs tell nothing
no_runs_told : (side : Side) (text : List ℕ) (g : Forest) → items_told side text (Forest.vlans []) g ≡ []
no_runs_told side text g = by (is_moved side)
  where
    by : (m : Bool) → cond m [] (flat_map (piece_items side text) (pieces_of [] (runs_inside g))) ≡ []
    by true = refl
    by false = refl

-- a member at one step tells what those inside it tell, unless it is told as a whole
pub unless_told : (side : Side) (text : List ℕ) (s : Step) (v w : List Token) (f g : Forest) → is_label s ≡ false
    → runs_inside f ≡ [] → runs_inside g ≡ []
    → items_told side text (forest (unless_none s v f)) (forest (unless_none s w g))
    ≡ list_items side (further text s) s v f (held_unless w g) ++ items_told side (further text s) f g
unless_told side text s v w Forest.none g plain none none_too =
    sym (ap (λ os. os ++ []) (not_loose side (further text s) s v Forest.none (held_unless w g) refl))
unless_told side text s v w Forest.passed g plain none none_too =
    sym (ap (λ os. os ++ []) (not_loose side (further text s) s v Forest.passed (held_unless w g) refl))
unless_told side text s v w (Forest.vlans runs) g plain none none_too =
    let path = further text s in
    sym (ap (λ rs. list_items side path s v (Forest.vlans rs) (held_unless w g)
    ++ items_told side path (Forest.vlans rs) g) none
    ∙ (λ k. not_loose side path s v (Forest.vlans []) (held_unless w g) refl k ++ no_runs_told side path g k))
unless_told side text s v w (Forest.texts vs) g plain none none_too =
    sym (ap (λ os. os ++ []) (not_loose side (further text s) s v (Forest.texts vs) (held_unless w g) refl))
unless_told side text s v w (Forest.tree a b c d) (Forest.vlans runs) plain none none_too =
    let held : Held = (v, Forest.tree a b c d) in
    append-nil (step_items side text s held None) ∙ plain_items side text s held None plain
    ∙ ap (λ os. list_items side (further text s) s v (Forest.tree a b c d) None ++ os)
    (lacking_vlans side (further text s) (Forest.tree a b c d)
    ∙ sym (ap (λ rs. items_told side (further text s) (Forest.tree a b c d) (Forest.vlans rs)) none_too))
unless_told side text s v w (Forest.tree a b c d) (Forest.texts vs) plain none none_too =
    let held : Held = (v, Forest.tree a b c d) in
    append-nil (step_items side text s held None) ∙ plain_items side text s held None plain
    ∙ ap (λ os. list_items side (further text s) s v (Forest.tree a b c d) None ++ os)
    (lacking_texts side (further text s) vs (Forest.tree a b c d))
unless_told side text s v w (Forest.tree a b c d) Forest.none plain none none_too =
    let held : Held = (v, Forest.tree a b c d) in
    append-nil (step_items side text s held None) ∙ plain_items side text s held None plain
unless_told side text s v w (Forest.tree a b c d) Forest.passed plain none none_too =
    let held : Held = (v, Forest.tree a b c d) in
    append-nil (step_items side text s held None) ∙ plain_items side text s held None plain
    ∙ ap (λ os. list_items side (further text s) s v (Forest.tree a b c d) None ++ os)
    (lacking side (further text s) (Forest.tree a b c d))
unless_told side text s v w (Forest.tree a b c d) (Forest.tree p q x y) plain none none_too =
    let held : Held = (v, Forest.tree a b c d) in
    let beside = cond (is_step s s) (Some (w, Forest.tree p q x y)) None in
    append-nil (step_items side text s held beside) ∙ plain_items side text s held beside plain
    ∙ ap (λ e. let other = cond e (Some (w, Forest.tree p q x y)) None in
    list_items side (further text s) s v (Forest.tree a b c d) other ++ held_items side (further text s) held other)
    (step_is s)

-- a list of values tells what those in it tell
pub list_told : (side : Side) (text : List ℕ) (s : Step) (hs gs : List (Option Held)) (inside other : Forest)
    → is_label s ≡ false → runs_inside inside ≡ [] → runs_inside other ≡ []
    → items_told side text (forest (list_by s hs inside)) (forest (list_by s gs other))
    ≡ list_items side (further text s) s (list_of (flat_map value_in hs)) inside (list_beside gs other)
    ++ items_told side (further text s) inside other
list_told side text s hs gs inside other plain none none_too =
    unless_told side text s _ _ inside other plain none none_too

-- ** the members of a list of attributes

pub both_lack : (xs ys zs : List Member) → NoneComes xs zs → NoneComes ys zs → NoneComes (xs ++ ys) zs
both_lack [] ys zs h k = k
both_lack (x ∷ xs) ys zs h k = (h.0, both_lack xs ys zs h.1 k)

pub lacks_both : (xs ys zs : List Member) → NoneComes xs ys → NoneComes xs zs → NoneComes xs (ys ++ zs)
lacks_both [] ys zs h k = tt
lacks_both (x ∷ xs) ys zs h k = (comes_append x.0 ys zs k.0 ∙ h.0, lacks_both xs ys zs h.1 k.1)

no_name_again : IsNoName Step.repeated
no_name_again name = (refl, refl)

no_name_other : IsNoName Step.other
no_name_other name = (refl, refl)

no_array_again : IsNoArray Step.repeated
no_array_again name = (refl, refl)

no_array_other : IsNoArray Step.other
no_array_other name = (refl, refl)

kept_runless : (r : Reading) (list : Shape) (fs : List Frame) → runs_inside (kept_inside r list fs) ≡ []
kept_runless r list fs = no_runs (labelled Keys.Number
    (labels_of (numbers_by (λ f. Some (number f)) (kept_with r list) fs)) (kept_in r list fs))

pub members_told : (r s : Reading) (list shape : Shape) (fs gs : List Frame) (side : Side) (text : List ℕ)
    → items_told side text (forest (members_in r list fs)) (forest (members_in s shape gs))
    ≡ items_told side text (forest (named_in r list fs)) (forest (named_in s shape gs))
    ++ (items_told side text (forest (arrays_in r list fs)) (forest (arrays_in s shape gs))
    ++ (items_told side (joined text (codes "repeated")) (places (earlier (named_in r list fs)))
    (places (earlier (named_in s shape gs)))
    ++ (moved_items side (joined text (codes "other")) (list_of (flat_map value_in (kept_in r list fs)))
    (kept_inside r list fs) (list_beside (kept_in s shape gs) (kept_inside s shape gs))
    ++ items_told side (joined text (codes "other")) (kept_inside r list fs) (kept_inside s shape gs))))
members_told r s list shape fs gs side text =
    let ms = named_in r list fs in
    let ns = named_in s shape gs in
    let names = named_names r list fs in
    let names_too = named_names s shape gs in
    let lists = arrays_in r list fs in
    let lists_too = arrays_in s shape gs in
    let are = arrays_arrays r list (lists_in r.around list) fs in
    let are_too = arrays_arrays s shape (lists_in s.around shape) gs in
    let again = list_at Step.repeated (earlier ms) in
    let again_too = list_at Step.repeated (earlier ns) in
    let hs = kept_in r list fs in
    let hs_too = kept_in s shape gs in
    let inside = kept_inside r list fs in
    let inside_too = kept_inside s shape gs in
    let kept = list_by Step.other hs inside in
    let kept_too = list_by Step.other hs_too inside_too in
    let told = items_told side text (forest ms) (forest ns) in
    let told_lists = items_told side text (forest lists) (forest lists_too) in
    let told_again = items_told side text (forest again) (forest again_too) in
    let told_kept = items_told side text (forest kept) (forest kept_too) in
    both_parts side text (ms ++ lists ++ again) kept (ns ++ lists_too ++ again_too) kept_too
    (both_lack (ms ++ lists) again kept
    (both_lack ms lists kept (names_lack ms Step.other hs inside names no_name_other)
    (arrays_lack lists Step.other hs inside are no_array_other))
    (lists_lack Step.repeated Step.other (earlier ms) hs (places (earlier ms)) inside refl))
    (both_lack (ms ++ lists) again kept_too
    (both_lack ms lists kept_too (names_lack ms Step.other hs_too inside_too names no_name_other)
    (arrays_lack lists Step.other hs_too inside_too are no_array_other))
    (lists_lack Step.repeated Step.other (earlier ms) hs_too (places (earlier ms)) inside_too refl))
    (lacks_both kept (ns ++ lists_too) again_too
    (lacks_both kept ns lists_too (list_lacks_names Step.other hs inside ns names_too no_name_other)
    (list_lacks_arrays Step.other hs inside lists_too are_too no_array_other))
    (lists_lack Step.other Step.repeated hs (earlier ns) inside (places (earlier ns)) refl))
    ∙ ap (λ l. l ++ told_kept)
    (both_parts side text (ms ++ lists) again (ns ++ lists_too) again_too
    (both_lack ms lists again (names_lack ms Step.repeated (earlier ms) (places (earlier ms)) names no_name_again)
    (arrays_lack lists Step.repeated (earlier ms) (places (earlier ms)) are no_array_again))
    (both_lack ms lists again_too (names_lack ms Step.repeated (earlier ns) (places (earlier ns)) names no_name_again)
    (arrays_lack lists Step.repeated (earlier ns) (places (earlier ns)) are no_array_again))
    (lacks_both again ns lists_too
    (list_lacks_names Step.repeated (earlier ms) (places (earlier ms)) ns names_too no_name_again)
    (list_lacks_arrays Step.repeated (earlier ms) (places (earlier ms)) lists_too are_too no_array_again)))
    ∙ ap (λ l. l ++ told_again ++ told_kept)
    (both_parts side text ms lists ns lists_too (names_lack_arrays ms lists names are)
    (names_lack_arrays ms lists_too names are_too) (arrays_lack_names lists ns are names_too))
    ∙ append_assoc (told ++ told_lists) told_again told_kept
    ∙ append_assoc told told_lists (told_again ++ told_kept)
    ∙ (λ k. told ++ (told_lists
    ++ (list_told side text Step.repeated (earlier ms) (earlier ns) (places (earlier ms)) (places (earlier ns)) refl
    (no_runs (placed 0 (earlier ms))) (no_runs (placed 0 (earlier ns))) k
    ++ list_told side text Step.other hs hs_too inside inside_too refl (kept_runless r list fs)
    (kept_runless s shape gs) k)))
