-- One attribute further.
use Rattle.std.proofs.Common.{◌≡◌, ℕ, ◌+◌, Bool, true, false, List, [], ◌∷◌, ◌++◌, length, drop, refl, sym, ap, ◌∙◌}
use Rattle.std.proofs.Common.{Ok, Err, Option, Some, None, eq-eqb, eqb-true, subst}
use Rattle.std.specs.Prelude.{◌==◌, ◌&&◌, ◌||◌, IfSome, cond, not, option_map}
use Rattle.json.specs.Token.{Token}
use Rattle.std.specs.List.{list_any}
use Rattle.std.proofs.lemmas.List.{map-append}
use Rattle.nla_wire.specs.Frames.{Frame, missing, number}
use Rattle.nla_wire.specs.Items.{Item, items}
use Rattle.nla_wire.specs.Reading.{front, step}
use Rattle.nla_wire.specs.Reading.Step.{End, Bad, Next}
use Rattle.nla_wire.specs.Reading as Cuts
use Rattle.nla_wire.proofs.Front.{first_comes}
use Rattle.nla_wire.proofs.Items.{items_bad, items_next, items_nil}
use Rattle.nla_wire.proofs.Steps.{step_end}
use Rattle.link_info.specs.Tables.{frames_in}
use Rattle.shown.specs.Drafts.{Draft, object_of, with_members}
use Rattle.frame_shown.specs.Items.{objects}
use Rattle.frame_shown.specs.Tables.{row_in}
use Rattle.frame_shown.specs.declared.form.Around.{Around}
use Rattle.frame_shown.specs.declared.form.List.{List as Shape}
use Rattle.frame_shown.proofs.Items.{on_next}
use Rattle.frame_diff.specs.Beside.{held_of, is_named}
use Rattle.frame_diff.specs.Counters.{action_in}
use Rattle.frame_diff.specs.Forests.{AreApart, Forest, Held, Member, Step, comes, find, forest, is_label, is_text}
use Rattle.frame_diff.specs.Differences.{text_of}
use Rattle.frame_diff.specs.Items.{further, items_told, leaf_items, member_items, turned_item}
use Rattle.frame_diff.specs.Members.{Reading, held_by, is_unnamed, named_in}
use Rattle.frame_diff.specs.Walked.{AreAlike, HasNames, HasRowOf, Holding, HoldsApart, IsOf, Showing, frame_items}
use Rattle.frame_diff.specs.Walked.{AreBeside, HasRowByNumber, StandBeside, is_row_alike}
use Rattle.frame_diff.specs.Walked.{has_payload, held_at, held_items, last_items, reading_at, step_items}
use Rattle.frame_diff.specs.Wholes.{is_alone}
use Rattle.frame_diff.specs.declared.side.Side.{Side}
use Rattle.frame_diff.specs.declared.side.Side.TheVariants.{Old, New}
use Rattle.frame_diff.specs.declared.walk.Attribute.{Attribute}
use Rattle.frame_diff.specs.declared.walk.Attributes.{Attributes}
use Rattle.frame_diff.proofs.Apart.{held_apart as inside_apart}
use Rattle.frame_diff.proofs.Silent.{Has, found_first, rest_has}
use Rattle.frame_diff.proofs.Steps.{text_is, text_same}
use Rattle.std.proofs.Common.{inl, inr}
use Rattle.std.specs.Prelude.{◌⊎◌}
use Rattle.std.specs.List.{flat_map}
use Rattle.link_vlans.proofs.Silent.{silent}
use Rattle.frame_diff.specs.Forests.{runs_inside}
use Rattle.frame_diff.specs.Items.{piece_items}
use Rattle.frame_diff.specs.Items.{is_list, is_loose, list_items, runs_items, texts_by, whole_items}
use Rattle.frame_diff.specs.Sides.{is_moved}
use Rattle.shown.specs.Drafts.{Members}
use Rattle.frame_diff.specs.declared.side.Side.TheVariants.{Moved}

-- ** bytes behind a frame

front_is : (b : List ℕ) (s : Cuts.Step) (f : Frame) (rest : List Item) → step b ≡ s → items b ≡ Ok f ∷ rest
    → front s ≡ Ok f
front_is b End f rest e h =
    let none : [] ≡ Ok f ∷ rest = sym items_nil ∙ ap items (sym (step_end b e)) ∙ h in absurd cc
front_is b (Bad c) f rest e h = let fault : Err c ∷ [] ≡ Ok f ∷ rest = sym (items_bad b c e) ∙ h in absurd cc
front_is b (Next g p) f rest e h = let same : Ok g ∷ items p ≡ Ok f ∷ rest = sym (items_next b g p e) ∙ h in cc

pub behind_first : (b : List ℕ) (f : Frame) (rest : List Item) (n : ℕ) → n ≡ 4 + length f.payload
    + missing (length f.payload) → items b ≡ Ok f ∷ rest → items (drop n b) ≡ rest
behind_first b f rest n is h =
    let comes : items b ≡ Ok f ∷ items (drop (4 + length f.payload + missing (length f.payload)) b) =
    first_comes b f (front_is b (step b) f rest refl h) in
    let both : Ok f ∷ items (drop (4 + length f.payload + missing (length f.payload)) b) ≡ Ok f ∷ rest =
    sym comes ∙ h in
    let last : items (drop (4 + length f.payload + missing (length f.payload)) b) ≡ rest = cc in
    ap (λ k. items (drop k b)) is ∙ last

-- ** whether another one of a name comes

pub comes_named : (r : Reading) (list : Shape) (name : List ℕ) (fs : List Frame)
    → list_any (is_named r.around list name) fs ≡ comes (Step.name name) (named_in r list fs)
comes_named r list name [] = refl
comes_named r list name (f ∷ fs) =
    by (is_unnamed (row_in r.around list (number f)).1 f.payload)
    (is_text (row_in r.around list (number f)).0 name) refl
    (comes_named r list name fs)
  where
    behind : List Member
    behind = named_in r list fs

    member : Bool → List Member
    member kept = cond kept [] ((Step.name (row_in r.around list (number f)).0, held_of r list f) ∷ [])

    by : (kept same : Bool) → is_text (row_in r.around list (number f)).0 name ≡ same
        → list_any (is_named r.around list name) fs ≡ comes (Step.name name) behind
        → (not kept && same || list_any (is_named r.around list name) fs)
        ≡ comes (Step.name name) (member kept ++ behind)
    by true same is later = later
    by false true is later = sym (ap (λ b. cond b true (comes (Step.name name) behind)) is)
    by false false is later = later ∙ sym (ap (λ b. cond b true (comes (Step.name name) behind)) is)

-- ** a value that is not told as a whole

-- one at a step that is no label
pub plain_items : (side : Side) (text : List ℕ) (s : Step) (held : Held) (beside : Option Held) → is_label s ≡ false
    → step_items side text s held beside
    ≡ list_items side (further text s) s held.0 held.1 beside ++ held_items side (further text s) held beside
plain_items side text s held beside plain =
    let path = further text s in
    ap (λ b. list_items side path s held.0 held.1 beside
    ++ member_items side path held.0 (cond (b && is_alone beside) Forest.none held.1)
    (items_told side path held.1) beside) plain

-- one beside which another one stands
pub beside_items : (side : Side) (text : List ℕ) (s : Step) (held other : Held)
    → step_items side text s held (Some other) ≡ list_items side (further text s) s held.0 held.1 (Some other)
    ++ held_items side (further text s) held (Some other)
beside_items side text s held other =
    ap (λ os. list_items side path s held.0 held.1 (Some other) ++ os) (by (is_label s))
  where
    path : List ℕ
    path = further text s

    by : (b : Bool)
        → member_items side path held.0 (cond (b && false) Forest.none held.1) (items_told side path held.1)
        (Some other) ≡ held_items side path held (Some other)
    by true = refl
    by false = refl

-- a list whose values have places, or are texts, is not told as a whole
pub not_loose : (side : Side) (text : List ℕ) (s : Step) (v : List Token) (i : Forest) (beside : Option Held)
    → is_loose i ≡ false → list_items side text s v i beside ≡ []
not_loose side text s v i beside none =
    ap (λ o. cond (is_list s) (cond (is_moved side) (whole_items o text v beside) []) []) none
    ∙ by (is_list s) (is_moved side) beside
  where
    by : (l m : Bool) (b : Option Held) → cond l (cond m (whole_items false text v b) []) [] ≡ []
    by true true None = refl
    by true true (Some held) = refl
    by true false b = refl
    by false m b = refl

-- ** what one attribute tells, and those behind it

pub last_further : (side : Side) (text : List ℕ) (others : Forest) (m : Member) (ms : List Member)
    → items_told side text (forest (m ∷ ms)) others
    ≡ last_items side text ms m (find m.0 others) ++ items_told side text (forest ms) others
last_further side text others m ms = by (comes m.0 ms)
  where
    by : (b : Bool)
        → items_told side text (cond b (forest ms) (Forest.tree m.0 m.1.0 m.1.1 (forest ms))) others
        ≡ cond b [] (step_items side text m.0 m.1 (find m.0 others))
        ++ items_told side text (forest ms) others
    by true = refl
    by false = refl

pub frame_further : (side : Side) (text : List ℕ) (r : Reading) (list : Shape) (others : Forest) (f : Frame)
    (fs : List Frame)
    → items_told side text (forest (named_in r list (f ∷ fs))) others
    ≡ frame_items side text r list others (named_in r list fs) f
    ++ items_told side text (forest (named_in r list fs)) others
frame_further side text r list others f fs =
    by (is_unnamed (row_in r.around list (number f)).1 f.payload)
  where
    behind : List Member
    behind = named_in r list fs

    own : Member
    own = (Step.name (row_in r.around list (number f)).0, held_of r list f)

    by : (kept : Bool)
        → items_told side text (forest (cond kept [] (own ∷ []) ++ behind)) others
        ≡ cond kept [] (last_items side text behind own (find own.0 others))
        ++ items_told side text (forest behind) others
    by true = refl
    by false = last_further side text others own behind

pub named_next : (side : Side) (text : List ℕ) (r : Reading) (list : Shape) (others : Forest) (f : Frame)
    (it next : List Item) (here : it ≡ Ok f ∷ next) (left : List ℕ) (page new all : Draft) → items left ≡ next
    → new ≡ with_members (objects (frame_items side text r list others (named_in r list (frames_in (items left))) f))
    page
    → with_members (objects (items_told side text (forest (named_in r list (frames_in it))) others)) page ≡ all
    → with_members (objects (items_told side text (forest (named_in r list (frames_in next))) others)) new ≡ all
named_next side text r list others f it next here left page new all is then was =
    let told = frame_items side text r list others (named_in r list (frames_in next)) f in
    let more = items_told side text (forest (named_in r list (frames_in next))) others in
    on_next (objects (items_told side text (forest (named_in r list (frames_in it))) others)) (objects told)
    (objects more) page new all
    (ap (λ xs. objects (items_told side text (forest (named_in r list (frames_in xs))) others)) here
    ∙ ap objects (frame_further side text r list others f (frames_in next))
    ∙ map-append (λ o. ([], object_of o)) told more)
    was
    (then
    ∙ ap (λ xs. with_members (objects (frame_items side text r list others (named_in r list (frames_in xs)) f)) page)
    is)

-- ** a value beside the same

leaf_same : (side : Side) (text : List ℕ) (v : List Token) → leaf_items side text v (Some v) ≡ []
leaf_same Old text v = ap (λ b. cond b [] (turned_item text v v ∷ [])) (text_is (text_of v))
leaf_same New text v = refl
leaf_same Moved text v = refl

-- nothing, whether lists in another order are told or not
none_told : (side : Side) (m : Bool) → cond {A = List Members} m [] [] ≡ []
none_told side true = refl
none_told side false = refl

-- a list beside the same
list_same : (side : Side) (text : List ℕ) (s : Step) (v : List Token) (i : Forest) (held : Held) → held.0 ≡ v
    → list_items side text s v i (Some held) ≡ []
list_same side text s v i held is = by (is_list s) (is_moved side) (is_loose i)
  where
    by : (l m o : Bool) → cond l (cond m (cond o (leaf_items Old text v (Some held.0)) []) []) [] ≡ []
    by true true true = ap (λ w. leaf_items Old text v (Some w)) is ∙ leaf_same Old text v
    by true true false = refl
    by true false o = refl
    by false m o = refl

inside_same : (side : Side) (text : List ℕ) (v : List Token) (i : Forest) → items_told side text i i ≡ []
    → held_items side text (v, i) (Some (v, i)) ≡ []
inside_same side text v Forest.none inner = leaf_same side text v
inside_same side text v Forest.passed inner = refl
inside_same side text v (Forest.vlans runs) inner = inner
inside_same side text v (Forest.texts vs) inner =
    ap (λ b. cond b [] (texts_by side text v vs v vs)) (text_is (text_of v))
inside_same side text v (Forest.tree a b c d) inner = inner

trees_same : (side : Side) (text : List ℕ) (f g : Forest) → AreApart f → Has f g
    → (runs_inside f ≡ [] ⊎ runs_inside f ≡ runs_inside g) → items_told side text f g ≡ []
trees_same side text Forest.none g apart has are = refl
trees_same side text Forest.passed g apart has are = refl
trees_same side text (Forest.vlans runs) g apart has are = elim are [
  | inl none ↦ ap (λ rs. runs_items side text rs (runs_inside g)) none ∙ none_told side (is_moved side)
  | inr same ↦ (λ k. runs_items side text runs (sym same k))
      ∙ ap (λ ps. cond (is_moved side) [] (flat_map (piece_items side text) ps)) (silent runs apart)
      ∙ none_told side (is_moved side)
]
trees_same side text (Forest.texts vs) g apart has are = refl
trees_same side text (Forest.tree s v i rest) g apart has are =
    let path = further text s in
    (λ k. step_items side text s (v, i) (has s (v, i) (found_first s v i rest) k) ++ items_told side text rest g)
    ∙ ap (λ l. l ++ items_told side text rest g) (beside_items side text s (v, i) (v, i))
    ∙ (λ k. (list_same side path s v i (v, i) refl k
    ++ held_items side path (v, i) (Some (v, i))) ++ items_told side text rest g)
    ∙ (λ k. inside_same side path v i (trees_same side path i i apart.1 (λ t held h. h) (inr refl)) k
    ++ trees_same side text rest g apart.2 (rest_has s v i rest g apart.0 has) (inl apart.3) k)

pub tree_same : (side : Side) (text : List ℕ) (i : Forest) → AreApart i → items_told side text i i ≡ []
tree_same side text i apart = trees_same side text i i apart (λ t held h. h) (inr refl)

pub held_same : (side : Side) (text : List ℕ) (v : List Token) (i : Forest) → AreApart i
    → held_items side text (v, i) (Some (v, i)) ≡ []
held_same side text v i apart = inside_same side text v i (tree_same side text i apart)

pub last_same : (side : Side) (text : List ℕ) (behind : List Member) (m : Member) (beside : Option Held)
    → AreApart m.1.1 → beside ≡ Some m.1 → last_items side text behind m beside ≡ []
last_same side text behind m beside apart is = by (comes m.0 behind)
  where
    by : (b : Bool) → cond b [] (step_items side text m.0 m.1 beside) ≡ []
    by true = refl
    by false = ap (step_items side text m.0 m.1) is ∙ beside_items side text m.0 m.1 m.1
        ∙ (λ k. list_same side (further text m.0) m.0 m.1.0 m.1.1 m.1 refl k
        ++ held_same side (further text m.0) m.1.0 m.1.1 apart k)

-- ** attributes with one row and one payload

module _ (nest : Showing) (inner : Holding) (apart : HoldsApart inner) (is_state : Bool) where
  one_held : (own a : Attribute) → HasRowOf own (Some a) → own.payload.now ≡ a.payload.now
      → held_at nest inner is_state a ≡ held_at nest inner is_state own
  one_held own a row same = (λ k. held_by (reading_at nest inner is_state (row.0 k))
      (action_in is_state (row.1 k) (row.2 k)) (row.3 k) (sym same k))

  held_apart : (own : Attribute) → AreApart (held_at nest inner is_state own).1
  held_apart own = inside_apart (inner is_state own.around.now) own.around.now
      (action_in is_state own.list own.number) own.way own.payload.now (apart is_state own.around.now)

  pub same_untold : (side : Side) (text : List ℕ) (own : Attribute) (beside : Option Attribute) → HasRowOf own beside
      → has_payload own.payload.now beside ≡ true
      → held_items side text (held_at nest inner is_state own) (option_map (held_at nest inner is_state) beside) ≡ []
  same_untold side text own None row h = absurd cc
  same_untold side text own (Some a) row h =
      let held = held_at nest inner is_state own in
      ap (λ it. held_items side text held (Some it)) (one_held own a row (text_same own.payload.now a.payload.now h))
      ∙ held_same side text held.0 held.1 (held_apart own)

  pub silent_page : (side : Side) (text : List ℕ) (own : Attribute) (beside : Option Attribute) (page : Draft)
      → HasRowOf own beside → has_payload own.payload.now beside ≡ true
      → page ≡ with_members (objects (held_items side text (held_at nest inner is_state own)
      (option_map (held_at nest inner is_state) beside))) page
  silent_page side text own beside page row h =
      sym (ap (λ os. with_members (objects os) page) (same_untold side text own beside row h))

-- ** rows of both lists

pub and_both : (a b : Bool) → (a && b) ≡ true → (a ≡ true) × (b ≡ true)
and_both true b h = (refl, h)
and_both false b h = absurd cc

pub rows_same : (list others : Attributes) (own : Attribute) (beside : Option Attribute) (alike : Bool)
    → IsOf list own → IfSome beside (IsOf others) → (alike ≡ true → AreAlike list others)
    → is_row_alike alike own.number beside ≡ true → HasRowOf own beside
rows_same list others own None alike of found both h = tt
rows_same list others own (Some a) alike of found both h =
    let parts = and_both alike (a.number == own.number) h in
    let lists = both parts.0 in
    let one : a.number ≡ own.number = eqb-true a.number own.number parts.1 in
    let around : a.around.now ≡ own.around.now = found.0 ∙ sym lists.0 ∙ sym of.0 in
    let shape : a.list ≡ own.list = found.1 ∙ sym lists.1 ∙ sym of.1 in
    let way : a.way ≡ own.way = found.2 ∙ (λ k. (row_in (sym lists.0 k) (sym lists.1 k) (one k)).1) ∙ sym of.2 in
    (around, shape, one, way, subst HasNames (sym of.0) lists.2)

-- one beside another has its row where both have one number
pub row_known : (own : Attribute) (beside : Option Attribute) (alike : Bool)
    → (alike ≡ true → IfSome beside (λ a. HasRowByNumber own a))
    → is_row_alike alike own.number beside ≡ true → HasRowOf own beside
row_known own None alike rows h = tt
row_known own (Some a) alike rows h =
    let parts = and_both alike (a.number == own.number) h in rows parts.0 (eqb-true a.number own.number parts.1)

-- an attribute of a list is shown by what the list is
pub names_of : (list : Attributes) (a : Attribute) → IsOf list a → HasNames list.around.now → HasNames a.around.now
names_of list a of names = subst HasNames (sym of.0) names

pub named_one : (cx : Around) (a : Option Attribute) → IfSome a (λ a. a.around.now ≡ cx)
    → HasNames cx → IfSome a (λ a. HasNames a.around.now)
named_one cx None of names = tt
named_one cx (Some a) of names = subst HasNames (sym of) names

-- of two attributes of lists with the same rows
pub row_by_number : (list others : Attributes) (own a : Attribute) → IsOf list own → IsOf others a
    → AreAlike list others → HasRowByNumber own a
row_by_number list others own a of found alike one =
    rows_same list others own (Some a) true of found (λ h. alike) (eq-eqb a.number own.number one)

pub one_stands : (cx theirs : Around) (own beside : Option Attribute) → IfSome own (λ a. a.around.now ≡ cx)
    → IfSome beside (λ a. a.around.now ≡ theirs) → cx ≡ theirs → HasNames cx
    → IfSome own (λ a. StandBeside a beside)
one_stands cx theirs None beside of its same names = tt
one_stands cx theirs (Some a) None of its same names = tt
one_stands cx theirs (Some a) (Some b) of its same names = (of ∙ same ∙ sym its, subst HasNames (sym of) names)

pub beside_same : (own picked : Attributes) (beside : Option Attributes) → picked.around.now ≡ own.around.now
    → AreBeside own beside → AreBeside picked beside
beside_same own picked None same h = tt
beside_same own picked (Some a) same h = (same ∙ h.0, subst HasNames (sym same) h.1)
