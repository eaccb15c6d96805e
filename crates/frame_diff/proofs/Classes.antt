-- Lists of one class hold no member of another one.
use Rattle.std.proofs.Common.{◌≡◌, ℕ, Bool, true, false, List, [], ◌∷◌, ◌++◌, refl, sym, ap, ◌∙◌}
use Rattle.std.specs.Prelude.{Option, Some, None, ◌&&◌, codes, map, not}
use Rattle.nla_wire.specs.Frames.{Frame}
use Rattle.nla_wire.specs.Items.{items}
use Rattle.link_info.specs.Tables.{frames_in}
use Rattle.frame_shown.specs.Items.{Lists}
use Rattle.frame_shown.specs.Tables.{group_name, lists_in}
use Rattle.frame_shown.specs.declared.form.Around.{Around}
use Rattle.frame_shown.specs.declared.form.List.{List as Shape}
use Rattle.frame_shown.specs.declared.form.List.TheVariants as Shapes
use Rattle.frame_diff.specs.Forests.{Forest, Held, Member, Step, comes, field_step, find}
use Rattle.frame_diff.specs.Forests.{forest, is_step, left_of, rest_step, values_step}
use Rattle.frame_diff.specs.Groups.{is_group}
use Rattle.frame_diff.specs.Inside.{HoldsNoField, HoldsNoRuns, above, has_none, inside_list, is_of_object}
use Rattle.frame_diff.specs.Items.{items_told}
use Rattle.frame_diff.specs.Members.{Reading, earlier, group_of, is_some, kept_in, list_at, list_members, arrays_in}
use Rattle.frame_diff.specs.Members.{arrays_of, members_in, named_in, places, kept_inside, others_at, list_by}
use Rattle.frame_diff.specs.Repeated.{members_at}
use Rattle.frame_diff.specs.Walked.{Holding, HoldsApart, Showing, reading_at}
use Rattle.frame_diff.specs.declared.side.Side.{Side}
use Rattle.frame_diff.specs.declared.walk.Attributes.{Attributes}
use Rattle.frame_diff.proofs.Apart.{find_none, left_apart, list_members_apart}
use Rattle.frame_diff.proofs.Inside.{AreAt, append_at, at_weaker, find_left, forest_all, forest_some}
use Rattle.frame_diff.proofs.Inside.{left_some}
use Rattle.frame_diff.proofs.Inside.{left_told, none_at, same_told}
use Rattle.frame_diff.proofs.Parts.{AreArrays, AreNames, arrays_arrays, named_names}
use Rattle.frame_diff.specs.Forests.{runs_inside}
use Rattle.frame_diff.proofs.Apart.{no_runs}
use Rattle.frame_diff.specs.Members.{is_own_key}
use Rattle.frame_diff.specs.Inside.{is_texts}
use Rattle.std.specs.Prelude.{cond}

-- ** steps

-- of a member by its name, and of no other sort
abbrev pub IsOfObject : Step → Type 0
IsOfObject s = is_of_object s ≡ true

object_not_part : (s t : Step) → is_of_object s ≡ true → is_of_object t ≡ false → is_step s t ≡ false
object_not_part (Step.name a) (Step.part n b) h k = refl
object_not_part (Step.array a) (Step.part n b) h k = refl
object_not_part (Step.place m) (Step.part n b) h k = refl
object_not_part (Step.name a) (Step.label b l) h k = refl
object_not_part (Step.array a) (Step.label b l) h k = refl
object_not_part (Step.place m) (Step.label b l) h k = refl
object_not_part Step.repeated (Step.label b l) h k = refl
object_not_part Step.other (Step.label b l) h k = refl
object_not_part (Step.part m a) (Step.label b l) h k = absurd cc
object_not_part (Step.label a l) t h k = absurd cc
object_not_part Step.repeated (Step.part n b) h k = refl
object_not_part Step.other (Step.part n b) h k = refl
object_not_part (Step.part m a) (Step.part n b) h k = absurd cc
object_not_part s (Step.name b) h k = absurd cc
object_not_part s (Step.array b) h k = absurd cc
object_not_part s (Step.place n) h k = absurd cc
object_not_part s Step.repeated h k = absurd cc
object_not_part s Step.other h k = absurd cc

-- ** members of a list

pub list_steps : (P : Step → Type 0) (s : Step) (hs : List (Option Held)) (inside : Forest) → P s
    → AreAt P (list_by s hs inside)
list_steps P s hs Forest.none is = tt
list_steps P s hs Forest.passed is = tt
list_steps P s hs (Forest.vlans runs) is = tt
list_steps P s hs (Forest.texts vs) is = tt
list_steps P s hs (Forest.tree a b c d) is = (is, tt)

names_of_object : (ms : List Member) → AreNames ms → AreAt IsOfObject ms
names_of_object [] names = tt
names_of_object (m ∷ ms) names = (ap is_of_object names.0.1, names_of_object ms names.1)

arrays_of_object : (ms : List Member) → AreArrays ms → AreAt IsOfObject ms
arrays_of_object [] arrays = tt
arrays_of_object (m ∷ ms) arrays = (ap is_of_object arrays.0.1, arrays_of_object ms arrays.1)

pub members_of_object : (r : Reading) (list : Shape) (fs : List Frame) → AreAt IsOfObject (members_in r list fs)
members_of_object r list fs =
    let ms = named_in r list fs in
    let lists = arrays_in r list fs in
    append_at IsOfObject (ms ++ lists ++ list_at Step.repeated (earlier ms)) (others_at Step.other r list fs)
    (append_at IsOfObject (ms ++ lists) (list_at Step.repeated (earlier ms))
    (append_at IsOfObject ms lists (names_of_object ms (named_names r list fs))
    (arrays_of_object lists (arrays_arrays r list (lists_in r.around list) fs)))
    (list_steps IsOfObject Step.repeated (earlier ms) (places (earlier ms)) refl))
    (list_steps IsOfObject Step.other (kept_in r list fs) (kept_inside r list fs) refl)

pub object_members : (r : Reading) (list : Shape) (fs : List Frame) → is_group list ≡ false
    → list_members r list fs ≡ members_in r list fs
object_members r (Shapes.Listed group table) fs h = absurd cc
object_members r (Shapes.Entries group) fs h = absurd cc
object_members r (Shapes.Message family) fs h = refl
object_members r (Shapes.Own table) fs h = refl
object_members r (Shapes.Of place) fs h = refl
object_members r Shapes.ProtoInet6 fs h = refl
object_members r Shapes.Refused fs h = refl
object_members r (Shapes.Info link port) fs h = refl

object_steps : (r : Reading) (list : Shape) (fs : List Frame) → is_group list ≡ false
    → AreAt IsOfObject (list_members r list fs)
object_steps r (Shapes.Listed group table) fs h = absurd cc
object_steps r (Shapes.Entries group) fs h = absurd cc
object_steps r (Shapes.Message family) fs h = members_of_object r (Shapes.Message family) fs
object_steps r (Shapes.Own table) fs h = members_of_object r (Shapes.Own table) fs
object_steps r (Shapes.Of place) fs h = members_of_object r (Shapes.Of place) fs
object_steps r Shapes.ProtoInet6 fs h = members_of_object r Shapes.ProtoInet6 fs
object_steps r Shapes.Refused fs h = members_of_object r Shapes.Refused fs
object_steps r (Shapes.Info link port) fs h = members_of_object r (Shapes.Info link port) fs

-- ** what stands at a step of another class

abbrev inner_of : Reading → Shape → List Frame → Forest
inner_of r list fs = left_of (is_some fs) (list_members r list fs)

pub none_in_object : (r : Reading) (list : Shape) (fs : List Frame) (s : Step) → is_group list ≡ false
    → is_of_object s ≡ false → find s (inner_of r list fs) ≡ None
none_in_object r list fs s object part =
    find_left s (is_some fs) (list_members r list fs)
    ∙ find_none s (list_members r list fs) (none_at s (list_members r list fs)
    (at_weaker IsOfObject (λ t. is_step t s ≡ false) (list_members r list fs)
    (λ t is. object_not_part t s is part) (object_steps r list fs object)))

-- ** no list holds a field

no_field_in : (r : Reading) (list : Shape) (fs : List Frame) (name : List ℕ)
    → find (field_step name) (inner_of r list fs) ≡ None
no_field_in r (Shapes.Listed group table) fs name =
    let list = Shapes.Listed group table in
    let s = field_step name in
    find_left s (is_some fs) (list_members r list fs)
    ∙ find_none s (list_members r list fs) (none_at s (list_members r list fs) (
      refl,
      list_steps (λ t. is_step t s ≡ false) (rest_step (codes "other")) (kept_in r list fs)
          (kept_inside r list fs) refl,
    ))
no_field_in r (Shapes.Entries group) fs name = refl
no_field_in r (Shapes.Message family) fs name =
    none_in_object r (Shapes.Message family) fs (field_step name) refl refl
no_field_in r (Shapes.Own table) fs name = none_in_object r (Shapes.Own table) fs (field_step name) refl refl
no_field_in r (Shapes.Of place) fs name = none_in_object r (Shapes.Of place) fs (field_step name) refl refl
no_field_in r Shapes.ProtoInet6 fs name = none_in_object r Shapes.ProtoInet6 fs (field_step name) refl refl
no_field_in r Shapes.Refused fs name = none_in_object r Shapes.Refused fs (field_step name) refl refl
no_field_in r (Shapes.Info link port) fs name =
    none_in_object r (Shapes.Info link port) fs (field_step name) refl refl

pub above_fieldless : (nest : Showing) (inner : Holding) → HoldsNoField (above nest inner)
above_fieldless nest inner is_state cx list p name =
    no_field_in (reading_at nest inner is_state cx) list (frames_in (items p)) name

pub above_runs : (is_any : Bool) (ms : List Member) → runs_inside (left_of is_any ms) ≡ []
above_runs true [] = refl
above_runs false [] = refl
above_runs is_any (m ∷ ms) = no_runs (m ∷ ms)

pub forest_no_texts : (ms : List Member) → is_texts (forest ms) ≡ false
forest_no_texts [] = refl
forest_no_texts (m ∷ ms) = by (comes m.0 ms) (forest_no_texts ms)
  where
    by : (c : Bool) → is_texts (forest ms) ≡ false
        → is_texts (cond c (forest ms) (Forest.tree m.0 m.1.0 m.1.1 (forest ms))) ≡ false
    by true later = later
    by false later = refl

pub left_no_texts : (is_any : Bool) (ms : List Member) → is_texts (left_of is_any ms) ≡ false
left_no_texts true [] = refl
left_no_texts false [] = refl
left_no_texts is_any (m ∷ ms) = forest_no_texts (m ∷ ms)

pub above_runless : (nest : Showing) (inner : Holding) → HoldsNoRuns (above nest inner)
above_runless nest inner is_state cx list p =
    let ms = list_members (reading_at nest inner is_state cx) list (frames_in (items p)) in
    (above_runs (is_some (frames_in (items p))) ms, left_no_texts (is_some (frames_in (items p))) ms)

pub above_apart : (nest : Showing) (inner : Holding) → HoldsApart inner → HoldsApart (above nest inner)
above_apart nest inner apart is_state cx list p =
    let r = reading_at nest inner is_state cx in
    left_apart (is_some (frames_in (items p))) (list_members r list (frames_in (items p)))
    (list_members_apart r list (frames_in (items p)) (apart is_state cx))

-- ** a list without members

no_arrays : (r : Reading) (list : Shape) (lists : Lists) → arrays_of r list lists [] ≡ []
no_arrays r list [] = refl
no_arrays r list (l ∷ lists) = no_arrays r list lists

none_without : (r : Reading) (list : Shape) → has_none (left_of false (members_in r list [])) ≡ true
none_without r list =
    ap (λ ms. has_none (left_of false (ms ++ list_at Step.repeated [] ++ list_at Step.other [])))
    (no_arrays r list (lists_in r.around list))

without : (r : Reading) (list : Shape) (fs : List Frame)
    → has_none (inner_of r list fs) ≡ (not (is_group list) && not (is_some fs))
without r (Shapes.Listed group table) fs =
    let hs = map (λ (m : Member). Some m.1) (named_in r (Shapes.Listed group table) fs) in
    forest_some (group_of (values_step (group_name group)) (is_own_key None (Shapes.Listed group table)) hs (places hs))
    (others_at (rest_step (codes "other")) r (Shapes.Listed group table) fs)
without r (Shapes.Entries group) fs = refl
without r (Shapes.Message family) [] = refl
without r (Shapes.Message family) (f ∷ fs) = left_some (list_members r (Shapes.Message family) (f ∷ fs))
without r (Shapes.Own table) [] = refl
without r (Shapes.Own table) (f ∷ fs) = left_some (list_members r (Shapes.Own table) (f ∷ fs))
without r (Shapes.Of place) [] = none_without r (Shapes.Of place)
without r (Shapes.Of place) (f ∷ fs) = left_some (list_members r (Shapes.Of place) (f ∷ fs))
without r Shapes.ProtoInet6 [] = none_without r Shapes.ProtoInet6
without r Shapes.Refused [] = refl
without r Shapes.ProtoInet6 (f ∷ fs) = left_some (list_members r Shapes.ProtoInet6 (f ∷ fs))
without r Shapes.Refused (f ∷ fs) = left_some (list_members r Shapes.Refused (f ∷ fs))
without r (Shapes.Info link port) [] = refl
without r (Shapes.Info link port) (f ∷ fs) = left_some (list_members r (Shapes.Info link port) (f ∷ fs))

pub above_without : (nest : Showing) (inner : Holding) (is_state : Bool) (cx : Around) (list : Shape) (p : List ℕ)
    → has_none (above nest inner is_state cx list p) ≡ (not (is_group list) && not (is_some (frames_in (items p))))
above_without nest inner is_state cx list p = without (reading_at nest inner is_state cx) list (frames_in (items p))

-- ** objects beside each other

part_apart : (n : ℕ) (text : List ℕ) (s : Step) → is_of_object s ≡ true → is_step (Step.part n text) s ≡ false
part_apart n text (Step.part m other) of = absurd cc
part_apart n text (Step.name name) of = refl
part_apart n text (Step.array name) of = refl
part_apart n text (Step.place m) of = refl
part_apart n text (Step.label name label) of = absurd cc
part_apart n text Step.repeated of = refl
part_apart n text Step.other of = refl

-- a list of values has no member of an object
group_lacks : (r : Reading) (list : Shape) (fs : List Frame) (s : Step) → is_group list ≡ true
    → is_of_object s ≡ true → comes s (list_members r list fs) ≡ false
group_lacks r (Shapes.Listed group table) fs s is of =
    none_at s (list_members r (Shapes.Listed group table) fs) (
      part_apart 2 (group_name group) s of,
      list_steps (λ t. is_step t s ≡ false) (rest_step (codes "other")) (kept_in r (Shapes.Listed group table) fs)
          (kept_inside r (Shapes.Listed group table) fs) (part_apart 3 (codes "other") s of),
    )
group_lacks r (Shapes.Entries group) fs s is of =
    none_at s (list_members r (Shapes.Entries group) fs) (part_apart 1 (group_name group) s of, tt)
group_lacks r (Shapes.Message family) fs s is of = absurd cc
group_lacks r (Shapes.Own table) fs s is of = absurd cc
group_lacks r (Shapes.Of place) fs s is of = absurd cc
group_lacks r Shapes.ProtoInet6 fs s is of = absurd cc
group_lacks r Shapes.Refused fs s is of = absurd cc
group_lacks r (Shapes.Info link port) fs s is of = absurd cc

module _ (nest : Showing) (inner : Holding) (is_state : Bool) where
  pub object_found : (other : Attributes) (s : Step) → is_group other.list ≡ false
      → find s (forest (members_at nest inner is_state other))
      ≡ find s (inside_list (above nest inner) is_state (Some other))
  object_found other s object =
      let r = reading_at nest inner is_state other.around.now in
      let fs = frames_in (items other.bytes.now) in
      ap (λ ms. find s (forest ms)) (sym (object_members r other.list fs object))
      ∙ sym (find_left s (is_some fs) (list_members r other.list fs))

  -- where no object stands beside
  pub nothing_found : (a : Attributes) (s : Step) → items a.bytes.now ≡ []
      → find s (forest (members_at nest inner is_state a)) ≡ None
  nothing_found a s none =
      let r = reading_at nest inner is_state a.around.now in
      ap (λ xs. find s (forest (members_in r a.list (frames_in xs)))) none
      ∙ ap (λ ms. find s (forest (ms ++ list_at Step.repeated [] ++ list_at Step.other [])))
      (no_arrays r a.list (lists_in a.around.now a.list))

  pub group_found : (other : Attributes) (s : Step) → is_group other.list ≡ true → is_of_object s ≡ true
      → find s (inside_list (above nest inner) is_state (Some other)) ≡ None
  group_found other s is of =
      let r = reading_at nest inner is_state other.around.now in
      let fs = frames_in (items other.bytes.now) in
      find_left s (is_some fs) (list_members r other.list fs)
      ∙ find_none s (list_members r other.list fs) (group_lacks r other.list fs s is of)

  pub object_told : (side : Side) (text : List ℕ) (own others : Attributes) (beside : Option Attributes)
      → is_group own.list ≡ false
      → ((s : Step) → is_of_object s ≡ true → find s (forest (members_at nest inner is_state others))
      ≡ find s (inside_list (above nest inner) is_state beside))
      → items_told side text (forest (members_at nest inner is_state own))
      (forest (members_at nest inner is_state others))
      ≡ items_told side text (inside_list (above nest inner) is_state (Some own))
      (inside_list (above nest inner) is_state beside)
  object_told side text own others beside object found =
      let r = reading_at nest inner is_state own.around.now in
      let fs = frames_in (items own.bytes.now) in
      let g = inside_list (above nest inner) is_state beside in
      same_told IsOfObject side text (forest (members_at nest inner is_state own))
      (forest (members_at nest inner is_state others)) g
      (forest_all IsOfObject (members_in r own.list fs) (members_of_object r own.list fs)) found
      ∙ ap (λ ms. items_told side text (forest ms) g) (sym (object_members r own.list fs object))
      ∙ sym (left_told side text (is_some fs) (list_members r own.list fs) g)
