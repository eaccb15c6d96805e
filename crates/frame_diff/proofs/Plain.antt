-- What is compared of a message does not depend on where in memory the rows stand that it is read by.
use Rattle.std.proofs.Common.{◌≡◌, ℕ, zero, suc, Bool, true, false, List, [], ◌∷◌, ◌++◌, Ok, Err, refl, sym, ap, ◌∙◌}
use Rattle.std.specs.Prelude.{◌==◌, ◌||◌, Some, None, codes, cond, if◌then◌else◌, length, map, slice_index}
use Rattle.std.specs.List.{flat_map}
use Rattle.nla_wire.specs.Frames.{Frame, number}
use Rattle.nla_wire.specs.Items.{Item as Read, items}
use Rattle.link_info.specs.Lent.{member_now, plain_now}
use Rattle.link_info.specs.Meanings.{Meaning, Members as Fields, Listed, Raw, form_meaning, read_as}
use Rattle.link_info.specs.Styles.{Form as PlainForm, Host, Network, Twos, SixOctets, FourOctets, SixteenOctets, Octets}
use Rattle.link_info.specs.Styles.{form, plain_size}
use Rattle.link_info.specs.Tables.{frames_in}
use Rattle.link_info.specs.declared.style.Member.{Member as Part}
use Rattle.link_info.specs.declared.style.Plain.{Plain}
use Rattle.link_info.specs.declared.style.Style.TheVariants as S
use Rattle.link_state.specs.Table.{Action}
use Rattle.shown.specs.Drafts.{object_of}
use Rattle.frame_shown.specs.Items.{members_of}
use Rattle.frame_shown.specs.Kept.{frame_members}
use Rattle.frame_shown.specs.Messages.{address_len, header_members, with_address_len}
use Rattle.frame_shown.specs.Plain.{IsPlain}
use Rattle.frame_shown.specs.Tables.{Known, entry_list, group_name, row_in, is_each}
use Rattle.frame_shown.specs.Values.{Nesting, fields_in, meaning_shown, payloads_shown, plain_shown, spelled}
use Rattle.frame_shown.specs.Values.{style_shown}
use Rattle.frame_shown.specs.declared.form.Around.{Around}
use Rattle.frame_shown.specs.declared.form.Form.{Form}
use Rattle.frame_shown.specs.declared.form.Form.TheVariants as Forms
use Rattle.frame_shown.specs.declared.form.Group.{Group}
use Rattle.frame_shown.specs.declared.form.List.{List as Shape}
use Rattle.frame_shown.specs.declared.form.List.TheVariants as Shapes
use Rattle.frame_shown.specs.declared.form.Order.{Order}
use Rattle.frame_shown.specs.declared.form.Way.{Way}
use Rattle.frame_shown.specs.declared.form.Way.TheVariants as Ways
use Rattle.frame_shown.proofs.Plain.{AreAlike, each_now, fields_same, items_same, kept_now, kind_now, known_now}
use Rattle.frame_shown.proofs.Plain.{levels_same, lists_same}
use Rattle.frame_shown.proofs.Plain.{plainly_alike, row_same, way_now, way_same, way_shown_now, with_len_alike}
use Rattle.frame_shown.proofs.PlainStyles.{meaning_now, read_now, record_now, size_now, style_now_same}
use Rattle.frame_diff.specs.Counters.{action_in, is_clear, is_passed}
use Rattle.frame_diff.specs.Forests.{Forest, Member, Step, entries_step, forest, left_of, rest_step, values_step}
use Rattle.frame_diff.specs.Keys.{key_at}
use Rattle.frame_diff.specs.Labels.{keyed}
use Rattle.frame_diff.specs.Members.{Inner, Parts, Reading, as_object, attributes_in, earlier, entries_in, entry_of}
use Rattle.frame_diff.specs.Members.{entries_inside, entry_with, inside_of, inside_with, numbers_by, places}
use Rattle.frame_diff.specs.Members.{is_unnamed, each_by, value_with, array_at, arrays_in}
use Rattle.frame_diff.specs.Members.{fields, fields_kept, form_inside, frame_member, group_of, held_by, inner_by}
use Rattle.frame_diff.specs.Members.{ipv6_inside, is_some, kept_by, kept_in, list_at, list_members, listed_in}
use Rattle.frame_diff.specs.Members.{meaning_inside, members_in, message_forest, message_members, named, named_by}
use Rattle.frame_diff.specs.Members.{named_in, reading, refused_in, refused_step, unless_none, way_inside, kept_inside}
use Rattle.frame_diff.specs.Members.{list_by, message_made, runs_by, runs_or}
use Rattle.frame_diff.specs.Settled.{settled}
use Rattle.frame_diff.specs.Vlans.{flat}
use Rattle.frame_diff.specs.declared.keys.Key.TheVariants as Keys
use Rattle.frame_diff.proofs.PlainKeys.{number_same}
use Rattle.frame_diff.specs.Members.{is_own_key}

-- ** by rows as values

sizes_now : (ms : List Part) → map (λ m. plain_size m.1) (map member_now ms) ≡ map (λ m. plain_size m.1) ms
sizes_now [] = refl
sizes_now (m ∷ ms) = λ i. size_now m.1 i ∷ sizes_now ms i

-- values of a fixed size are shown as ever
spelled_is : (nest : Nesting) (plain : Plain) (p : List ℕ) → style_shown nest (S.Plain plain) p ≡ spelled plain p
spelled_is nest plain p = by (length p == plain_size plain) (form plain)
  where
    by : (b : Bool) (f : PlainForm) → meaning_shown nest (S.Plain plain) (if b then form_meaning f p else Raw p)
        ≡ plain_shown plain (if b then form_meaning f p else Raw p)
    by true (Host size) = refl
    by true (Network size) = refl
    by true (Twos size) = refl
    by true SixOctets = refl
    by true FourOctets = refl
    by true SixteenOctets = refl
    by true (Octets n) = refl
    by false f = refl

spelled_now : (plain : Plain) (p : List ℕ) → spelled (plain_now plain) p ≡ spelled plain p
spelled_now plain p =
    let nest : Nesting = λ list p. [] in
    sym (spelled_is nest (plain_now plain) p) ∙ style_now_same nest (S.Plain plain) p ∙ spelled_is nest plain p

slots_now : (plain : Plain) (xs : List Read)
    → map (λ m. m.1) (payloads_shown (plain_now plain) xs) ≡ map (λ m. m.1) (payloads_shown plain xs)
slots_now plain [] = refl
slots_now plain (Ok f ∷ xs) = λ i. spelled_now plain f.payload i ∷ slots_now plain xs i
slots_now plain (Err c ∷ xs) = refl

meaning_inside_now : (inner : Inner) (action : Action) (m : Meaning)
    → meaning_inside inner action (meaning_now m) ≡ meaning_inside inner action m
meaning_inside_now inner action (Fields members p) = λ i.
    fields_kept action (sizes_now members i) (record_now members p i)
meaning_inside_now inner action (Listed plain p) = ap Forest.texts (slots_now plain (items p))
meaning_inside_now inner action _ = refl

way_inside_now : (inner : Inner) (cx : Around) (action : Action) (way : Way) (p : List ℕ)
    → way_inside inner cx action (way_now way) p ≡ way_inside inner cx action way p
way_inside_now inner cx action (Ways.Own form) p = refl
way_inside_now inner cx action (Ways.By style) p =
    ap (meaning_inside inner action) (read_now style p) ∙ meaning_inside_now inner action (read_as style p)

held_now : (r : Reading) (action : Action) (way : Way) (p : List ℕ)
    → held_by r action (way_now way) p ≡ held_by r action way p
held_now r action way p = λ i. (
  way_shown_now r.nest r.around way p i,
  cond (is_clear action) Forest.passed (way_inside_now r.inner r.around action way p i),
)

named_now : (r : Reading) (action : Action) (row : Known) (f : Frame)
    → named_by r action (known_now row) f ≡ named_by r action row f
named_now r action row f = λ i.
    cond (kept_now row.1 f.payload i || each_now row.1 i) []
    ((Step.name row.0, held_now r action row.1 f.payload i) ∷ [])

each_by_now : (r : Reading) (action : Action) (row : Known) (f : Frame)
    → each_by r action (known_now row) f ≡ each_by r action row f
each_by_now r action row f = λ i.
    cond (each_now row.1 i) (Some (held_now r action row.1 f.payload i) ∷ []) []

kept_by_now : (is_passed : Bool) (cx : Around) (row : Known) (f : Frame)
    → kept_by is_passed cx (known_now row) f ≡ kept_by is_passed cx row f
kept_by_now is_passed cx row f = λ i.
    cond (kept_now row.1 f.payload i)
    (cond is_passed None (Some (as_object (frame_members row.0 (kind_now row.1 f.kind i) f.payload))) ∷ []) []

-- ** where they stand elsewhere

module _ (cx other : Around) (s : AreAlike cx other) where
  form_inside_same : (inner : Inner) (action : Action) (form : Form) (p : List ℕ)
      → form_inside inner cx action form p ≡ form_inside inner other action form p
  form_inside_same inner action Forms.Ipv6Counters p = ap (λ (order : Order). ipv6_inside order p) s.order
  form_inside_same inner action (Forms.Record parts) p = ap fields (fields_same cx other s (fields_in parts) p)
  form_inside_same inner action _ p = refl

  way_inside_same : (inner : Inner) (action : Action) (way : Way) (p : List ℕ)
      → way_inside inner cx action way p ≡ way_inside inner other action way p
  way_inside_same inner action (Ways.Own form) p = form_inside_same inner action form p
  way_inside_same inner action (Ways.By style) p = refl

  kept_same : (is_passed : Bool) (list : Shape) (f : Frame)
      → kept_by is_passed cx (row_in cx list (number f)) f ≡ kept_by is_passed other (row_in other list (number f)) f
  kept_same is_passed list f =
      sym (kept_by_now is_passed cx (row_in cx list (number f)) f)
      ∙ ap (λ (row : Known). kept_by is_passed cx row f) (row_same cx other s list (number f))
      ∙ kept_by_now is_passed other (row_in other list (number f)) f

  -- ** lists, in which others are read the same

  module _ (is_state : Bool) (nest : Nesting) (inner : Inner) where
    abbrev by : Around → Reading
    by around = record { is_state = is_state; nest = nest; inner = inner; around = around }

    named_same : (action : Action) (row : Known) (f : Frame)
        → named_by (by cx) action row f ≡ named_by (by other) action row f
    named_same action row f = λ i.
        cond (is_unnamed row.1 f.payload) []
        ((
          Step.name row.0,
          (
            way_same cx other s nest row.1 f.payload i,
            cond (is_clear action) Forest.passed (way_inside_same inner action row.1 f.payload i),
          ),
        ) ∷ [])

    member_same : (list : Shape) (f : Frame) → frame_member (by cx) list f ≡ frame_member (by other) list f
    member_same list f =
        let action : Action = action_in is_state list (number f) in
        sym (named_now (by cx) action (row_in cx list (number f)) f)
        ∙ ap (λ (row : Known). named_by (by cx) action row f) (row_same cx other s list (number f))
        ∙ named_now (by cx) action (row_in other list (number f)) f
        ∙ named_same action (row_in other list (number f)) f

    each_by_same : (action : Action) (row : Known) (f : Frame)
        → each_by (by cx) action row f ≡ each_by (by other) action row f
    each_by_same action row f = λ i.
        cond (is_each row.1)
        (Some (
          way_same cx other s nest row.1 f.payload i,
          cond (is_clear action) Forest.passed (way_inside_same inner action row.1 f.payload i),
        ) ∷ []) []

    value_same : (list : Shape) (n : ℕ) (f : Frame) → value_with (by cx) list n f ≡ value_with (by other) list n f
    value_same list n f =
        let action : Action = action_in is_state list (number f) in
        ap (λ hs. cond (number f == n) hs [])
        (sym (each_by_now (by cx) action (row_in cx list (number f)) f)
        ∙ ap (λ (row : Known). each_by (by cx) action row f) (row_same cx other s list (number f))
        ∙ each_by_now (by cx) action (row_in other list (number f)) f
        ∙ each_by_same action (row_in other list (number f)) f)

    inside_same : (list : Shape) (n : ℕ) (fs : List Frame)
        → inside_with (by cx) list n fs ≡ inside_with (by other) list n fs
    inside_same list n fs = let key = key_at (Some n) list in λ i.
        runs_or (runs_by (Some n) list fs)
        (inside_of key (numbers_by (λ f. number_same cx other s key list f i) (λ f. value_same list n f i) fs)
        (flat_map (λ f. value_same list n f i) fs))

    arrays_same : (list : Shape) (fs : List Frame) → arrays_in (by cx) list fs ≡ arrays_in (by other) list fs
    arrays_same list fs = λ i.
        flat_map (λ l. array_at l.1 (is_own_key (Some l.0) list) (flat_map (λ f. value_same list l.0 f i) fs)
        (inside_same list l.0 fs i))
        (lists_same cx other s list i)

    named_in_same : (list : Shape) (fs : List Frame) → named_in (by cx) list fs ≡ named_in (by other) list fs
    named_in_same list fs = λ i. flat_map (λ f. member_same list f i) fs

    kept_in_same : (list : Shape) (fs : List Frame) → kept_in (by cx) list fs ≡ kept_in (by other) list fs
    kept_in_same list fs = λ i. flat_map (λ f. kept_same (is_passed is_state list (number f)) list f i) fs

    kept_inside_same : (list : Shape) (fs : List Frame) → kept_inside (by cx) list fs ≡ kept_inside (by other) list fs
    kept_inside_same list fs = λ i.
        keyed Keys.Number (numbers_by (λ f. Some (number f))
        (λ f. kept_same (is_passed is_state list (number f)) list f i) fs) (kept_in_same list fs i)

    members_same : (list : Shape) (fs : List Frame) → members_in (by cx) list fs ≡ members_in (by other) list fs
    members_same list fs = λ i.
        named_in_same list fs i ++ arrays_same list fs i ++ list_at Step.repeated (earlier (named_in_same list fs i))
        ++ list_by Step.other (kept_in_same list fs i) (kept_inside_same list fs i)

    listed_same : (group : Group) (list : Shape) (fs : List Frame)
        → listed_in (by cx) group list fs ≡ listed_in (by other) group list fs
    listed_same group list fs = λ i.
        group_of (values_step (group_name group)) (is_own_key None list)
        (map (λ (m : Member). Some m.1) (named_in_same list fs i))
        (places (map (λ (m : Member). Some m.1) (named_in_same list fs i)))
        ∷ list_by (rest_step (codes "other")) (kept_in_same list fs i) (kept_inside_same list fs i)

    entry_same : (list : Shape) (p : List ℕ) → entry_of (by cx) list p ≡ entry_of (by other) list p
    entry_same list p = λ i. (
      object_of (members_of (lists_same cx other s list i) (items_same cx other s nest nest refl list
          (items (settled is_state list p)) i)),
      left_of (is_some (frames_in (items p))) (members_same list (frames_in (items p)) i),
    )

    entry_with_same : (list : Shape) (f : Frame) → entry_with (by cx) list f ≡ entry_with (by other) list f
    entry_with_same list f = λ i. cond (number f == 1) (Some (entry_same list f.payload i) ∷ []) []

    entries_same : (list : Shape) (fs : List Frame) → entries_in (by cx) list fs ≡ entries_in (by other) list fs
    entries_same list fs = λ i. flat_map (λ f. entry_with_same list f i) fs

    entries_inside_same : (group : Group) (fs : List Frame)
        → entries_inside (by cx) group fs ≡ entries_inside (by other) group fs
    entries_inside_same group fs = let list = Shapes.Entries group in let key = key_at None list in λ i.
        inside_of key (numbers_by (λ f. number_same cx other s key list f i)
        (λ f. entry_with_same (entry_list group) f i) fs) (entries_same (entry_list group) fs i)

    list_same : (list : Shape) (fs : List Frame) → list_members (by cx) list fs ≡ list_members (by other) list fs
    list_same (Shapes.Listed group table) fs = listed_same group (Shapes.Listed group table) fs
    list_same (Shapes.Entries group) fs = λ i.
        group_of (entries_step (group_name group)) false (entries_same (entry_list group) fs i)
        (entries_inside_same group fs i) ∷ []
    list_same (Shapes.Message family) fs = members_same (Shapes.Message family) fs
    list_same (Shapes.Own table) fs = members_same (Shapes.Own table) fs
    list_same (Shapes.Of place) fs = members_same (Shapes.Of place) fs
    list_same Shapes.ProtoInet6 fs = members_same Shapes.ProtoInet6 fs
    list_same Shapes.Refused fs = members_same Shapes.Refused fs
    list_same (Shapes.Info link port) fs = members_same (Shapes.Info link port) fs

-- ** so many levels deep

record ReadAlike (r t : Reading) : Type 0 where
  is_state : r.is_state ≡ t.is_state
  nest : r.nest ≡ t.nest
  inner : r.inner ≡ t.inner
  around : AreAlike r.around t.around

module _ (r t : Reading) (s : ReadAlike r t) where
  -- what lists are read by, with the rows of the second
  abbrev between : Bool → Nesting → Inner → Reading
  between is_state nest inner = record { is_state = is_state; nest = nest; inner = inner; around = t.around }

  read_members : (list : Shape) (fs : List Frame) → members_in r list fs ≡ members_in t list fs
  read_members list fs =
      members_same r.around t.around s.around r.is_state r.nest r.inner list fs
      ∙ λ i. members_in (between (s.is_state i) (s.nest i) (s.inner i)) list fs

  read_lists : (list : Shape) (fs : List Frame) → list_members r list fs ≡ list_members t list fs
  read_lists list fs =
      list_same r.around t.around s.around r.is_state r.nest r.inner list fs
      ∙ λ i. list_members (between (s.is_state i) (s.nest i) (s.inner i)) list fs

  read_inside : (list : Shape) (p : List ℕ) → inner_by r list p ≡ inner_by t list p
  read_inside list p = ap (left_of (is_some (frames_in (items p)))) (read_lists list (frames_in (items p)))

module _ (is_state : Bool) (cx other : Around) (s : AreAlike cx other) where
  read_alike : (n : ℕ) → ReadAlike (reading n is_state cx) (reading n is_state other)
  read_alike zero = record {
    is_state = refl;
    nest = λ i list p. levels_same cx other s 0 list p i;
    inner = refl;
    around = s;
  }
  read_alike (suc n) = record {
    is_state = refl;
    nest = λ i list p. levels_same cx other s (suc n) list p i;
    inner = λ i list p. read_inside (reading n is_state cx) (reading n is_state other) (read_alike n) list p i;
    around = s;
  }

  refused_same : (bytes : List ℕ) → refused_in is_state cx bytes ≡ refused_in is_state other bytes
  refused_same bytes =
      let inner : (reading 1 is_state cx).inner ≡ (reading 1 is_state other).inner = (read_alike 1).inner in
      λ i. unless_none refused_step (levels_same cx other s 1 Shapes.Refused bytes i) (inner i Shapes.Refused bytes)

-- ** messages

attributes_same : (is_state : Bool) (cx other : Around) → AreAlike cx other → (family : ℕ) (bytes : List ℕ)
    → attributes_in is_state cx family bytes ≡ attributes_in is_state other family bytes
attributes_same is_state cx other s family bytes =
    let fs : List Frame = frames_in (items bytes) in
    let here : Around = with_address_len cx (address_len fs) in
    let there : Around = with_address_len other (address_len fs) in
    read_members (reading 5 is_state here) (reading 5 is_state there)
    (read_alike is_state here there (with_len_alike cx other s (address_len fs)) 5) (Shapes.Message family) fs

message_same : (is_state : Bool) (cx other : Around) → AreAlike cx other → (m : Parts)
    → message_members is_state cx m ≡ message_members is_state other m
unfolding message_members
message_same is_state cx other s m = λ i.
    named (header_members m.header)
    ++ attributes_same is_state cx other s (slice_index m.header 0) m.attributes i
    ++ refused_same is_state cx other s m.refused i

pub made_alike : (order : Order) (cx other : Around) → IsPlain order cx → IsPlain order other → (is_state : Bool)
    (m : Parts) → message_made is_state cx m ≡ message_made is_state other m
made_alike order cx other one two is_state m =
    ap forest (message_same is_state cx other (plainly_alike order cx other one two) m)

pub forests_alike : (order : Order) (cx other : Around) → IsPlain order cx → IsPlain order other → (is_state : Bool)
    (m : Parts) → message_forest is_state cx m ≡ message_forest is_state other m
forests_alike order cx other one two is_state m = ap flat (made_alike order cx other one two is_state m)
