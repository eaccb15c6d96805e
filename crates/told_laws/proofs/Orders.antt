-- No leaf of a state depends on the order of the counters of IPv6.
use Rattle.std.proofs.Common.{◌≡◌, ◌==◌, ℕ, zero, suc, Bool, true, false, List, [], ◌∷◌, ◌++◌, map, refl, sym, ap}
use Rattle.std.proofs.Common.{◌∙◌}
use Rattle.std.specs.Int.{w32}
use Rattle.std.specs.Prelude.{Option, None, Some, ◌&&◌, codes, cond, not, slice_index}
use Rattle.std.specs.List.{flat_map, list_any}
use Rattle.json.specs.Token.{begin_object}
use Rattle.nla_wire.specs.Fields.{number_at}
use Rattle.nla_wire.specs.Frames.{Frame, number}
use Rattle.nla_wire.specs.Items.{items}
use Rattle.link_info.specs.Meanings.{Meaning, Raw, Present, Number, Signed, Words, Hardware, Four, Six}
use Rattle.link_info.specs.Meanings.{Members as Fields, Elements, Listed, Nested, read_as}
use Rattle.link_info.specs.declared.style.Style.{Style}
use Rattle.link_info.specs.Tables.{frames_in}
use Rattle.link_state.specs.Table.{Action}
use Rattle.link_vlans.specs.Pieces.{vlans_of}
use Rattle.link_vlans.specs.Runs.{are_apart}
use Rattle.link_vlans.specs.declared.run.Run.{Run}
use Rattle.shown.specs.Drafts.{object_of}
use Rattle.frame_shown.specs.Frames.{entries_in as entries_shown, frame_item, items_in, levels, list_shown}
use Rattle.frame_shown.specs.Frames.{way_shown}
use Rattle.frame_shown.specs.Items.{Lists, members_of, listed_under, objects_under}
use Rattle.frame_shown.specs.Messages.{address_len, header_members, with_address_len}
use Rattle.frame_shown.specs.Tables.{Known, entry_list, group_name, row_in, is_each, lists_in}
use Rattle.frame_shown.specs.Values.{Nesting, form_shown, info_of, ipv6_counters_shown, meaning_shown}
use Rattle.frame_shown.specs.declared.form.Around.{Around}
use Rattle.frame_shown.specs.declared.form.Form.{Form}
use Rattle.frame_shown.specs.declared.form.Form.TheVariants as Forms
use Rattle.frame_shown.specs.declared.form.Group.{Group}
use Rattle.frame_shown.specs.declared.form.Group.TheVariants as Groups
use Rattle.frame_shown.specs.declared.form.List.{List as Shape}
use Rattle.frame_shown.specs.declared.form.List.TheVariants as Shapes
use Rattle.frame_shown.specs.declared.form.Order.{Order}
use Rattle.frame_shown.specs.declared.form.Order.TheVariants as Orders
use Rattle.frame_shown.specs.declared.form.Way.{Way}
use Rattle.frame_shown.specs.declared.form.Way.TheVariants as Ways
use Rattle.frame_diff.specs.Counters.{action_in, is_clear}
use Rattle.frame_diff.specs.Forests.{Forest, Held, Member, Step, forest, leaves, rest_step, entries_step}
use Rattle.frame_diff.specs.Forests.{values_step}
use Rattle.frame_diff.specs.Keys.{bounded, field_number, frame_number, function_in, is_function, is_record, key_at}
use Rattle.frame_diff.specs.Keys.{key_name, meaning_number, named_number, number_in}
use Rattle.frame_diff.specs.Members.{Inner, Parts, Reading, attributes_in, earlier, entries_in, entries_inside}
use Rattle.frame_diff.specs.Members.{entry_of}
use Rattle.frame_diff.specs.Members.{entry_with, form_inside, group_of, inside_of, inside_with, numbers_by, places}
use Rattle.frame_diff.specs.Members.{is_unnamed, array_at, arrays_in, arrays_of, value_with, values_with}
use Rattle.frame_diff.specs.Members.{frame_member, held_by, inner_by, is_nest, is_own_key, is_some, others_at}
use Rattle.frame_diff.specs.Members.{list_at, listed_in}
use Rattle.frame_diff.specs.Members.{list_members, meaning_inside, members_in, message_forest, message_made}
use Rattle.frame_diff.specs.Members.{message_members, runs_by, runs_or, way_inside}
use Rattle.frame_diff.specs.Named.{is_named, last_named}
use Rattle.frame_diff.specs.Members.{named, named_by, named_in, reading, refused_in, refused_step, unless_none}
use Rattle.frame_diff.specs.Messages.{with_order}
use Rattle.frame_diff.specs.Settled.{settled}
use Rattle.frame_diff.specs.Vlans.{flat, vlan_trees}
use Rattle.frame_diff.specs.declared.keys.Key.{Key}
use Rattle.frame_diff.proofs.Apart.{runs_apart}
use Rattle.frame_diff.proofs.Flat.{HasMembers, runs_have}
use Rattle.frame_diff.proofs.Numbered.{numbers_long}
use Rattle.frame_diff.proofs.Settled.{settled_none}
use Rattle.told_laws.proofs.Bare.{HoldsSome, bare, bare_all, bare_append, bare_held, bare_one, bare_opts, earlier_same}
use Rattle.told_laws.proofs.Bare.{forest_bare, group_same, leaves_bare, left_same, list_same, opts_append}
use Rattle.told_laws.proofs.Bare.{is_leaf, is_none, of_same, of_some, passed_same, placed_some, unless_bare}
use Rattle.told_laws.proofs.Passed.{is_form, is_shape, is_way, row_way}

-- ** lists that go over frames

bare_flat : {X : Type 0} (F G : X → List Member) (xs : List X) → ((x : X) → bare_all (F x) ≡ bare_all (G x))
    → bare_all (flat_map F xs) ≡ bare_all (flat_map G xs)
bare_flat F G [] same = refl
bare_flat F G (x ∷ xs) same =
    bare_append (F x) (flat_map F xs)
    ∙ (λ k. same x k ++ bare_flat F G xs same k)
    ∙ sym (bare_append (G x) (flat_map G xs))

opts_flat : {X : Type 0} (F G : X → List (Option Held)) (xs : List X)
    → ((x : X) → bare_opts (F x) ≡ bare_opts (G x)) → bare_opts (flat_map F xs) ≡ bare_opts (flat_map G xs)
opts_flat F G [] same = refl
opts_flat F G (x ∷ xs) same =
    opts_append (F x) (flat_map F xs)
    ∙ (λ k. same x k ++ opts_flat F G xs same k)
    ∙ sym (opts_append (G x) (flat_map G xs))

opts_of : (ms : List Member)
    → bare_opts (map (λ (m : Member). Some m.1) ms) ≡ map (λ (m : Member). Some m.1) (bare_all ms)
opts_of [] = refl
opts_of (m ∷ ms) = ap (λ hs. Some (bare_held m.1) ∷ hs) (opts_of ms)

-- a number for each value
const_of : (n : Option ℕ) (hs : List (Option Held)) → map (λ h. n) (bare_opts hs) ≡ map (λ h. n) hs
const_of n [] = refl
const_of n (h ∷ hs) = ap (λ ns. n ∷ ns) (const_of n hs)

numbers_same : (num other : Frame → Option ℕ) (F G : Frame → List (Option Held)) (fs : List Frame)
    → ((f : Frame) → num f ≡ other f) → ((f : Frame) → bare_opts (F f) ≡ bare_opts (G f))
    → numbers_by num F fs ≡ numbers_by other G fs
numbers_same num other F G [] one same = refl
numbers_same num other F G (f ∷ fs) one same = λ k. (sym (const_of (num f) (F f))
    ∙ (λ j. map (λ h. one f j) (same f j))
    ∙ const_of (other f) (G f)) k ++ numbers_same num other F G fs one same k

-- ** runs of VLANs

runs_there : (rs : List Run) → are_apart None rs ≡ true → is_none (Forest.vlans rs) ≡ false
runs_there [] apart = refl
runs_there (r ∷ rs) apart = by (vlan_trees (vlans_of (r ∷ rs))) (runs_have r rs apart)
  where
    by : (f : Forest) → HasMembers f → is_leaf f ≡ false
    by Forest.none h = absurd h
    by Forest.passed h = absurd h
    by (Forest.vlans runs) h = absurd h
    by (Forest.texts vs) h = absurd h
    by (Forest.tree s v i rest) h = refl

runs_some : (n : ℕ) (list : Shape) (fs : List Frame) (hs : List (Option Held)) (f : Forest) → HoldsSome hs f
    → HoldsSome hs (runs_or (runs_by (Some n) list fs) f)
runs_some n list fs hs f some = by (runs_by (Some n) list fs) refl
  where
    by : (o : Option (List Run)) → runs_by (Some n) list fs ≡ o → HoldsSome hs (runs_or o f)
    by None is = some
    by (Some runs) is = λ _. runs_there runs (runs_apart (Some n) list fs runs is)

runs_same : (o : Option (List Run)) (f g : Forest) → bare f ≡ bare g → bare (runs_or o f) ≡ bare (runs_or o g)
runs_same None f g same = same
runs_same (Some runs) f g same = refl

-- ** what a list is shown as

-- an object
shown_nest : (nest : Nesting) (cx : Around) (list : Shape) (p : List ℕ) → is_nest (list_shown nest cx list p) ≡ true
shown_nest nest cx (Shapes.Listed group table) p = refl
shown_nest nest cx (Shapes.Entries group) p = refl
shown_nest nest cx _ p = refl

none_there : {X : Type 0} (xs : List X) → is_some xs ≡ false → xs ≡ []
none_there [] h = refl
none_there (x ∷ xs) h = absurd cc

-- of no frames there is no member
no_arrays : (lists : Lists) → members_of lists [] ≡ []
no_arrays [] = refl
no_arrays (l ∷ lists) = no_arrays lists

-- of no frames it is one object, whatever they are shown by
shown_none : (nest other : Nesting) (cx theirs : Around) (list : Shape) (p : List ℕ) → frames_in (items p) ≡ []
    → list_shown nest cx list p ≡ list_shown other theirs list p
shown_none nest other cx theirs (Shapes.Listed group table) p none =
    let F = frame_item nest cx (Shapes.Listed group table) in
    let G = frame_item other theirs (Shapes.Listed group table) in
    ap (λ fs. object_of (listed_under (group_name group) (map F fs))) none
    ∙ ap (λ fs. object_of (listed_under (group_name group) (map G fs))) (sym none)
shown_none nest other cx theirs (Shapes.Entries group) p none =
    ap (λ fs. object_of (objects_under (group_name group) (entries_shown nest cx (entry_list group) fs))) none
    ∙ ap (λ fs. object_of (objects_under (group_name group) (entries_shown other theirs (entry_list group) fs)))
    (sym none)
shown_none nest other cx theirs list p none =
    ap (λ fs. object_of (members_of (lists_in cx list) (map (frame_item nest cx list) fs))) none
    ∙ (λ k. object_of (no_arrays (lists_in cx list) k))
    ∙ sym (λ k. object_of (no_arrays (lists_in theirs list) k))
    ∙ ap (λ fs. object_of (members_of (lists_in theirs list) (map (frame_item other theirs list) fs))) (sym none)

-- counters of IPv6 are an object, or a list, in each order
ipv6_nest : (order : Order) (p : List ℕ) → is_nest (ipv6_counters_shown order p) ≡ true
ipv6_nest Orders.Unknown p = refl
ipv6_nest Orders.Before p = refl
ipv6_nest Orders.Since p = refl

-- ** two readings of a state, of two orders

module _ (cx : Around) (order : Order) (nest other : Nesting) (inner theirs : Inner) where
  -- lists hold the same in both
  abbrev pub AreSame : Type 0
  AreSame = (list : Shape) → is_shape list ≡ true → (p : List ℕ)
      → bare_held (nest list p, inner list p) ≡ bare_held (other list p, theirs list p)

  abbrev r : Reading
  r = record { is_state = true; nest = nest; inner = inner; around = cx }

  abbrev s : Reading
  s = record { is_state = true; nest = other; inner = theirs; around = with_order cx order }

  module _ (same : AreSame) where
    meaning_same : (style : Style) (action : Action) (m : Meaning)
        → bare_held (meaning_shown nest style m, meaning_inside inner action m)
        ≡ bare_held (meaning_shown other style m, meaning_inside theirs action m)
    meaning_same style action (Nested place p) = same (Shapes.Of place) refl p
    meaning_same style action (Fields members p) = refl
    meaning_same style action (Elements plain p) = refl
    meaning_same style action (Listed plain p) = refl
    meaning_same style action (Raw p) = refl
    meaning_same style action Present = refl
    meaning_same style action (Number n) = refl
    meaning_same style action (Signed z) = refl
    meaning_same style action (Words words) = refl
    meaning_same style action (Hardware octets) = refl
    meaning_same style action (Four address) = refl
    meaning_same style action (Six address) = refl

    form_same : (action : Action) (form : Form) (p : List ℕ) → is_form false form ≡ true
        → bare_held (form_shown nest cx form p, form_inside inner cx action form p)
        ≡ bare_held (
          form_shown other (with_order cx order) form p,
          form_inside theirs (with_order cx order) action form p,
        )
    form_same action Forms.Ipv6Counters p h = absurd cc
    form_same action (Forms.List list) p h = same list h p
    form_same action Forms.Info p h = same (info_of p) refl p
    form_same action _ p h = refl

    way_same : (action : Action) (way : Way) (p : List ℕ) → is_way false way ≡ true
        → bare_held (way_shown nest cx way p, way_inside inner cx action way p)
        ≡ bare_held (
          way_shown other (with_order cx order) way p,
          way_inside theirs (with_order cx order) action way p,
        )
    way_same action (Ways.Own form) p h = form_same action form p h
    way_same action (Ways.By style) p h = meaning_same style action (read_as style p)

    -- of counters of IPv6 nothing but that they are passed over
    way_passed : (action : Action) (way : Way) (p : List ℕ) → is_way true way ≡ true
        → bare_held (way_shown nest cx way p, Forest.passed)
        ≡ bare_held (way_shown other (with_order cx order) way p, Forest.passed)
    way_passed action (Ways.Own Forms.Ipv6Counters) p h =
        (ap (λ b. (cond b (begin_object ∷ []) (ipv6_counters_shown cx.order p), Forest.passed)) (ipv6_nest cx.order p))
        ∙ sym (ap (λ b. (cond b (begin_object ∷ []) (ipv6_counters_shown order p), Forest.passed)) (ipv6_nest order p))
    way_passed action (Ways.Own (Forms.List list)) p h =
        passed_same (nest list p) (other list p) (inner list p) (theirs list p) (same list h p)
    way_passed action (Ways.Own Forms.Info) p h =
        passed_same (nest (info_of p) p) (other (info_of p) p) (inner (info_of p) p) (theirs (info_of p) p)
        (same (info_of p) refl p)
    way_passed action (Ways.Own _) p h = refl
    way_passed action (Ways.By style) p h =
        passed_same (meaning_shown nest style (read_as style p)) (meaning_shown other style (read_as style p))
        (meaning_inside inner action (read_as style p)) (meaning_inside theirs action (read_as style p))
        (meaning_same style action (read_as style p))

    held_same : (action : Action) (way : Way) (p : List ℕ) → is_way (is_clear action) way ≡ true
        → bare_held (held_by r action way p) ≡ bare_held (held_by s action way p)
    held_same action way p h = by (is_clear action) h
      where
        by : (c : Bool) → is_way c way ≡ true
            → bare_held (way_shown nest cx way p, cond c Forest.passed (way_inside inner cx action way p))
            ≡ bare_held (
              way_shown other (with_order cx order) way p,
              cond c Forest.passed (way_inside theirs (with_order cx order) action way p),
            )
        by true h = way_passed action way p h
        by false h = way_same action way p h

    row_same : (list : Shape) (n : ℕ) → row_in (with_order cx order) list n ≡ row_in cx list n
    row_same list n = refl

    by_same : (action : Action) (row : Known) (f : Frame) → is_way (is_clear action) row.1 ≡ true
        → bare_all (named_by r action row f) ≡ bare_all (named_by s action row f)
    by_same action row f h = by (is_unnamed row.1 f.payload)
      where
        by : (b : Bool)
            → bare_all (cond b [] ((Step.name row.0, held_by r action row.1 f.payload) ∷ []))
            ≡ bare_all (cond b [] ((Step.name row.0, held_by s action row.1 f.payload) ∷ []))
        by true = refl
        by false = ap (λ held. (Step.name row.0, held) ∷ []) (held_same action row.1 f.payload h)

    named_same : (list : Shape) (fs : List Frame) → is_shape list ≡ true
        → bare_all (named_in r list fs) ≡ bare_all (named_in s list fs)
    named_same list fs h = bare_flat (frame_member r list) (frame_member s list) fs
        (λ f. by_same (action_in true list (number f)) (row_in cx list (number f)) f (row_way cx list (number f) h))

    value_same : (list : Shape) (n : ℕ) (f : Frame) → is_shape list ≡ true
        → bare_opts (value_with r list n f) ≡ bare_opts (value_with s list n f)
    value_same list n f h =
        let row : Known = row_in cx list (number f) in
        by row (action_in true list (number f)) (row_way cx list (number f) h) (number f == n) (is_each row.1)
      where
        by : (row : Known) (action : Action) → is_way (is_clear action) row.1 ≡ true → (b c : Bool)
            → bare_opts (cond b (cond c (Some (held_by r action row.1 f.payload) ∷ []) []) [])
            ≡ bare_opts (cond b (cond c (Some (held_by s action row.1 f.payload) ∷ []) []) [])
        by row action way true true = ap (λ held. Some held ∷ []) (held_same action row.1 f.payload way)
        by row action way true false = refl
        by row action way false c = refl

    -- the numbers are of rows, and no row depends on the order
    last_same : (list : Shape) (name : List ℕ) (before : Option Frame) (fs : List Frame)
        → last_named cx list name before fs ≡ last_named (with_order cx order) list name before fs
    last_same list name before [] = refl
    last_same list name before (f ∷ fs) = last_same list name (cond (is_named cx list name f) (Some f) before) fs

    found_same : (list : Shape) (f : Option Frame)
        → frame_number cx list f ≡ frame_number (with_order cx order) list f
    found_same list None = refl
    found_same list (Some f) = refl

    name_number_same : (list : Shape) (name p : List ℕ)
        → named_number cx list name p ≡ named_number (with_order cx order) list name p
    name_number_same list name p =
        let fs = frames_in (items p) in
        found_same list (last_named cx list name None fs)
        ∙ ap (frame_number (with_order cx order) list) (last_same list name None fs)

    meaning_number_same : (name : List ℕ) (m : Meaning)
        → meaning_number cx name m ≡ meaning_number (with_order cx order) name m
    meaning_number_same name (Nested place p) = name_number_same (Shapes.Of place) name p
    meaning_number_same name m = refl

    field_number_same : (name : List ℕ) (way : Way) (p : List ℕ)
        → field_number cx name way p ≡ field_number (with_order cx order) name way p
    field_number_same name (Ways.By style) p = meaning_number_same name (read_as style p)
    field_number_same name (Ways.Own form) p = refl

    function_same : (list : Shape) (fs : List Frame)
        → function_in cx list fs ≡ function_in (with_order cx order) list fs
    function_same list [] = refl
    function_same list (f ∷ fs) = ap (λ n.
        cond (is_record (row_in cx list (number f)).1 && not (list_any (λ g. number g == number f) fs))
        (Some (number_at w32 f.payload 0)) n) (function_same list fs)

    number_same : (key : Option Key) (list : Shape) (f : Frame)
        → number_in cx key list f ≡ number_in (with_order cx order) key list f
    number_same None list f = refl
    number_same (Some key) (Shapes.Entries group) f = λ k. bounded (cond (is_function (entry_list group))
        (function_same (entry_list group) (frames_in (items f.payload)) k)
        (name_number_same (entry_list group) (key_name key) f.payload k))
    number_same (Some key) list f =
        ap bounded (field_number_same (key_name key) (row_in cx list (number f)).1 f.payload)

    -- what stands inside a list, by its values
    inside_same : (key : Option Key) (list : Shape) (F G : Frame → List (Option Held)) (fs : List Frame)
        → ((f : Frame) → bare_opts (F f) ≡ bare_opts (G f))
        → bare (inside_of key (numbers_by (number_in cx key list) F fs) (flat_map F fs))
        ≡ bare (inside_of key (numbers_by (number_in (with_order cx order) key list) G fs) (flat_map G fs))
    inside_same key list F G fs same =
        of_same key (numbers_by (number_in cx key list) F fs)
        (numbers_by (number_in (with_order cx order) key list) G fs) (flat_map F fs) (flat_map G fs)
        (numbers_same (number_in cx key list) (number_in (with_order cx order) key list) F G fs
        (number_same key list) same)
        (opts_flat F G fs same)

    inside_some : (cx : Around) (key : Option Key) (list : Shape) (F : Frame → List (Option Held)) (fs : List Frame)
        → HoldsSome (flat_map F fs) (inside_of key (numbers_by (number_in cx key list) F fs) (flat_map F fs))
    inside_some cx key list F fs =
        of_some key (numbers_by (number_in cx key list) F fs) (flat_map F fs)
        (numbers_long (number_in cx key list) F fs)

    -- runs of VLANs depend on no order
    with_same : (list : Shape) (n : ℕ) (fs : List Frame) → is_shape list ≡ true
        → bare (inside_with r list n fs) ≡ bare (inside_with s list n fs)
    with_same list n fs h =
        let key = key_at (Some n) list in
        runs_same (runs_by (Some n) list fs)
        (inside_of key (numbers_by (number_in cx key list) (value_with r list n) fs) (values_with r list n fs))
        (inside_of key (numbers_by (number_in (with_order cx order) key list) (value_with s list n) fs)
        (values_with s list n fs))
        (inside_same key list (value_with r list n) (value_with s list n) fs (λ f. value_same list n f h))

    with_some : (cx : Around) (list : Shape) (n : ℕ) (F : Frame → List (Option Held)) (fs : List Frame)
        → HoldsSome (flat_map F fs) (runs_or (runs_by (Some n) list fs)
        (inside_of (key_at (Some n) list) (numbers_by (number_in cx (key_at (Some n) list) list) F fs)
        (flat_map F fs)))
    with_some cx list n F fs =
        let key = key_at (Some n) list in
        runs_some n list fs (flat_map F fs) (inside_of key (numbers_by (number_in cx key list) F fs) (flat_map F fs))
        (inside_some cx key list F fs)

    array_same : (name : List ℕ) (own : Bool) (hs js : List (Option Held)) (f g : Forest) → HoldsSome hs f
        → HoldsSome js g → bare_opts hs ≡ bare_opts js → bare f ≡ bare g
        → bare_all (array_at name own hs f) ≡ bare_all (array_at name own js g)
    array_same name own [] [] f g there here same inside = refl
    array_same name own [] (j ∷ js) f g there here same inside = absurd cc
    array_same name own (h ∷ hs) [] f g there here same inside = absurd cc
    array_same name own (h ∷ hs) (j ∷ js) f g there here same inside =
        ap (λ m. m ∷ []) (group_same (Step.array name) own (h ∷ hs) (j ∷ js) f g there here same inside)

    arrays_same : (list : Shape) (lists : Lists) (fs : List Frame) → is_shape list ≡ true
        → bare_all (arrays_of r list lists fs) ≡ bare_all (arrays_of s list lists fs)
    arrays_same list lists fs h =
        bare_flat
        (λ l. array_at l.1 (is_own_key (Some l.0) list) (values_with r list l.0 fs) (inside_with r list l.0 fs))
        (λ l. array_at l.1 (is_own_key (Some l.0) list) (values_with s list l.0 fs) (inside_with s list l.0 fs)) lists
        (λ l. array_same l.1 (is_own_key (Some l.0) list) (values_with r list l.0 fs) (values_with s list l.0 fs)
        (inside_with r list l.0 fs) (inside_with s list l.0 fs)
        (with_some cx list l.0 (value_with r list l.0) fs)
        (with_some (with_order cx order) list l.0 (value_with s list l.0) fs)
        (opts_flat (value_with r list l.0) (value_with s list l.0) fs (λ f. value_same list l.0 f h))
        (with_same list l.0 fs h))

    members_same : (list : Shape) (fs : List Frame) → is_shape list ≡ true
        → bare_all (members_in r list fs) ≡ bare_all (members_in s list fs)
    members_same list fs h =
        let own = named_in r list fs in
        let ones = named_in s list fs in
        let lists = arrays_in r list fs in
        let lists_too = arrays_in s list fs in
        let kept = others_at Step.other r list fs in
        bare_append (own ++ lists ++ list_at Step.repeated (earlier own)) kept
        ∙ ap (λ ms. ms ++ bare_all kept) (bare_append (own ++ lists) (list_at Step.repeated (earlier own))
        ∙ ap (λ ms. ms ++ bare_all (list_at Step.repeated (earlier own))) (bare_append own lists))
        ∙ (λ k. ((named_same list fs h k ++ arrays_same list (lists_in cx list) fs h k)
        ++ list_same Step.repeated (earlier own) (earlier ones) (earlier_same own ones (named_same list fs h)) k)
        ++ bare_all kept)
        ∙ ap (λ ms. ms ++ bare_all kept) (sym (bare_append (ones ++ lists_too) (list_at Step.repeated (earlier ones))
        ∙ ap (λ ms. ms ++ bare_all (list_at Step.repeated (earlier ones))) (bare_append ones lists_too)))
        ∙ sym (bare_append (ones ++ lists_too ++ list_at Step.repeated (earlier ones)) kept)

    -- values in one list
    opts_same : (ms ns : List Member) → bare_all ms ≡ bare_all ns
        → bare_opts (map (λ (m : Member). Some m.1) ms) ≡ bare_opts (map (λ (m : Member). Some m.1) ns)
    opts_same ms ns is =
        opts_of ms ∙ ap (map (λ (m : Member). Some m.1)) is ∙ sym (opts_of ns)

    listed_same : (group : Group) (list : Shape) (fs : List Frame) → is_shape list ≡ true
        → bare_all (listed_in r group list fs) ≡ bare_all (listed_in s group list fs)
    listed_same group list fs h =
        let own = named_in r list fs in
        let ones = named_in s list fs in
        let hs = map (λ (m : Member). Some m.1) own in
        let js = map (λ (m : Member). Some m.1) ones in
        let same = opts_same own ones (named_same list fs h) in
        (λ k. group_same (values_step (group_name group)) (is_own_key None list) hs js (places hs) (places js)
        (placed_some 0 hs) (placed_some 0 js) same (of_same None [] [] hs js refl same) k
        ∷ bare_all (others_at (rest_step (codes "other")) r list fs))

    -- objects in a list
    entry_same : (list : Shape) (p : List ℕ) → is_shape list ≡ true
        → bare_held (entry_of r list p) ≡ bare_held (entry_of s list p)
    entry_same list p h =
        let fs = frames_in (items p) in
        let q = settled r.is_state list p in
        left_same (object_of (members_of (lists_in cx list) (items_in nest cx list (items q))))
        (object_of (members_of (lists_in cx list) (items_in other (with_order cx order) list (items q)))) (is_some fs)
        (members_in r list fs) (members_in s list fs) refl refl
        (λ none. entry_none q
        (ap (λ x. frames_in (items x)) (settled_none r.is_state list p none) ∙ none_there fs none))
        (members_same list fs h)
      where
        entry_none : (q : List ℕ) → frames_in (items q) ≡ [] → object_of (members_of (lists_in cx list)
            (items_in nest cx list (items q)))
            ≡ object_of (members_of (lists_in cx list) (items_in other (with_order cx order) list (items q)))
        entry_none q none = ap (λ fs. object_of (members_of (lists_in cx list) (map (frame_item nest cx list) fs))) none
            ∙ ap (λ fs. object_of (members_of (lists_in cx list)
            (map (frame_item other (with_order cx order) list) fs)))
            (sym none)

    one_same : (list : Shape) (f : Frame) → is_shape list ≡ true
        → bare_opts (entry_with r list f) ≡ bare_opts (entry_with s list f)
    one_same list f h = by (number f == 1)
      where
        by : (b : Bool) → bare_opts (cond b (Some (entry_of r list f.payload) ∷ []) [])
            ≡ bare_opts (cond b (Some (entry_of s list f.payload) ∷ []) [])
        by true = ap (λ held. Some held ∷ []) (entry_same list f.payload h)
        by false = refl

    entries_same : (group : Group) (fs : List Frame) → is_shape (entry_list group) ≡ true
        → bare_one (group_of (entries_step (group_name group)) false (entries_in r (entry_list group) fs)
        (entries_inside r group fs))
        ≡ bare_one (group_of (entries_step (group_name group)) false (entries_in s (entry_list group) fs)
        (entries_inside s group fs))
    entries_same group fs h =
        let list = entry_list group in
        let key = key_at None (Shapes.Entries group) in
        group_same (entries_step (group_name group)) false (entries_in r list fs) (entries_in s list fs)
        (entries_inside r group fs) (entries_inside s group fs)
        (inside_some cx key (Shapes.Entries group) (entry_with r list) fs)
        (inside_some (with_order cx order) key (Shapes.Entries group) (entry_with s list) fs)
        (opts_flat (entry_with r list) (entry_with s list) fs (λ f. one_same list f h))
        (inside_same key (Shapes.Entries group) (entry_with r list) (entry_with s list) fs
        (λ f. one_same list f h))

    entry_shape : (group : Group) → is_shape (entry_list group) ≡ true
    entry_shape Groups.AltIfname = refl
    entry_shape Groups.Info = refl
    entry_shape Groups.Port = refl

    lists_same : (list : Shape) (fs : List Frame) → is_shape list ≡ true
        → bare_all (list_members r list fs) ≡ bare_all (list_members s list fs)
    lists_same (Shapes.Listed group table) fs h = listed_same group (Shapes.Listed group table) fs h
    lists_same (Shapes.Entries group) fs h = ap (λ m. m ∷ []) (entries_same group fs (entry_shape group))
    lists_same list fs h = members_same list fs h

    -- one level up
    list_above : (list : Shape) → is_shape list ≡ true → (p : List ℕ)
        → bare_held (list_shown nest cx list p, inner_by r list p)
        ≡ bare_held (list_shown other (with_order cx order) list p, inner_by s list p)
    list_above list h p =
        let fs = frames_in (items p) in
        left_same (list_shown nest cx list p) (list_shown other (with_order cx order) list p) (is_some fs)
        (list_members r list fs) (list_members s list fs) (shown_nest nest cx list p)
        (shown_nest other (with_order cx order) list p)
        (λ none. shown_none nest other cx (with_order cx order) list p (none_there fs none)) (lists_same list fs h)

-- ** all levels

abbrev reading_by : ℕ → Around → Reading
reading_by n cx = record { is_state = true; nest = levels n cx; inner = (reading n true cx).inner; around = cx }

reading_is : (n : ℕ) (cx : Around) → reading n true cx ≡ reading_by n cx
reading_is zero cx = refl
reading_is (suc n) cx = refl

module _ (cx : Around) (order : Order) where
  all_levels : (n : ℕ) → AreSame cx order (levels n cx) (levels n (with_order cx order)) (reading n true cx).inner
      (reading n true (with_order cx order)).inner
  all_levels zero list h p = refl
  all_levels (suc n) list h p =
      ap (λ (r : Reading). bare_held (list_shown (levels n cx) cx list p, inner_by r list p)) (reading_is n cx)
      ∙ list_above cx order (levels n cx) (levels n (with_order cx order)) (reading n true cx).inner
      (reading n true (with_order cx order)).inner (all_levels n) list h p
      ∙ ap (λ (r : Reading). bare_held (
        list_shown (levels n (with_order cx order)) (with_order cx order) list p,
        inner_by r list p,
      )) (sym (reading_is n (with_order cx order)))

-- ** messages

module _ (cx : Around) (order : Order) (m : Parts) where
  abbrev family : ℕ
  family = slice_index m.header 0

  attributes_same : bare_all (attributes_in true cx family m.attributes)
      ≡ bare_all (attributes_in true (with_order cx order) family m.attributes)
  attributes_same =
      let fs = frames_in (items m.attributes) in
      let own = with_address_len cx (address_len fs) in
      members_same own order (levels 5 own) (levels 5 (with_order own order)) (reading 5 true own).inner
      (reading 5 true (with_order own order)).inner (all_levels own order 5) (Shapes.Message family) fs refl

  refused_same : bare_all (refused_in true cx m.refused) ≡ bare_all (refused_in true (with_order cx order) m.refused)
  refused_same =
      let other = with_order cx order in
      let own = levels 1 cx Shapes.Refused m.refused in
      let theirs = levels 1 other Shapes.Refused m.refused in
      unless_bare refused_step own ((reading 1 true cx).inner Shapes.Refused m.refused) refl
      ∙ ap (λ (held : Held). unless_none refused_step (begin_object ∷ []) held.1)
      (all_levels cx order 1 Shapes.Refused refl m.refused)
      ∙ sym (unless_bare refused_step theirs ((reading 1 true other).inner Shapes.Refused m.refused) refl)

  all_same : bare_all (message_members true cx m) ≡ bare_all (message_members true (with_order cx order) m)
  unfolding message_members
  all_same =
      let header = named (header_members m.header) in
      let other = with_order cx order in
      let own = attributes_in true cx family m.attributes in
      let theirs = attributes_in true other family m.attributes in
      bare_append (header ++ own) (refused_in true cx m.refused)
      ∙ (λ k. bare_append header own k ++ refused_same k)
      ∙ (λ k. (bare_all header ++ attributes_same k) ++ bare_all (refused_in true other m.refused))
      ∙ (λ k. sym (bare_append header theirs) k ++ bare_all (refused_in true other m.refused))
      ∙ sym (bare_append (header ++ theirs) (refused_in true other m.refused))

pub order_alone : (cx : Around) (order : Order) (m : Parts)
    → leaves (message_forest true (with_order cx order) m) ≡ leaves (message_forest true cx m)
order_alone cx order m =
    sym (leaves_bare (message_made true (with_order cx order) m))
    ∙ ap (λ f. leaves (flat f)) (forest_bare (message_members true (with_order cx order) m)
    ∙ ap forest (sym (all_same cx order m))
    ∙ sym (forest_bare (message_members true cx m)))
    ∙ leaves_bare (message_made true cx m)
