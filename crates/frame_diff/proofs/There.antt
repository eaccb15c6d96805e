-- An attribute that stands in the other list as it is tells nothing.
use Rattle.std.proofs.Common.{◌≡◌, ℕ, ◌||◌, Bool, true, false, List, [], ◌∷◌, ◌++◌, refl, sym, ap, ◌∙◌, append_assoc}
use Rattle.std.proofs.Common.{Ok, eq-eqb, eqb-true, map}
use Rattle.std.specs.Prelude.{◌==◌, IfSome, Option, Some, None, cond, nat_lt, option_map}
use Rattle.std.specs.List.{list_any}
use Rattle.std.proofs.lemmas.Bool.{or_parts}
use Rattle.nla_wire.specs.Frames.{Frame, number}
use Rattle.nla_wire.specs.Items.{Item as Read, items}
use Rattle.link_info.specs.Tables.{frames_in}
use Rattle.shown.specs.Drafts.{Draft, Members, with_members}
use Rattle.frame_shown.specs.Frames.{are_twice, by_number}
use Rattle.frame_shown.specs.Items.{Item, are_any, comes_in, earlier_ones, objects}
use Rattle.frame_shown.specs.Items.{has_number as has_shown_number}
use Rattle.frame_shown.specs.Tables.{Known, listed_row, no_row, row_in}
use Rattle.frame_shown.specs.declared.form.Around.{Around}
use Rattle.frame_shown.specs.declared.form.List.{List as Shape}
use Rattle.frame_shown.proofs.Items.{any_earlier}
use Rattle.frame_diff.specs.Beside.{held_of}
use Rattle.frame_diff.specs.Counters.{action_in}
use Rattle.frame_diff.specs.Forests.{AreApart, Forest, Held, Member, Step, comes, find, forest, is_step}
use Rattle.frame_diff.specs.Forests.{is_text}
use Rattle.frame_diff.specs.Items.{joined}
use Rattle.frame_diff.specs.Members.{Reading, alone, earlier, frame_member, held_by, named_in, is_unnamed}
use Rattle.frame_diff.specs.Repeated.{earlier_at}
use Rattle.frame_diff.specs.Shown.{HasNamesApart}
use Rattle.frame_diff.specs.Walked.{AreAlike, AreOfFrame, HasNames, HasRowOf, Holding, HoldsApart, IsOf, IsOfNumber}
use Rattle.frame_diff.specs.Walked.{IsTail}
use Rattle.frame_diff.specs.Walked.{NoneBehind, Showing, held_at, held_items, is_unnamed_there, is_there}
use Rattle.frame_diff.specs.Walked.{IsNamedBy, NoneComes, frame_items, is_row_alike, last_items, named_at, reading_at}
use Rattle.frame_diff.specs.declared.side.Side.{Side}
use Rattle.frame_diff.specs.declared.walk.Attribute.{Attribute}
use Rattle.frame_diff.specs.declared.walk.Attributes.{Attributes}
use Rattle.frame_diff.proofs.Apart.{find_none, held_apart}
use Rattle.frame_diff.proofs.Beside.{found_last, last_at, or_else}
use Rattle.frame_diff.proofs.Steps.{text_is, text_same}
use Rattle.frame_diff.proofs.Repeated.{further}
use Rattle.frame_diff.proofs.Walked.{last_same, rows_same}
use Rattle.frame_diff.proofs.Unnamed.{not_kept}

-- ** numbers that stand once

once_behind : (f : Frame) (rest : List Item) → are_any (earlier_ones (by_number f ∷ rest)) ≡ false
    → are_any (earlier_ones rest) ≡ false
once_behind f rest = by (nat_lt (number f) 256)
  where
    by : (b : Bool)
        → are_any (earlier_ones (cond b (Item.named (number f) []) (Item.as_is [] 0 []) ∷ rest)) ≡ false
        → are_any (earlier_ones rest) ≡ false
    by true h =
        (or_parts (comes_in (number f) rest) (are_any (earlier_ones rest))
        (sym (any_earlier (number f) [] rest) ∙ h)).1
    by false h = h

-- behind an attribute no other one of its number
none_behind : (fs : List Frame) (g : Frame) (gs : List Frame) → nat_lt (number g) 256 ≡ true
    → are_any (earlier_ones (map by_number (fs ++ g ∷ gs))) ≡ false
    → comes_in (number g) (map by_number gs) ≡ false
none_behind [] g gs small once =
    (or_parts (comes_in (number g) (map by_number gs)) (are_any (earlier_ones (map by_number gs)))
    (sym (any_earlier (number g) [] (map by_number gs))
    ∙ ap (λ b. are_any (earlier_ones (cond b (Item.named (number g) []) (Item.as_is [] 0 []) ∷ map by_number gs)))
    (sym small)
    ∙ once)).0
none_behind (f ∷ fs) g gs small once = none_behind fs g gs small (once_behind f (map by_number (fs ++ g ∷ gs)) once)

-- where none has a number, none comes
none_comes : (n : ℕ) (fs : List Frame) → list_any (λ f. number f == n) fs ≡ false
    → comes_in n (map by_number fs) ≡ false
none_comes n [] none = refl
none_comes n (f ∷ fs) none =
    let parts = or_parts (number f == n) (list_any (λ f. number f == n) fs) none in
    (λ k. by (nat_lt (number f) 256) parts.0 k || none_comes n fs parts.1 k)
  where
    by : (b : Bool) → (number f == n) ≡ false
        → has_shown_number n (cond b (Item.named (number f) []) (Item.as_is [] 0 [])) ≡ false
    by true other = other
    by false other = refl

-- what is found at a step behind others is what is found there
pub last_kept : (s : Step) (ms more : List Member) (held : Held) → last_at s more ≡ Some held
    → last_at s (ms ++ more) ≡ Some held
last_kept s [] more held is = is
last_kept s (m ∷ ms) more held is =
    ap (λ l. or_else l (cond (is_step m.0 s) (Some m.1) None)) (last_kept s ms more held is)

-- only a number below 256 has a name
small_by : (b : Bool) (row : Known) (p : List ℕ) → is_unnamed (cond b row no_row).1 p ≡ false → b ≡ true
small_by true row p named = refl
small_by false row p named = absurd cc

has_small : (n m : ℕ) → nat_lt m 256 ≡ true → (m == n) ≡ true
    → has_shown_number n (cond (nat_lt m 256) (Item.named m []) (Item.as_is [] 0 [])) ≡ true
has_small n m small same = ap (λ b. has_shown_number n (cond b (Item.named m []) (Item.as_is [] 0 []))) small ∙ same

module _ (r : Reading) (list : Shape) (names : HasNamesApart r.around list) where
  abbrev row : Frame → Known
  row f = row_in r.around list (number f)

  abbrev kept : Frame → Bool
  kept f = is_unnamed (row f).1 f.payload

  small : (f : Frame) → kept f ≡ false → nat_lt (number f) 256 ≡ true
  small f named = small_by (nat_lt (number f) 256) (listed_row r.around list (number f)) f.payload named

  -- no attribute of its name comes, where none of its number does
  none_named : (f : Frame) → kept f ≡ false → (gs : List Frame) → comes_in (number f) (map by_number gs) ≡ false
      → comes (Step.name (row f).0) (named_in r list gs) ≡ false
  none_named f named [] none = refl
  none_named f named (g ∷ gs) none =
      let parts = or_parts (has_shown_number (number f) (by_number g)) (comes_in (number f) (map by_number gs)) none in
      by (kept g) refl (is_text (row g).0 (row f).0) refl parts.0 (none_named f named gs parts.1)
    where
      behind : List Member
      behind = named_in r list gs

      same_number : (number f == number f) ≡ true
      same_number = eq-eqb (number f) (number f) refl

      by : (b : Bool) → kept g ≡ b → (same : Bool) → is_text (row g).0 (row f).0 ≡ same
          → has_shown_number (number f) (by_number g) ≡ false → comes (Step.name (row f).0) behind ≡ false
          → comes (Step.name (row f).0) (cond b [] ((Step.name (row g).0, held_of r list g) ∷ []) ++ behind) ≡ false
      by true is same text lacks later = later
      by false is false text lacks later =
          ap (λ b. cond b true (comes (Step.name (row f).0) behind)) text ∙ later
      by false is true text lacks later =
          let one : number g ≡ number f =
          names.numbers (number g) (number f) g.payload f.payload (not_kept (row g).1 g.payload is)
          (not_kept (row f).1 f.payload named) (text_same (row g).0 (row f).0 text) in
          let has : has_shown_number (number f) (by_number g) ≡ true =
          has_small (number f) (number g) (small g is) (ap (λ k. k == number f) one ∙ same_number) in
          let clash : true ≡ false = sym has ∙ lacks in
          absurd cc

  -- one of its number is what is found under its name
  found_there : (f : Frame) → kept f ≡ false → (fs : List Frame) (g : Frame) (gs : List Frame)
      → number g ≡ number f → kept g ≡ false → are_any (earlier_ones (map by_number (fs ++ g ∷ gs))) ≡ false
      → last_at (Step.name (row f).0) (named_in r list (fs ++ g ∷ gs)) ≡ Some (held_of r list g)
  found_there f named fs g gs one there once = in_front fs
    where
      s : Step
      s = Step.name (row f).0

      behind : List Member
      behind = named_in r list gs

      one_member : frame_member r list g ≡ (s, held_of r list g) ∷ []
      one_member =
          ap (λ b. cond b [] ((Step.name (row g).0, held_of r list g) ∷ [])) there
          ∙ (λ k. (Step.name (row_in r.around list (one k)).0, held_of r list g) ∷ [])

      none : comes s behind ≡ false
      none = none_named f named gs
          (ap (λ n. comes_in n (map by_number gs)) (sym one)
          ∙ none_behind fs g gs (ap (λ n. nat_lt n 256) one ∙ small f named) once)

      lacking : last_at s behind ≡ None
      lacking = sym (found_last s behind) ∙ find_none s behind none

      here : last_at s (named_in r list (g ∷ gs)) ≡ Some (held_of r list g)
      here =
          ap (λ ms. last_at s (ms ++ behind)) one_member
          ∙ (λ k. or_else (lacking k) (cond (text_is (row f).0 k) (Some (held_of r list g)) None))

      in_front : (xs : List Frame) → last_at s (named_in r list (xs ++ g ∷ gs)) ≡ Some (held_of r list g)
      in_front [] = here
      in_front (x ∷ xs) =
          last_kept s (frame_member r list x) (named_in r list (xs ++ g ∷ gs)) (held_of r list g) (in_front xs)

  -- and where there is none, nothing is
  found_nothing : (f : Frame) → kept f ≡ false → (gs : List Frame)
      → list_any (λ g. number g == number f) gs ≡ false
      → last_at (Step.name (row f).0) (named_in r list gs) ≡ None
  found_nothing f named gs none =
      sym (found_last (Step.name (row f).0) (named_in r list gs))
      ∙ find_none (Step.name (row f).0) (named_in r list gs)
      (none_named f named gs (none_comes (number f) gs none))

  -- no attribute of a list in which no number stands twice has another one of its name behind it
  none_earlier : (fs : List Frame) → are_any (earlier_ones (map by_number fs)) ≡ false
      → earlier (named_in r list fs) ≡ []
  none_earlier [] once = refl
  none_earlier (f ∷ fs) once =
      further r list f fs
      ∙ (λ k. by (kept f) refl k ++ none_earlier fs (once_behind f (map by_number fs) once) k)
    where
      name : Step
      name = Step.name (row f).0

      by : (b : Bool) → kept f ≡ b
          → cond b [] (cond (comes name (named_in r list fs)) (alone (name, held_of r list f) ∷ []) []) ≡ []
      by true is = refl
      by false is = ap (λ b. cond b (alone (name, held_of r list f) ∷ []) [])
          (none_named f is fs (none_behind [] f fs (small f is) once))

-- ** what it tells

abbrev kept_beside : Reading → Shape → Option Frame → Bool
kept_beside r list None = false
kept_beside r list (Some g) = is_unnamed (row_in r.around list (number g)).1 g.payload

module _ (nest : Showing) (inner : Holding) (is_state : Bool) (side : Side) (text : List ℕ)
    (behind others : Attributes) (alike : AreAlike behind others) (f : Frame) where
  abbrev r : Reading
  r = reading_at nest inner is_state behind.around.now

  abbrev s : Reading
  s = reading_at nest inner is_state others.around.now

  abbrev name : List ℕ
  name = (row_in behind.around.now behind.list (number f)).0

  abbrev ms : List Member
  ms = named_at nest inner is_state behind

  abbrev all : Forest
  all = forest (named_at nest inner is_state others)

  -- what is found by the rows of this list
  found_by : (fs : List Frame) → frames_in (items others.bytes.now) ≡ fs
      → find (Step.name name) all ≡ last_at (Step.name name) (named_in r behind.list fs)
  found_by fs is =
      (λ k. find (Step.name name)
      (forest (named_in (reading_at nest inner is_state (sym alike.0 k)) (sym alike.1 k) (is k))))
      ∙ found_last (Step.name name) (named_in r behind.list fs)

  -- beside the one of its number
  found_beside : is_unnamed (row_in behind.around.now behind.list (number f)).1 f.payload ≡ false
      → are_twice (items others.bytes.now) ≡ false → (beside : Option Frame)
      → IsOfNumber (number f) others.bytes.now beside → kept_beside r behind.list beside ≡ false
      → find (Step.name name) all ≡ option_map (held_of r behind.list) beside
  found_beside named once None none kept =
      found_by (frames_in (items others.bytes.now)) refl
      ∙ found_nothing r behind.list (alike.2 behind.list) f named (frames_in (items others.bytes.now)) none
  found_beside named once (Some g) one kept =
      found_by (one.0 ++ g ∷ one.1) one.2
      ∙ found_there r behind.list (alike.2 behind.list) f named one.0 g one.1 one.3 kept
      (ap (λ fs. are_any (earlier_ones (map by_number fs))) (sym one.2) ∙ once)

  single_told : is_unnamed (row_in behind.around.now behind.list (number f)).1 f.payload ≡ false
      → NoneBehind f behind → are_twice (items others.bytes.now) ≡ false → (beside : Option Frame)
      → IsOfNumber (number f) others.bytes.now beside → kept_beside r behind.list beside ≡ false
      → frame_items side text r behind.list all ms f
      ≡ held_items side (joined text name) (held_of r behind.list f) (option_map (held_of r behind.list) beside)
  single_told named none once beside one kept =
      ap (λ b. cond b []
      (last_items side text ms (Step.name name, held_of r behind.list f) (find (Step.name name) all))) named
      ∙ ap (λ b. cond b [] (held_items side (joined text name) (held_of r behind.list f) (find (Step.name name) all)))
      (none_named r behind.list (alike.2 behind.list) f named (frames_in (items behind.bytes.now))
      (none (small r behind.list (alike.2 behind.list) f named)))
      ∙ ap (held_items side (joined text name) (held_of r behind.list f)) (found_beside named once beside one kept)

  -- the same, as attributes of both lists
  kept_same : (there : Option Attribute) (beside : Option Frame) → IfSome there (IsOf others)
      → AreOfFrame there beside → is_unnamed_there there ≡ false → kept_beside r behind.list beside ≡ false
  kept_same None None of frame kept = refl
  kept_same None (Some g) of frame kept = absurd frame
  kept_same (Some a) None of frame kept = absurd frame
  kept_same (Some a) (Some g) of frame kept =
      (λ k. is_unnamed (row_in (alike.0 k) (alike.1 k) (sym frame.0 k)).1 (sym frame.1 k))
      ∙ ap (λ w. is_unnamed w a.payload.now) (sym of.2) ∙ kept

  held_same_too : (beside : Option Frame)
      → option_map (held_of s others.list) beside ≡ option_map (held_of r behind.list) beside
  held_same_too beside =
      (λ k. option_map (held_of (reading_at nest inner is_state (sym alike.0 k)) (sym alike.1 k)) beside)

  pub single_page : (own : Attribute) (there : Option Attribute) (beside : Option Frame) (page new : Draft)
      → IsOf behind own → own.number ≡ number f → own.payload.now ≡ f.payload
      → held_at nest inner is_state own ≡ held_of r behind.list f
      → option_map (held_at nest inner is_state) there ≡ option_map (held_of s others.list) beside
      → IfSome there (IsOf others) → AreOfFrame there beside
      → is_unnamed own.way own.payload.now ≡ false → is_unnamed_there there ≡ false
      → NoneBehind f behind → are_twice (items others.bytes.now) ≡ false → IsOfNumber (number f) others.bytes.now beside
      → (told : List ℕ) → told ≡ (row_in behind.around.now behind.list own.number).0
      → new ≡ with_members (objects (held_items side (joined text told) (held_at nest inner is_state own)
      (option_map (held_at nest inner is_state) there))) page
      → new ≡ with_members (objects (frame_items side text r behind.list all ms f)) page
  single_page own there beside page new of number_is payload held held_there of_too frame kept kept_too none once one
      told named is =
      let own_kept : is_unnamed (row_in behind.around.now behind.list (number f)).1 f.payload ≡ false =
      (λ k. is_unnamed (row_in behind.around.now behind.list (sym number_is k)).1 (sym payload k))
      ∙ ap (λ w. is_unnamed w own.payload.now) (sym of.2) ∙ kept in
      is
      ∙ (λ k. with_members (objects (held_items side
      (joined text ((named ∙ ap (λ n. (row_in behind.around.now behind.list n).0) number_is) k)) (held k)
      ((held_there ∙ held_same_too beside) k))) page)
      ∙ ap (λ os. with_members (objects os) page)
      (sym (single_told own_kept none once beside one (kept_same there beside of_too frame kept_too)))

  -- one that stands there as it is tells nothing
  module _ (apart : HoldsApart inner) where
    own_apart : AreApart (held_of r behind.list f).1
    own_apart = held_apart (inner is_state behind.around.now) behind.around.now
        (action_in is_state behind.list (number f)) (row_in behind.around.now behind.list (number f)).1 f.payload
        (apart is_state behind.around.now)

    same_frame : (g : Frame) → number g ≡ number f → g.payload ≡ f.payload
        → held_of r behind.list g ≡ held_of r behind.list f
    same_frame g one same = (λ k. held_by r (action_in is_state behind.list (one k))
        (row_in behind.around.now behind.list (one k)).1 (same k))

    untold : (g : Frame) → are_twice (items others.bytes.now) ≡ false
        → IsOfNumber (number f) others.bytes.now (Some g) → g.payload ≡ f.payload
        → frame_items side text r behind.list all ms f ≡ []
    untold g once one same =
        by (is_unnamed (row_in behind.around.now behind.list (number f)).1 f.payload) refl
      where
        by : (kept : Bool) → is_unnamed (row_in behind.around.now behind.list (number f)).1 f.payload ≡ kept
            → cond kept []
            (last_items side text ms (Step.name name, held_of r behind.list f) (find (Step.name name) all)) ≡ []
        by true named = refl
        by false named =
            last_same side text ms (Step.name name, held_of r behind.list f) (find (Step.name name) all) own_apart
            (found_beside named once (Some g) one
            ((λ k. is_unnamed (row_in behind.around.now behind.list (one.3 k)).1 (same k)) ∙ named)
            ∙ ap Some (same_frame g one.3 same))

    pub there_page : (beside : Option Frame) (page : Draft) → are_twice (items others.bytes.now) ≡ false
        → IsOfNumber (number f) others.bytes.now beside → is_there f.payload beside ≡ true
        → page ≡ with_members (objects (frame_items side text r behind.list all ms f)) page
    there_page None page once one there = absurd cc
    there_page (Some g) page once one there =
        sym (ap (λ os. with_members (objects os) page)
        (untold g once one (sym (text_same f.payload g.payload there))))

-- another one of its number has the row of this one
pub rows_beside : (behind others : Attributes) (own : Attribute) (there : Option Attribute) (f : Frame)
    (beside : Option Frame) → IsOf behind own → IfSome there (IsOf others) → AreAlike behind others
    → own.number ≡ number f → AreOfFrame there beside → IsOfNumber (number f) others.bytes.now beside
    → HasRowOf own there
rows_beside behind others own there f beside of too alike is frame found =
    rows_same behind others own there true of too (λ h. alike) (by there beside frame found)
  where
    by : (there : Option Attribute) (beside : Option Frame) → AreOfFrame there beside
        → IsOfNumber (number f) others.bytes.now beside → is_row_alike true own.number there ≡ true
    by None beside frame found = refl
    by (Some a) None frame found = absurd frame
    by (Some a) (Some g) frame found = eq-eqb a.number own.number (frame.0 ∙ found.3 ∙ sym is)

-- behind an attribute of a list in which no number stands twice no other one of its name comes
pub none_comes_behind : (behind : Attributes) (f : Frame) → HasNames behind.around.now → NoneBehind f behind
    → is_unnamed (row_in behind.around.now behind.list (number f)).1 f.payload ≡ false
    → NoneComes behind (row_in behind.around.now behind.list (number f)).0
none_comes_behind behind f names none named nest inner is_state =
    let r = reading_at nest inner is_state behind.around.now in
    none_named r behind.list (names behind.list) f named (frames_in (items behind.bytes.now))
    (none (small r behind.list (names behind.list) f named))

-- a number that is too large for a row has no name
pub large_unnamed : (cx : Around) (list : Shape) (f : Frame) → nat_lt (number f) 256 ≡ false
    → is_unnamed (row_in cx list (number f)).1 f.payload ≡ true
large_unnamed cx list f large = ap (λ b. is_unnamed (cond b (listed_row cx list (number f)) no_row).1 f.payload) large

-- what an attribute tells that has a name, by whether another one of its name comes behind it
module _ (nest : Showing) (inner : Holding) (is_state : Bool) (side : Side) (text : List ℕ)
    (behind others : Attributes) (f : Frame) where
  abbrev reads : Reading
  reads = reading_at nest inner is_state behind.around.now

  abbrev there : Forest
  there = forest (named_at nest inner is_state others)

  abbrev theirs : List Member
  theirs = named_at nest inner is_state behind

  abbrev items_of : List Members
  items_of = frame_items side text reads behind.list there theirs f

  abbrev label : List ℕ
  label = (row_in behind.around.now behind.list (number f)).0

  told_last : is_unnamed (row_in behind.around.now behind.list (number f)).1 f.payload ≡ false
      → items_of ≡ last_items side text theirs (Step.name label, held_of reads behind.list f)
      (find (Step.name label) there)
  told_last named =
      ap (λ b. cond b [] (last_items side text theirs (Step.name label, held_of reads behind.list f)
      (find (Step.name label) there))) named

  pub unnamed_page : (page : Draft) → is_unnamed (row_in behind.around.now behind.list (number f)).1 f.payload ≡ true
      → page ≡ with_members (objects items_of) page
  unnamed_page page kept =
      sym (ap (λ b. with_members (objects (cond b [] (last_items side text theirs
      (Step.name label, held_of reads behind.list f) (find (Step.name label) there)))) page) kept)

  pub row_again : (name : List ℕ) (page : Draft) → IsNamedBy behind f name
      → comes (Step.name name) theirs ≡ true → page ≡ with_members (objects items_of) page
  row_again name page named again =
      sym (ap (λ os. with_members (objects os) page)
      (told_last named.0
      ∙ ap (λ b. cond b [] (held_items side (joined text label) (held_of reads behind.list f)
      (find (Step.name label) there)))
      (ap (λ n. comes (Step.name n) theirs) (sym named.1) ∙ again)))

  pub row_told : (name : List ℕ) (own : Attribute) (page new : Draft) → IsNamedBy behind f name
      → comes (Step.name name) theirs ≡ false
      → held_at nest inner is_state own ≡ held_of reads behind.list f
      → new ≡ with_members (objects (held_items side (joined text name) (held_at nest inner is_state own)
      (find (Step.name name) there))) page
      → new ≡ with_members (objects items_of) page
  row_told name own page new named once held is =
      is
      ∙ (λ k. with_members (objects (held_items side (joined text (named.1 k)) (held k)
      (find (Step.name (named.1 k)) there))) page)
      ∙ sym (ap (λ os. with_members (objects os) page)
      (told_last named.0
      ∙ ap (λ b. cond b [] (held_items side (joined text label) (held_of reads behind.list f)
      (find (Step.name label) there)))
      (ap (λ n. comes (Step.name n) theirs) (sym named.1) ∙ once)))

pub none_again : (nest : Showing) (inner : Holding) (is_state : Bool) (own : Attributes) → HasNames own.around.now
    → are_twice (items own.bytes.now) ≡ false → earlier_at nest inner is_state own ≡ []
none_again nest inner is_state own names once =
    none_earlier (reading_at nest inner is_state own.around.now) own.list (names own.list)
    (frames_in (items own.bytes.now)) once

-- ** where it stands

pub tail_behind : (whole bytes next : List ℕ) (f : Frame) (rest : List Read) → IsTail whole bytes
    → items bytes ≡ Ok f ∷ rest → items next ≡ rest → IsTail whole next
tail_behind whole bytes next f rest tail here left = (
  tail.0 ++ f ∷ [],
  tail.1 ∙ ap (λ xs. tail.0 ++ frames_in xs) here
      ∙ sym (append_assoc tail.0 (f ∷ []) (frames_in rest))
      ∙ ap (λ xs. (tail.0 ++ f ∷ []) ++ frames_in xs) (sym left),
)

pub other_number : (a b : ℕ) → (a ≡ b → ⊥) → (a == b) ≡ false
other_number a b other = by (a == b) refl
  where
    by : (same : Bool) → (a == b) ≡ same → same ≡ false
    by false is = refl
    by true is = absurd (other (eqb-true a b is))

-- one more in front
pub passed_one : (all : List ℕ) (fs : List Frame) (f : Frame) (it next : List Read)
    → frames_in (items all) ≡ fs ++ frames_in it → it ≡ Ok f ∷ next
    → frames_in (items all) ≡ (fs ++ f ∷ []) ++ frames_in next
passed_one all fs f it next is here =
    is ∙ ap (λ xs. fs ++ frames_in xs) here ∙ sym (append_assoc fs (f ∷ []) (frames_in next))

-- none of those in front has a number, nor does the next one
pub none_further : (n : ℕ) (fs : List Frame) (f : Frame) → list_any (λ g. number g == n) fs ≡ false
    → (number f == n) ≡ false → list_any (λ g. number g == n) (fs ++ f ∷ []) ≡ false
none_further n [] f none other = ap (λ b. b || false) other
none_further n (g ∷ fs) f none other =
    let parts = or_parts (number g == n) (list_any (λ g. number g == n) fs) none in
    (λ k. parts.0 k || none_further n fs f parts.1 other k)

-- none behind the first of what is left of a list
pub none_left : (whole next : List ℕ) (behind : Attributes) (f : Frame) (rest : List Read) (tail : IsTail whole next)
    → items next ≡ Ok f ∷ rest → items behind.bytes.now ≡ rest → are_twice (items whole) ≡ false → NoneBehind f behind
none_left whole next behind f rest tail here left once small =
    ap (λ xs. comes_in (number f) (map by_number (frames_in xs))) left
    ∙ none_behind tail.0 f (frames_in rest) small
    (ap (λ fs. are_any (earlier_ones (map by_number fs)))
    (sym (tail.1 ∙ ap (λ xs. tail.0 ++ frames_in xs) here)) ∙ once)

pub found_first : (n : ℕ) (whole found : List ℕ) (f : Frame) (rest : List Read) → IsTail whole found
    → items found ≡ Ok f ∷ rest → number f ≡ n → IsOfNumber n whole (Some f)
found_first n whole found f rest tail here is =
    (tail.0, frames_in rest, tail.1 ∙ ap (λ xs. tail.0 ++ frames_in xs) here, is)
