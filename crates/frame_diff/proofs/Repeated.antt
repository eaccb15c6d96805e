-- Attributes behind which another one of their name stands: what they tell at their places.
use Rattle.std.proofs.Common.{◌≡◌, ℕ, zero, suc, ◌+◌, ◌≤◌, Bool, true, false, List, [], ◌∷◌, ◌++◌, refl}
use Rattle.std.proofs.Common.{sym, ap, ◌∙◌, Ok, append-nil, arith}
use Rattle.std.specs.Prelude.{IfSome, Option, Some, None, cond, decimal, is_some, option_map}
use Rattle.std.proofs.lemmas.List.{map-append}
use Rattle.nla_wire.specs.Frames.{Frame, number}
use Rattle.nla_wire.proofs.Items.{items_nil}
use Rattle.nla_wire.specs.Items.{Item, frame_count}
use Rattle.link_info.specs.Tables.{frames_in}
use Rattle.shown.specs.Drafts.{Draft, object_of, with_members}
use Rattle.frame_shown.specs.Items.{objects}
use Rattle.frame_shown.specs.Tables.{row_in}
use Rattle.frame_shown.specs.declared.form.List.{List as Shape}
use Rattle.frame_shown.proofs.Items.{on_next}
use Rattle.frame_diff.specs.Beside.{held_of}
use Rattle.frame_diff.specs.Differences.{inside_in}
use Rattle.frame_diff.specs.Forests.{Held, Member, Step, comes, find, forest, is_text}
use Rattle.frame_diff.specs.Items.{items_told, joined}
use Rattle.frame_diff.specs.Members.{Reading, alone, earlier, named_in, placed, places, is_unnamed}
use Rattle.frame_diff.specs.Repeated.{GoesOnAt, IsBeside, IsSameAgain, again_held, again_in, again_items, alone_at}
use Rattle.frame_diff.specs.Repeated.{earlier_at}
use Rattle.frame_diff.specs.Repeated.{earlier_in, place_by}
use Rattle.frame_diff.specs.Values.{nth}
use Rattle.frame_diff.specs.Walked.{AreAlike, HasNames, HasRowByNumber, Holding, HoldsApart, IsOf, Showing}
use Rattle.frame_diff.specs.Walked.{held_at}
use Rattle.frame_diff.specs.Walked.{held_items, reading_at}
use Rattle.frame_diff.specs.declared.again.Named.{Named}
use Rattle.frame_diff.specs.declared.side.Side.{Side}
use Rattle.frame_diff.specs.declared.walk.Attributes.{Attributes}
use Rattle.frame_diff.proofs.Entries.{found_place, later}
use Rattle.frame_diff.proofs.Steps.{text_is}
use Rattle.frame_diff.proofs.Walked.{last_further, names_of, row_by_number, same_untold}

-- ** one attribute further

pub further : (r : Reading) (list : Shape) (f : Frame) (fs : List Frame)
    → earlier (named_in r list (f ∷ fs)) ≡ again_in r list (named_in r list fs) f ++ earlier (named_in r list fs)
further r list f fs =
    by (is_unnamed (row_in r.around list (number f)).1 f.payload)
  where
    behind : List Member
    behind = named_in r list fs

    own : Member
    own = (Step.name (row_in r.around list (number f)).0, held_of r list f)

    by : (kept : Bool)
        → earlier (cond kept [] (own ∷ []) ++ behind)
        ≡ cond kept [] (cond (comes own.0 behind) (alone own ∷ []) []) ++ earlier behind
    by true = refl
    by false = refl

-- ** one after another

module _ (nest : Showing) (inner : Holding) (is_state : Bool) where
  module _ (list : Shape) (f : Frame) (r : Reading) (e : Option Named) (it next : List Item)
      (here : it ≡ Ok f ∷ next)
      (looked : again_held nest inner is_state e ≡ again_in r list (named_in r list (frames_in next)) f) where
    pub split : earlier (named_in r list (frames_in it))
        ≡ again_held nest inner is_state e ++ earlier (named_in r list (frames_in next))
    split =
        ap (λ xs. earlier (named_in r list (frames_in xs))) here
        ∙ further r list f (frames_in next)
        ∙ ap (λ hs. hs ++ earlier (named_in r list (frames_in next))) (sym looked)

    -- one that is none of them is passed over
    pub not_again : (all : List (Option Held)) → is_some e ≡ false → earlier (named_in r list (frames_in it)) ≡ all
        → earlier (named_in r list (frames_in next)) ≡ all
    not_again all none was = ap (λ hs. hs ++ earlier (named_in r list (frames_in next))) (sym (holds e none))
        ∙ sym split ∙ was
      where
        holds : (o : Option Named) → is_some o ≡ false → again_held nest inner is_state o ≡ []
        holds None h = refl
        holds (Some own) h = absurd cc

  pub none_in : (list : Attributes) → earlier_in nest inner is_state list [] ≡ []
  none_in list = ap (λ xs. earlier (named_in (reading_at nest inner is_state list.around.now) list.list
      (frames_in xs))) items_nil

  nth_none : (k : ℕ) → nth k [] ≡ None
  nth_none zero = refl
  nth_none (suc k) = refl

  pub stands_beside : (others : Attributes) (n : ℕ) (there next : List ℕ) (own : Named) (beside : Option Named)
      → GoesOnAt nest inner is_state others n there
      → earlier_in nest inner is_state others there
      ≡ again_held nest inner is_state beside ++ earlier_in nest inner is_state others next
      → (beside ≡ None → earlier_in nest inner is_state others next ≡ [])
      → IsBeside nest inner is_state others n (Some own) beside
      × GoesOnAt nest inner is_state others (n + 1) next
  stands_beside others n there next own beside goes cut ends = (by beside cut ends, λ k. behind k beside cut ends)
    where
      all : List (Option Held)
      all = earlier_at nest inner is_state others

      rest : List (Option Held)
      rest = earlier_in nest inner is_state others next

      first : nth n all ≡ nth 0 (earlier_in nest inner is_state others there)
      first = ap (λ k. nth k all) (omega arith) ∙ goes 0

      by : (e : Option Named)
          → earlier_in nest inner is_state others there ≡ again_held nest inner is_state e ++ rest
          → (e ≡ None → rest ≡ []) → nth n all ≡ option_map (alone_at nest inner is_state) e
      by None split empty = first ∙ ap (nth 0) (split ∙ empty refl)
      by (Some a) split empty = first ∙ ap (nth 0) split

      behind : (k : ℕ) (e : Option Named)
          → earlier_in nest inner is_state others there ≡ again_held nest inner is_state e ++ rest
          → (e ≡ None → rest ≡ []) → nth (n + 1 + k) all ≡ nth k rest
      behind k None split empty =
          ap (λ j. nth j all) (omega arith) ∙ goes (suc k) ∙ ap (nth (suc k)) (split ∙ empty refl)
          ∙ sym (ap (nth k) (empty refl) ∙ nth_none k)
      behind k (Some a) split empty = ap (λ j. nth j all) (omega arith) ∙ goes (suc k) ∙ ap (nth (suc k)) split

  -- ** what one tells at its place, and those behind it

  again_told : (side : Side) (text : List ℕ) (e : Option Named) (n : ℕ) (hs gs : List (Option Held))
      → items_told side text (forest (placed n (again_held nest inner is_state e ++ hs))) (places gs)
      ≡ again_items nest inner is_state side text n gs e
      ++ items_told side text (forest (placed (place_by e n) hs)) (places gs)
  again_told side text None n hs gs = refl
  again_told side text (Some own) n hs gs =
      let alone_one : Held = alone_at nest inner is_state own in
      let rest = items_told side text (forest (placed (n + 1) hs)) (places gs) in
      let path = joined text (decimal n) in
      last_further side text (places gs) (Step.place n, alone_one) (placed (n + 1) hs)
      ∙ ap (λ l. l ++ rest)
      (ap (λ b. cond b [] (held_items side path alone_one (find (Step.place n) (places gs))))
      (later n (n + 1) (omega arith) hs)
      ∙ append-nil (held_items side (joined path own.name.now) (held_at nest inner is_state own.attribute)
      (find (Step.name own.name.now) (inside_in (find (Step.place n) (places gs)))))
      ∙ ap (λ h. held_items side (joined path own.name.now) (held_at nest inner is_state own.attribute)
      (find (Step.name own.name.now) (inside_in h)))
      (found_place gs n 0 n (omega arith)))

  pub again_next : (list : Shape) (f : Frame) (r : Reading) (e : Option Named) (it next : List Item)
      → it ≡ Ok f ∷ next
      → again_held nest inner is_state e ≡ again_in r list (named_in r list (frames_in next)) f
      → (ms : List Member) (side : Side) (text : List ℕ) (n m : ℕ) (page new all : Draft) → m ≡ place_by e n
      → new ≡ with_members (objects (again_items nest inner is_state side text n (earlier ms) e)) page
      → with_members (objects (items_told side text
      (forest (placed n (earlier (named_in r list (frames_in it))))) (places (earlier ms)))) page ≡ all
      → with_members (objects (items_told side text
      (forest (placed m (earlier (named_in r list (frames_in next))))) (places (earlier ms)))) new ≡ all
  again_next list f r e it next here looked ms side text n m page new all more then was =
      let hs = earlier (named_in r list (frames_in next)) in
      let told = again_items nest inner is_state side text n (earlier ms) e in
      let rest = items_told side text (forest (placed m hs)) (places (earlier ms)) in
      on_next (objects (items_told side text (forest (placed n (earlier (named_in r list (frames_in it)))))
      (places (earlier ms)))) (objects told) (objects rest) page new all
      (ap (λ xs. objects (items_told side text (forest (placed n xs)) (places (earlier ms))))
      (split list f r e it next here looked)
      ∙ ap objects (again_told side text e n hs (earlier ms)
      ∙ ap (λ k. told ++ items_told side text (forest (placed k hs)) (places (earlier ms))) (sym more))
      ∙ map-append (λ o. ([], object_of o)) told rest)
      was then

-- how many there are
pub again_fits : (f : Frame) (e : Option Named) (it next : List Item) → it ≡ Ok f ∷ next → (n m all : ℕ)
    → m ≡ place_by e n → n + frame_count it ≤ all → m + frame_count next ≤ all
again_fits f None it next here n m all is few =
    let first : frame_count it ≡ 1 + frame_count next = ap frame_count here in omega (arith, first, is, few)
again_fits f (Some own) it next here n m all is few =
    let first : frame_count it ≡ 1 + frame_count next = ap frame_count here in omega (arith, first, is, few)

-- ** one that stands in the other list as it is

pub again_named : (behind : Attributes) (own : Option Named) → IfSome own (λ own. IsOf behind own.attribute)
    → HasNames behind.around.now → IfSome own (λ own. HasNames own.attribute.around.now)
again_named behind None of names = tt
again_named behind (Some own) of names = names_of behind own.attribute of names

pub again_rows : (behind others : Attributes) (own beside : Option Named)
    → IfSome own (λ own. IsOf behind own.attribute) → IfSome beside (λ a. IsOf others a.attribute)
    → AreAlike behind others
    → IfSome own (λ own. IfSome beside (λ a. HasRowByNumber own.attribute a.attribute))
again_rows behind others None beside of found alike = tt
again_rows behind others (Some own) None of found alike = tt
again_rows behind others (Some own) (Some a) of found alike =
    row_by_number behind others own.attribute a.attribute of found alike

module _ (nest : Showing) (inner : Holding) (apart : HoldsApart inner) (is_state : Bool) where
  same_again : (side : Side) (text : List ℕ) (n : ℕ) (others : List (Option Held)) (own : Named)
      (beside : Option Named) → IfSome beside (λ a. HasRowByNumber own.attribute a.attribute)
      → nth n others ≡ option_map (alone_at nest inner is_state) beside → IsSameAgain own beside
      → again_items nest inner is_state side text n others (Some own) ≡ []
  same_again side text n others own None rows stands same = absurd same
  same_again side text n others own (Some a) rows stands same =
      let path = joined (joined text (decimal n)) own.name.now in
      let held = held_at nest inner is_state own.attribute in
      ap (λ h. held_items side path held (find (Step.name own.name.now) (inside_in h))) stands
      ∙ ap (λ b. held_items side path held (cond b (Some (held_at nest inner is_state a.attribute)) None))
      (ap (λ name. is_text name own.name.now) (sym same.1) ∙ text_is own.name.now)
      ∙ same_untold nest inner apart is_state side path own.attribute (Some a.attribute) (rows same.0)
      (ap (is_text own.attribute.payload.now) (sym same.2) ∙ text_is own.attribute.payload.now)

  pub again_silent : (side : Side) (text : List ℕ) (n : ℕ) (others : Attributes) (own : Named) (beside : Option Named)
      (page : Draft) → IfSome beside (λ a. HasRowByNumber own.attribute a.attribute)
      → nth n (earlier_at nest inner is_state others) ≡ option_map (alone_at nest inner is_state) beside
      → IsSameAgain own beside
      → page ≡ with_members (objects (again_items nest inner is_state side text n
      (earlier_at nest inner is_state others) (Some own))) page
  again_silent side text n others own beside page rows stands same =
      sym (ap (λ os. with_members (objects os) page)
      (same_again side text n (earlier_at nest inner is_state others) own beside rows stands same))
