-- The member at a name is the last attribute of that name.
use Rattle.std.proofs.Common.{◌≡◌, ℕ, Bool, true, false, List, [], ◌∷◌, ◌++◌, refl, sym, ap, ◌∙◌}
use Rattle.std.specs.Prelude.{Option, Some, None, cond, not, option_map, ◌&&◌}
use Rattle.nla_wire.specs.Frames.{Frame, number}
use Rattle.frame_shown.specs.Tables.{row_in}
use Rattle.frame_shown.specs.Values.{Nesting}
use Rattle.frame_shown.specs.declared.form.Around.{Around}
use Rattle.frame_shown.specs.declared.form.List.{List as Shape}
use Rattle.frame_diff.specs.Beside.{held_of, is_named, last_named}
use Rattle.frame_diff.specs.Forests.{Forest, Held, Member, Step, comes, find, forest, is_step, is_text}
use Rattle.frame_diff.specs.Members.{Inner, Reading, named_in, is_unnamed}
use Rattle.frame_diff.proofs.Apart.{find_none}
use Rattle.frame_diff.proofs.Steps.{step_same}

-- ** the last member at a step

abbrev pub or_else : {A : Type 0} → Option A → Option A → Option A
or_else None other = other
or_else (Some x) other = Some x

abbrev pub last_at : Step → List Member → Option Held
last_at s [] = None
last_at s (m ∷ ms) = or_else (last_at s ms) (cond (is_step m.0 s) (Some m.1) None)

pub or_none : {A : Type 0} (a : Option A) → or_else a None ≡ a
or_none None = refl
or_none (Some x) = refl

comes_last : (s : Step) (ms : List Member) (other : Option Held) → comes s ms ≡ true
    → or_else (last_at s ms) other ≡ last_at s ms
comes_last s [] other some = absurd cc
comes_last s (m ∷ ms) other some = by (is_step m.0 s) some (comes_last s ms) (last_at s ms) refl
  where
    by : (b : Bool) → cond b true (comes s ms) ≡ true
        → ((o : Option Held) → comes s ms ≡ true → or_else (last_at s ms) o ≡ last_at s ms)
        → (l : Option Held) → last_at s ms ≡ l
        → or_else (or_else l (cond b (Some m.1) None)) other ≡ or_else l (cond b (Some m.1) None)
    by true h later None is = refl
    by true h later (Some x) is = refl
    by false h later None is =
        let none : or_else None (Some m.1) ≡ None =
        ap (λ l. or_else l (Some m.1)) (sym is) ∙ later (Some m.1) h ∙ is in
        absurd cc
    by false h later (Some x) is = refl

pub found_last : (s : Step) (ms : List Member) → find s (forest ms) ≡ last_at s ms
found_last s [] = refl
found_last s (m ∷ ms) = by (comes m.0 ms) refl (is_step m.0 s) refl (found_last s ms)
  where
    by : (c : Bool) → comes m.0 ms ≡ c → (b : Bool) → is_step m.0 s ≡ b → find s (forest ms) ≡ last_at s ms
        → find s (cond c (forest ms) (Forest.tree m.0 m.1.0 m.1.1 (forest ms)))
        ≡ or_else (last_at s ms) (cond b (Some m.1) None)
    by true again true same later =
        later ∙ sym (comes_last s ms (Some m.1) (ap (λ t. comes t ms) (sym (step_same m.0 s same)) ∙ again))
    by true again false other later = later ∙ sym (or_none (last_at s ms))
    by false once true same later =
        let none : last_at s ms ≡ None =
        sym later ∙ find_none s ms (ap (λ t. comes t ms) (sym (step_same m.0 s same)) ∙ once) in
        ap (λ b. cond b (Some (m.1.0, m.1.1)) (find s (forest ms))) same
        ∙ sym (ap (λ l. or_else l (Some m.1)) none)
    by false once false other later =
        ap (λ b. cond b (Some (m.1.0, m.1.1)) (find s (forest ms))) other ∙ later ∙ sym (or_none (last_at s ms))

-- ** the last attribute of a name

module _ (cx : Around) (list : Shape) (name : List ℕ) where
  abbrev last_of : Option Frame → List Frame → Option Frame
  last_of before fs = last_named cx list name before fs

  one_before : (before : Option Frame) (fs : List Frame) → last_of before fs ≡ or_else (last_of None fs) before
  one_before before [] = refl
  one_before before (f ∷ fs) =
      by (is_named cx list name f) (one_before (Some f) fs) (one_before before fs)
    where
      or_some : (a : Option Frame) → or_else a (Some f) ≡ or_else (or_else a (Some f)) before
      or_some None = refl
      or_some (Some x) = refl

      by : (b : Bool) → last_of (Some f) fs ≡ or_else (last_of None fs) (Some f)
          → last_of before fs ≡ or_else (last_of None fs) before
          → last_of (cond b (Some f) before) fs ≡ or_else (last_of (cond b (Some f) None) fs) before
      by true some later = some ∙ or_some (last_of None fs) ∙ ap (λ l. or_else l before) (sym some)
      by false some later = later

  module _ (is_state : Bool) (nest : Nesting) (inner : Inner) where
    abbrev r : Reading
    r = record { is_state = is_state; nest = nest; inner = inner; around = cx }

    abbrev member : Frame → Bool → List Member
    member f kept = cond kept [] ((Step.name (row_in cx list (number f)).0, held_of r list f) ∷ [])

    mapped : (a b : Option Frame) → or_else (option_map (held_of r list) a) (option_map (held_of r list) b)
        ≡ option_map (held_of r list) (or_else a b)
    mapped None b = refl
    mapped (Some x) b = refl

    last_is : (fs : List Frame)
        → last_at (Step.name name) (named_in r list fs) ≡ option_map (held_of r list) (last_of None fs)
    last_is [] = refl
    last_is (f ∷ fs) =
        by (is_unnamed (row_in cx list (number f)).1 f.payload) (is_text (row_in cx list (number f)).0 name) refl
        (last_is fs)
      where
        by : (kept same : Bool) → is_text (row_in cx list (number f)).0 name ≡ same
            → last_at (Step.name name) (named_in r list fs) ≡ option_map (held_of r list) (last_of None fs)
            → last_at (Step.name name) (member f kept ++ named_in r list fs)
            ≡ option_map (held_of r list) (last_of (cond (not kept && same) (Some f) None) fs)
        by true same is later = later
        by false true is later =
            (λ k. or_else (later k) (cond (is k) (Some (held_of r list f)) None))
            ∙ mapped (last_of None fs) (Some f) ∙ ap (option_map (held_of r list)) (sym (one_before (Some f) fs))
        by false false is later =
            (λ k. or_else (later k) (cond (is k) (Some (held_of r list f)) None))
            ∙ or_none (option_map (held_of r list) (last_of None fs))

    pub member_is : (fs : List Frame)
        → find (Step.name name) (forest (named_in r list fs)) ≡ option_map (held_of r list) (last_of None fs)
    member_is fs = found_last (Step.name name) (named_in r list fs) ∙ last_is fs
