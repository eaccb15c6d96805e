-- Attributes that are kept as they are: what they tell at their labels; and values at their places.
use Rattle.std.proofs.Common.{◌≡◌, ℕ, zero, suc, ◌+◌, ◌*◌, ◌<◌, ◌≤◌, Bool, true, false, List, [], ◌∷◌, ◌++◌, refl}
use Rattle.std.proofs.Common.{sym, ap, ◌∙◌, Ok, arith, eqb-true, eq-eqb, map}
use Rattle.std.specs.Prelude.{Option, Some, None, ◌==◌, cond}
use Rattle.std.proofs.lemmas.List.{map-append}
use Rattle.std.proofs.lemmas.List.Sums.{fold-append}
use Rattle.json.specs.Token.{Token}
use Rattle.nla_wire.specs.Frames.{Frame, number}
use Rattle.nla_wire.specs.Items.{Item, frame_count}
use Rattle.link_info.specs.Tables.{frames_in}
use Rattle.shown.specs.Drafts.{Draft, Members, object_of, with_members, with_value}
use Rattle.frame_shown.specs.Items.{objects}
use Rattle.frame_shown.specs.Kept.{frame_members}
use Rattle.frame_shown.specs.declared.form.Around.{Around}
use Rattle.frame_shown.specs.declared.form.List.{List as Shape}
use Rattle.frame_diff.specs.Differences.{inside_in}
use Rattle.frame_diff.specs.Forests.{Forest, Held, Step, comes, find, forest}
use Rattle.frame_diff.specs.Items.{items_told}
use Rattle.frame_diff.specs.Keys.{key_name}
use Rattle.frame_diff.specs.Labels.{label_step, label_text}
use Rattle.frame_diff.specs.Members.{as_object, fields, placed}
use Rattle.frame_diff.specs.Values.{IsSameKept, entry_held, kept_among, kept_members, kept_one, nth, numbers_among}
use Rattle.frame_diff.specs.Walked.{held_items, step_items}
use Rattle.frame_diff.specs.declared.kept.Entry.{Entry}
use Rattle.frame_diff.specs.declared.kept.Kept.{Kept}
use Rattle.frame_diff.specs.declared.keys.Key.TheVariants as Keys
use Rattle.frame_diff.specs.declared.labels.Label.{Label}
use Rattle.frame_diff.specs.declared.side.Side.{Side}
use Rattle.frame_diff.proofs.Apart.{fields_apart, find_none}
use Rattle.frame_diff.proofs.Walked.{tree_same}

-- what was told, and then more
pub both_told : (first more : List Members) (page middle new : Draft) → middle ≡ with_members (objects first) page
    → new ≡ with_members (objects more) middle → new ≡ with_members (objects (first ++ more)) page
both_told first more page middle new was is =
    is ∙ ap (with_members (objects more)) was
    ∙ sym (fold-append (λ (p : Draft) m. with_value m.0 m.1 p) page (objects first) (objects more))
    ∙ ap (λ ms. with_members ms page) (sym (map-append (λ o. ([], object_of o)) first more))

-- ** places

not_same : (k n : ℕ) → n < k → (k == n) ≡ false
not_same k n less = by (k == n) refl
  where
    by : (b : Bool) → (k == n) ≡ b → b ≡ false
    by true h = absurd (omega (arith, eqb-true k n h))
    by false h = refl

pub below : (k n : ℕ) → k < n → (k == n) ≡ false
below k n less = by (k == n) refl
  where
    by : (b : Bool) → (k == n) ≡ b → b ≡ false
    by true h = absurd (omega (arith, eqb-true k n h))
    by false h = refl

pub later : (n k : ℕ) → n < k → (hs : List (Option Held)) → comes (Step.place n) (placed k hs) ≡ false
later n k less [] = refl
later n k less (None ∷ hs) = later n (k + 1) (omega arith) hs
later n k less (Some held ∷ hs) =
    ap (λ x. cond x true (comes (Step.place n) (placed (k + 1) hs))) (not_same k n less)
    ∙ later n (k + 1) (omega arith) hs

pub found_place : (hs : List (Option Held)) (n m k : ℕ) → k ≡ n + m
    → find (Step.place k) (forest (placed m hs)) ≡ nth n hs
found_place [] n m k is = refl
found_place (None ∷ hs) zero m k is =
    find_none (Step.place k) (placed (m + 1) hs) (later k (m + 1) (omega (arith, is)) hs)
found_place (None ∷ hs) (suc n) m k is = found_place hs n (m + 1) k (omega (arith, is))
found_place (Some held ∷ hs) n m k is =
    ap (λ b. find (Step.place k) (cond b (forest (placed (m + 1) hs))
    (Forest.tree (Step.place m) held.0 held.1 (forest (placed (m + 1) hs))))) (later m (m + 1) (omega arith) hs)
    ∙ by n is (λ i h. found_place hs i (m + 1) k h)
  where
    by : (i : ℕ) → k ≡ i + m
        → ((j : ℕ) → k ≡ j + (m + 1) → find (Step.place k) (forest (placed (m + 1) hs)) ≡ nth j hs)
        → cond (m == k) (Some held) (find (Step.place k) (forest (placed (m + 1) hs))) ≡ nth i (Some held ∷ hs)
    by zero h rest =
        let same : m ≡ k = omega (arith, h) in
        ap (λ b. cond b (Some held) (find (Step.place k) (forest (placed (m + 1) hs)))) (eq-eqb m k same)
    by (suc i) h rest =
        let other : (m == k) ≡ false = below m k (omega (arith, h)) in
        ap (λ b. cond b (Some held) (find (Step.place k) (forest (placed (m + 1) hs)))) other
        ∙ rest i (omega (arith, h))

-- ** one that is kept, at its label

object_told : (side : Side) (text : List ℕ) (v : List Token) (name : List ℕ) (kind : ℕ) (p : List ℕ)
    (beside : Option Held)
    → held_items side text (v, fields (frame_members name kind p)) beside
    ≡ items_told side text (fields (frame_members name kind p)) (inside_in beside)
object_told side text v [] kind p beside = refl
object_told side text v (x ∷ name) kind p beside = refl

-- beside another one it tells what differs between both
pub both_kept : (side : Side) (text : List ℕ) (l : Label) (own other : Kept)
    → step_items side text (label_step Keys.Number l) (as_object (kept_members own))
    (Some (as_object (kept_members other)))
    ≡ items_told side (text ++ label_text (key_name Keys.Number) l) (fields (kept_members own))
    (fields (kept_members other))
both_kept side text l own other =
    object_told side (text ++ label_text (key_name Keys.Number) l) (object_of (kept_members own)) own.name.now own.kind
    own.payload.now (Some (as_object (kept_members other)))

kept_same : (side : Side) (text : List ℕ) (own other : Kept) → IsSameKept own other
    → items_told side text (fields (kept_members own)) (fields (kept_members other)) ≡ []
kept_same side text own other same =
    (λ i. items_told side text (fields (kept_members own))
    (fields (frame_members (sym same.1 i) (same.0 i) (sym same.2 i))))
    ∙ tree_same side text (fields (kept_members own)) (fields_apart (kept_members own))

-- and nothing beside one that says the same
pub kept_silent : (side : Side) (text : List ℕ) (l : Label) (own other : Kept) (page : Draft) → IsSameKept own other
    → page ≡ with_members (objects (step_items side text (label_step Keys.Number l) (as_object (kept_members own))
    (Some (as_object (kept_members other))))) page
kept_silent side text l own other page same =
    sym (ap (λ os. with_members (objects os) page) (both_kept side text l own other
    ∙ kept_same side (text ++ label_text (key_name Keys.Number) l) own other same))

-- ** those of a list, one after another

module _ (is_state : Bool) (cx : Around) (list : Shape) (f : Frame) (e : Entry) (it next : List Item)
    (here : it ≡ Ok f ∷ next) (looked : entry_held e ≡ kept_one is_state cx list f) where
  pub kept_split : kept_among is_state cx list (frames_in it)
      ≡ entry_held e ++ kept_among is_state cx list (frames_in next)
  kept_split =
      ap (λ xs. kept_among is_state cx list (frames_in xs)) here
      ∙ ap (λ hs. hs ++ kept_among is_state cx list (frames_in next)) (sym looked)

  pub numbers_split : numbers_among is_state cx list (frames_in it)
      ≡ map (λ (h : Option Held). Some (number f)) (entry_held e) ++ numbers_among is_state cx list (frames_in next)
  numbers_split =
      ap (λ xs. numbers_among is_state cx list (frames_in xs)) here
      ∙ ap (λ hs. map (λ (h : Option Held). Some (number f)) hs ++ numbers_among is_state cx list (frames_in next))
      (sym looked)

-- ** how many there are

pub place_small : (f : Frame) (it next : List Item) → it ≡ Ok f ∷ next → (n all len : ℕ)
    → n + frame_count it ≤ all → 4 * all ≤ len → n + 1 ≤ len
place_small f it next here n all len few small =
    let first : frame_count it ≡ 1 + frame_count next = ap frame_count here in omega (arith, first, few, small)
