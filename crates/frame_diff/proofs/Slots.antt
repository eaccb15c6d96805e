-- Values that are their own keys: as they are read, and as they are told beside others.
use Rattle.std.proofs.Common.{◌≡◌, ℕ, Bool, true, false, List, [], ◌∷◌, ◌++◌, append_assoc, append-nil, refl, sym, ap}
use Rattle.std.proofs.Common.{◌∙◌, Ok, map}
use Rattle.std.proofs.lemmas.List.{map-append}
use Rattle.std.specs.Prelude.{Option, Some, None, cond}
use Rattle.json.specs.Token.{Token}
use Rattle.nla_wire.specs.Frames.{Frame}
use Rattle.nla_wire.specs.Items.{Item}
use Rattle.link_info.specs.declared.style.Plain.{Plain}
use Rattle.shown.specs.Drafts.{Draft, with_members}
use Rattle.frame_shown.specs.Items.{objects}
use Rattle.frame_shown.specs.Values.{Nesting, payloads_shown, spelled}
use Rattle.frame_shown.specs.declared.form.Around.{Around}
use Rattle.frame_diff.specs.Differences.{is_shown_same}
use Rattle.frame_diff.specs.Forests.{Forest, Held}
use Rattle.frame_diff.specs.Inside.{HoldsNoRuns, has_none, is_texts}
use Rattle.frame_diff.specs.Items.{alone_texts, items_told, leaf_items, member_items, texts_by, texts_items}
use Rattle.frame_diff.specs.Members.{named}
use Rattle.frame_diff.specs.Rows.{inside_by, is_slots, row_shown}
use Rattle.frame_diff.specs.Values.{value_shown}
use Rattle.frame_diff.specs.Walked.{Holding, held_items}
use Rattle.frame_diff.specs.declared.held.Holds.{Holds}
use Rattle.frame_diff.specs.declared.held.Holds.TheVariants as Holdings
use Rattle.frame_diff.specs.declared.leaf.Value.{Value}
use Rattle.frame_diff.specs.declared.side.Side.{Side}
use Rattle.frame_diff.proofs.Classes.{left_no_texts}

-- ** as they are told

pub slots_told : (side : Side) (text : List ℕ) (held : Held) (vs : List (List Token)) (beside : Option Held)
    → held.1 ≡ Forest.texts vs → held_items side text held beside ≡ texts_items side text held.0 vs beside
slots_told side text held vs beside is =
    (λ k. member_items side text held.0 (is k) (items_told side text (is k)) beside)

pub slots_written : (side : Side) (text : List ℕ) (held : Held) (vs ws : List (List Token)) (v : List Token)
    (beside here : Option Held) (page new : Draft) → held.1 ≡ Forest.texts vs → v ≡ held.0 → ws ≡ vs
    → beside ≡ here → new ≡ with_members (objects (texts_items side text v ws here)) page
    → new ≡ with_members (objects (held_items side text held beside)) page
slots_written side text held vs ws v beside here page new is shown values other told =
    told ∙ (λ k. with_members (objects (texts_items side text (shown k) (values k) (sym other k))) page)
    ∙ sym (ap (λ os. with_members (objects os) page) (slots_told side text held vs beside is))

pub slots_both : (side : Side) (text : List ℕ) (v : List Token) (vs : List (List Token)) (other : Held)
    (ws : List (List Token)) → other.1 ≡ Forest.texts ws
    → texts_items side text v vs (Some other)
    ≡ cond (is_shown_same v other.0) [] (texts_by side text v vs other.0 ws)
slots_both side text v vs other ws is = (λ k. texts_items side text v vs (Some (other.0, is k)))

pub slots_leaf : (side : Side) (text : List ℕ) (v : List Token) (vs : List (List Token)) (other : Held)
    → has_none other.1 ≡ true → is_texts other.1 ≡ false
    → texts_items side text v vs (Some other) ≡ leaf_items side text v (Some other.0)
slots_leaf side text v vs (w, Forest.none) none plain = refl
slots_leaf side text v vs (w, Forest.passed) none plain = absurd cc
slots_leaf side text v vs (w, Forest.vlans runs) none plain = absurd cc
slots_leaf side text v vs (w, Forest.texts ws) none plain = absurd cc
slots_leaf side text v vs (w, Forest.tree a b c d) none plain = absurd cc

pub slots_alone : (side : Side) (text : List ℕ) (v : List Token) (vs : List (List Token)) (other : Held)
    → has_none other.1 ≡ false → texts_items side text v vs (Some other) ≡ alone_texts side text v vs None
slots_alone side text v vs (w, Forest.none) some = absurd cc
slots_alone side text v vs (w, Forest.passed) some = refl
slots_alone side text v vs (w, Forest.vlans runs) some = refl
slots_alone side text v vs (w, Forest.texts ws) some = absurd cc
slots_alone side text v vs (w, Forest.tree a b c d) some = refl

-- what holds none of them
pub not_texts : (inner : Holding) → HoldsNoRuns inner → (is_state : Bool) (cx : Around) (held : Holds)
    → is_slots held ≡ false → is_texts (inside_by (inner is_state cx) cx held) ≡ false
not_texts inner runless is_state cx Holdings.Nothing h = refl
not_texts inner runless is_state cx Holdings.Passed h = refl
not_texts inner runless is_state cx (Holdings.Slots slots) h = absurd cc
not_texts inner runless is_state cx (Holdings.Fields rows is_any) h =
    left_no_texts is_any (named (map (row_shown cx) rows.items))
not_texts inner runless is_state cx (Holdings.List list p) h = (runless is_state cx list p.now).1

-- ** as they are read

abbrev pub payloads_left : Plain → List Item → List (List Token)
payloads_left plain xs = map (λ m. m.1) (payloads_shown plain xs)

module _ (nest : Nesting) (cx : Around) (plain : Plain) where
  abbrev seen : List Value → List (List Token)
  seen vs = map (value_shown nest cx) vs

  pub payload_further : (f : Frame) (xs rest : List Item) (v : Value) (vs new : List Value) (all : List (List Token))
      → xs ≡ Ok f ∷ rest → value_shown nest cx v ≡ spelled plain f.payload → new ≡ vs ++ v ∷ []
      → seen vs ++ payloads_left plain xs ≡ all → seen new ++ payloads_left plain rest ≡ all
  payload_further f xs rest v vs new all here shown pushed was =
      (λ k. seen (pushed k) ++ payloads_left plain rest)
      ∙ ap (λ l. l ++ payloads_left plain rest) (map-append (value_shown nest cx) vs (v ∷ []))
      ∙ append_assoc (seen vs) (value_shown nest cx v ∷ []) (payloads_left plain rest)
      ∙ ap (λ t. seen vs ++ t ∷ payloads_left plain rest) shown
      ∙ ap (λ ys. seen vs ++ payloads_left plain ys) (sym here) ∙ was

  pub payload_over : (xs : List Item) (vs : List Value) (all : List (List Token)) → payloads_left plain xs ≡ []
      → seen vs ++ payloads_left plain xs ≡ all → seen vs ≡ all
  payload_over xs vs all over was = sym (append-nil (seen vs)) ∙ ap (λ l. seen vs ++ l) (sym over) ∙ was
