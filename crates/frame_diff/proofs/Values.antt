-- The values of lists are what is shown of them.
use Rattle.std.proofs.Common.{◌≡◌, ℕ, Bool, true, false, List, [], ◌∷◌, ◌++◌, map, refl, sym, ◌∙◌}
use Rattle.std.specs.Prelude.{Option, Some, None, cond, ◌==◌}
use Rattle.std.specs.List.{flat_map}
use Rattle.json.specs.Token.{Token}
use Rattle.nla_wire.specs.Frames.{Frame, number}
use Rattle.frame_shown.specs.Frames.{frame_item, way_shown}
use Rattle.frame_shown.specs.Items.{Item, values_with as shown_values}
use Rattle.frame_shown.specs.Tables.{Known, is_each, is_kept, kind_shown, row_in}
use Rattle.frame_shown.specs.Values.{Nesting}
use Rattle.frame_shown.specs.declared.form.Around.{Around}
use Rattle.frame_shown.specs.declared.form.List.{List as Shape}
use Rattle.frame_diff.specs.Counters.{action_in}
use Rattle.frame_diff.specs.Forests.{Held}
use Rattle.frame_diff.specs.Members.{Inner, Reading, held_by, value_in, values_with}
use Rattle.frame_diff.proofs.Unnamed.{each_not_kept}

abbrev pub AreValues : List (Option Held) → List (List Token) → Type 0
AreValues [] [] = Unit {0}
AreValues [] (v ∷ vs) = ⊥
AreValues (h ∷ hs) [] = ⊥
AreValues (None ∷ hs) (v ∷ vs) = ⊥
AreValues (Some held ∷ hs) (v ∷ vs) = (held.0 ≡ v) × AreValues hs vs

pub texts_are : (hs : List (Option Held)) (vs : List (List Token)) → AreValues hs vs
    → flat_map value_in hs ≡ flat_map (λ tokens. tokens) vs
texts_are [] [] h = refl
texts_are [] (v ∷ vs) h = absurd h
texts_are (x ∷ hs) [] h = absurd h
texts_are (None ∷ hs) (v ∷ vs) h = absurd h
texts_are (Some held ∷ hs) (v ∷ vs) h = (λ k. h.0 k ++ texts_are hs vs h.1 k)

module _ (is_state : Bool) (nest : Nesting) (inner : Inner) (cx : Around) (list : Shape) (n : ℕ) where
  abbrev r : Reading
  r = record { is_state = is_state; nest = nest; inner = inner; around = cx }

  abbrev all : List Frame → List Item
  all fs = map (frame_item nest cx list) fs

  pub values_agree : (fs : List Frame) → AreValues (values_with r list n fs) (shown_values n (all fs))
  values_agree [] = tt
  values_agree (f ∷ fs) = by (is_kept row.1 f.payload) (is_each row.1) refl refl (values_agree fs)
    where
      row : Known
      row = row_in cx list (number f)

      own : Held
      own = held_by r (action_in is_state list (number f)) row.1 f.payload

      theirs : Bool → Bool → Item
      theirs b c =
          cond b (Item.as_is row.0 (kind_shown row.1 f.kind) f.payload)
          (cond c (Item.each (number f) (way_shown nest cx row.1 f.payload))
          (Item.named (number f) ((row.0, way_shown nest cx row.1 f.payload) ∷ [])))

      one : (a : Bool) → AreValues (values_with r list n fs) (shown_values n (all fs))
          → AreValues (cond a (Some own ∷ []) [] ++ values_with r list n fs)
          (cond a (own.0 ∷ []) [] ++ shown_values n (all fs))
      one true later = (refl, later)
      one false later = later

      none : (a : Bool) → AreValues (values_with r list n fs) (shown_values n (all fs))
          → AreValues (cond a [] [] ++ values_with r list n fs) (shown_values n (all fs))
      none true later = later
      none false later = later

      by : (b c : Bool) → is_kept row.1 f.payload ≡ b → is_each row.1 ≡ c
          → AreValues (values_with r list n fs) (shown_values n (all fs))
          → AreValues (cond (number f == n) (cond c (Some own ∷ []) []) [] ++ values_with r list n fs)
          (shown_values n (theirs b c ∷ all fs))
      by true true is too later =
          let clash : false ≡ true = sym (each_not_kept row.1 f.payload too) ∙ is in absurd cc
      by true false is too later = none (number f == n) later
      by false true is too later = one (number f == n) later
      by false false is too later = none (number f == n) later
