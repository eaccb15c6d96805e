-- Entries one by one: what is read of them is what their list is read as.
use Rattle.std.proofs.Common.{◌≡◌, ℕ, Bool, true, false, not, cond, List, [], ◌∷◌, refl, ap, subst, ◌∙◌}
use Rattle.std.proofs.Common.{Result, Ok, Err}
use Rattle.nla_wire.specs.Frames.{Frame}
use Rattle.nla_wire.specs.Grammar.{Grammar, is_one, picked}
use Rattle.nla_wire.specs.Items.{Item, items, read_items}
use Rattle.nla_wire.specs.Reading.{◌>>=◌}
use Rattle.nla_wire.specs.declared.error.Cause.{Cause}
use Rattle.nla_wire.proofs.Selected.{unless_dropped, selected, read_selected}
use Rattle.link_view.specs.Told.{each_read, all_read}
use Rattle.link_view.specs.Entries.{picked_items, FaultAfter}

-- ** the items of a list

one_kept : (one : Bool) (x : Item) (ys zs : List Item) → ys ≡ zs
    → cond one (x ∷ ys) ys ≡ unless_dropped (not one) x zs
one_kept true x ys zs same = ap (λ (ws : List Item). x ∷ ws) same
one_kept false x ys zs same = same

picked_selected : (xs : List Item) → picked_items xs ≡ selected true xs
picked_selected [] = refl
picked_selected ((Err c) ∷ xs) = ap (λ (ys : List Item). Err c ∷ ys) (picked_selected xs)
picked_selected ((Ok f) ∷ xs) = one_kept (is_one f) (Ok f) (picked_items xs) (selected true xs) (picked_selected xs)

-- ** values one by one, and as a list

module _ {V : Type 0} where
  -- these results are the values of the list, or some of them and then its fault
  abbrev Spread : Result (List V) Cause → List (Result V Cause) → Type 0
  Spread (Ok vs) rs = rs ≡ all_read vs
  Spread (Err c) rs = FaultAfter c rs

  spread_more : (r : Result V Cause) (more : Result (List V) Cause) (rs : List (Result V Cause)) → Spread more rs
      → Spread (r >>= λ v. more >>= λ vs. Ok (v ∷ vs)) (r ∷ rs)
  spread_more (Err c) more rs h = ([], rs, refl)
  spread_more (Ok v) (Ok vs) rs h = ap (λ (ws : List (Result V Cause)). Ok v ∷ ws) h
  spread_more (Ok v) (Err c) rs h = (v ∷ h.0, h.1, ap (λ (ws : List (Result V Cause)). Ok v ∷ ws) h.2)

  spread : (reads : Frame → Result V Cause) (xs : List Item) → Spread (read_items reads xs) (each_read reads xs)
  spread reads [] = refl
  spread reads ((Err c) ∷ xs) = ([], each_read reads xs, refl)
  spread reads ((Ok f) ∷ xs) =
      spread_more (reads f) (read_items reads xs) (each_read reads xs) (spread reads xs)

-- ** entries

module _ {V : Type 0} (place : Grammar Frame V) (b : List ℕ) (left : List Item) (left_is : left ≡ items b) where
  entries_read : read_items place.reads (picked_items left) ≡ (picked place).reads b
  entries_read =
      ap (λ (xs : List Item). read_items place.reads xs) (picked_selected left)
      ∙ ap (λ (xs : List Item). read_items place.reads (selected true xs)) left_is
      ∙ read_selected place true b

  as_list : Spread ((picked place).reads b) (each_read place.reads (picked_items left))
  as_list =
      subst (λ (r : Result (List V) Cause). Spread r (each_read place.reads (picked_items left))) entries_read
      (spread place.reads (picked_items left))

  pub entries_parsed : (vs : List V) → (picked place).reads b ≡ Ok vs
      → each_read place.reads (picked_items left) ≡ all_read vs
  entries_parsed vs read =
      subst (λ (r : Result (List V) Cause). Spread r (each_read place.reads (picked_items left))) read as_list

  pub entries_fault : (c : Cause) → (picked place).reads b ≡ Err c
      → FaultAfter c (each_read place.reads (picked_items left))
  entries_fault c read =
      subst (λ (r : Result (List V) Cause). Spread r (each_read place.reads (picked_items left))) read as_list
