-- Items without those that a place drops: what is read of them is the list of the place.
use Rattle.std.proofs.Common.{◌≡◌, ℕ, Bool, true, false, not, List, [], ◌∷◌, refl, ap, sym, ◌∙◌, Option}
use Rattle.std.proofs.Common.{Some, None, Result, Ok, Err}
use Rattle.nla_wire.specs.Frames.{Frame, number, IsFrame, IsBytes}
use Rattle.nla_wire.specs.Reading.{with_front, ◌>>=◌}
use Rattle.nla_wire.specs.Items.{Item, items, read_items}
use Rattle.nla_wire.specs.Grammar.{Grammar, Agrees, is_one, if_true, as_a, undecoded, some_if_picked, present_values}
use Rattle.nla_wire.specs.Grammar.{drops, members}
use Rattle.nla_wire.specs.declared.error.Cause.{Cause}
use Rattle.nla_wire.proofs.Items.{list_items}
use Rattle.nla_wire.proofs.Loop.{front_none}
use Rattle.nla_wire.proofs.Lists.{list_agrees, picked_agrees}
use Rattle.nla_wire.proofs.Memory.{NeverMemory, memory_list, memory_picked}

abbrev pub unless_dropped : Bool → Item → List Item → List Item
unless_dropped true x xs = xs
unless_dropped false x xs = x ∷ xs

-- the items without the frames that are dropped
abbrev pub selected : Bool → List Item → List Item
selected picks [] = []
selected picks ((Err c) ∷ xs) = Err c ∷ selected picks xs
selected picks ((Ok f) ∷ xs) = unless_dropped (drops picks (number f)) (Ok f) (selected picks xs)

all_selected : (xs : List Item) → selected false xs ≡ xs
all_selected [] = refl
all_selected ((Err c) ∷ xs) = ap (λ ys. Err c ∷ ys) (all_selected xs)
all_selected ((Ok f) ∷ xs) = ap (λ ys. Ok f ∷ ys) (all_selected xs)

module _ {V : Type 0} (place : Grammar Frame V) where
  abbrev present : Result (List (Option V)) Cause → Result (List V) Cause
  present r = r >>= λ os. Ok (present_values os)

  read_one : (r : Result V Cause) (more : Result (List V) Cause) (later : Result (List (Option V)) Cause)
      → more ≡ present later
      → (r >>= λ v. more >>= λ vs. Ok (v ∷ vs))
      ≡ present ((r >>= λ v. Ok (Some v)) >>= λ o. later >>= λ os. Ok (o ∷ os))
  read_one (Err c) more later h = refl
  read_one (Ok v) more (Ok os) h = ap (λ r. r >>= λ vs. Ok (v ∷ vs)) h
  read_one (Ok v) more (Err c) h = ap (λ r. r >>= λ vs. Ok (v ∷ vs)) h

  read_dropped : (more : Result (List V) Cause) (later : Result (List (Option V)) Cause)
      → more ≡ present later → more ≡ present (later >>= λ os. Ok (None ∷ os))
  read_dropped more (Ok os) h = h
  read_dropped more (Err c) h = h

  read_by : (one : Bool) (f : Frame) (xs : List Item) (later : Result (List (Option V)) Cause)
      → read_items place.reads xs ≡ present later
      → read_items place.reads (unless_dropped (not one) (Ok f) xs)
      ≡ present ((if_true one (as_a (λ (v : V). Some v) place) (undecoded (λ f. None))).reads f
      >>= λ o. later >>= λ os. Ok (o ∷ os))
  read_by true f xs later h = read_one (place.reads f) (read_items place.reads xs) later h
  read_by false f xs later h = read_dropped (read_items place.reads xs) later h

  picked_selected : (xs : List Item)
      → read_items place.reads (selected true xs) ≡ present (read_items (some_if_picked place).reads xs)
  picked_selected [] = refl
  picked_selected ((Err c) ∷ xs) = refl
  picked_selected ((Ok f) ∷ xs) = read_by (is_one f) f (selected true xs)
      (read_items (some_if_picked place).reads xs) (picked_selected xs)

  -- what is read of the items that are not dropped is what the place reads as a list
  pub read_selected : (picks : Bool) (b : List ℕ) → read_items place.reads (selected picks (items b))
      ≡ (members picks place).reads b
  read_selected false b =
      ap (λ xs. read_items place.reads xs) (all_selected (items b)) ∙ sym (list_items place.reads b)
  read_selected true b =
      picked_selected (items b) ∙ ap present (sym (list_items (some_if_picked place).reads b))

  pub selected_start : (picks : Bool) (b : List ℕ) (left : List Item) → left ≡ items b
      → (front : List V) → front ≡ []
      → with_front front (read_items place.reads (selected picks left)) ≡ (members picks place).reads b
  selected_start picks b left left_is front none =
      (λ i. with_front (none i) (read_items place.reads (selected picks (left_is i))))
      ∙ front_none (read_items place.reads (selected picks (items b))) ∙ read_selected picks b

  pub members_agree : (picks : Bool) → Agrees IsFrame place → Agrees IsBytes (members picks place)
  members_agree false h = list_agrees place h
  members_agree true h = picked_agrees place h

  pub memory_members : (picks : Bool) → NeverMemory place → NeverMemory (members picks place)
  memory_members false h = memory_list place h
  memory_members true h = memory_picked place h

-- ** one item

module _ (picks : Bool) (f : Frame) (left rest : List Item) (left_is : left ≡ Ok f ∷ rest) where
  pub selects : drops picks (number f) ≡ false → selected picks left ≡ Ok f ∷ selected picks rest
  selects kept = ap (selected picks) left_is ∙ ap (λ t. unless_dropped t (Ok f) (selected picks rest)) kept
