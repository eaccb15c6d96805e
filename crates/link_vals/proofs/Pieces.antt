-- Pieces of a text with a bar between each two, one more at a time.
use Rattle.std.proofs.Common.{◌≡◌, ℕ, ◌+◌, ◌<◌, ◌==◌, Bool, true, false, if◌then◌else◌, List, [], ◌∷◌, ◌++◌, refl}
use Rattle.std.proofs.Common.{sym, ap, ◌∙◌, length, get_or, take, codes, append_assoc}
use Rattle.std.specs.Int.RustNames.{bit_and}
use Rattle.std.specs.Fmt.{HasWritten, IsPlainFormatter}
use Rattle.std.specs.declared.fmt.Formatter.{Formatter}
use Rattle.std.proofs.Output.{has_written_append, has_written_of_eq, writes_in_calls_nil}
use Rattle.std.proofs.lemmas.List.{append-nil}
use Rattle.std.proofs.lemmas.List.Concat.{flat_map-append}
use Rattle.std.specs.List.{flat_map}
use Rattle.nla_wire.proofs.Words.{flat_map-take-more}
use Rattle.link_vals.specs.FlagText.{names_set, joined, bar_unless, is_none}

-- one more piece
pub joined_more : (ps : List (List ℕ)) (p : List ℕ)
    → joined (ps ++ p ∷ []) ≡ joined ps ++ (bar_unless (is_none ps) ++ p)
joined_more [] p = append-nil p
joined_more (x ∷ xs) p =
    let g : List ℕ → List ℕ = λ y. codes " | " ++ y in
    ap (λ t. x ++ t) (flat_map-append g xs (p ∷ []) ∙ ap (λ t. flat_map g xs ++ t) (append-nil (g p)))
    ∙ sym (append_assoc x (flat_map g xs) (g p))

pub is_none_more : (ps : List (List ℕ)) (p : List ℕ) → is_none (ps ++ p ∷ []) ≡ false
is_none_more [] p = refl
is_none_more (x ∷ xs) p = refl

module _ {R : Type 0} (name : R → List ℕ) (bits_of : R → ℕ) (bits : ℕ) (rows : List R) (i : ℕ) (row : R)
    (h : i < length rows) where
  name_of : R → List (List ℕ)
  name_of r = if bit_and bits (bits_of r) == bits_of r then name r ∷ [] else []

  -- a row whose bits are all set
  pub names_more : (b : ℕ) (n : List ℕ) → b ≡ bits_of (get_or rows i row) → n ≡ name (get_or rows i row)
      → (bit_and bits b == b) ≡ true
      → names_set name bits_of bits (take (i + 1) rows) ≡ names_set name bits_of bits (take i rows) ++ n ∷ []
  unfolding names_set name_of
  names_more b n b_is n_is set =
      flat_map-take-more name_of rows i row h
      ∙ ap (λ x. flat_map name_of (take i rows) ++ (if bit_and bits x == x then name (get_or rows i row) ∷ [] else []))
      (sym b_is)
      ∙ ap (λ x. flat_map name_of (take i rows) ++ (if x then name (get_or rows i row) ∷ [] else [])) set
      ∙ ap (λ x. flat_map name_of (take i rows) ++ x ∷ []) (sym n_is)

  -- a row with a bit that is not set
  pub names_same : (b : ℕ) → b ≡ bits_of (get_or rows i row) → (bit_and bits b == b) ≡ false
      → names_set name bits_of bits (take (i + 1) rows) ≡ names_set name bits_of bits (take i rows)
  unfolding names_set name_of
  names_same b b_is unset =
      flat_map-take-more name_of rows i row h
      ∙ ap (λ x. flat_map name_of (take i rows) ++ (if bit_and bits x == x then name (get_or rows i row) ∷ [] else []))
      (sym b_is)
      ∙ ap (λ x. flat_map name_of (take i rows) ++ (if x then name (get_or rows i row) ∷ [] else [])) unset
      ∙ append-nil (flat_map name_of (take i rows))

module _ {W : Type 0} (took : W → List ℕ → W → Type 0) (f g h : Formatter W) where
  -- pieces were written, and then one more
  pub written_more : (ps : List (List ℕ)) (p : List ℕ) (is_first : Bool) → is_first ≡ is_none ps
      → HasWritten took f (joined ps) g → HasWritten took g (bar_unless is_first ++ p) h
      → HasWritten took f (joined (ps ++ p ∷ [])) h
  written_more ps p is_first first before now =
      has_written_of_eq took f _ _ h (sym (joined_more ps p ∙ ap (λ b. joined ps ++ (bar_unless b ++ p)) (sym first)))
      (has_written_append took f _ g _ h before now)

-- nothing was written
pub written_none : {W : Type 0} (took : W → List ℕ → W → Type 0) (f : Formatter W) → IsPlainFormatter f
    → HasWritten took f [] f
written_none took f plain = record { wrote = writes_in_calls_nil took f.writer; plain = plain }
