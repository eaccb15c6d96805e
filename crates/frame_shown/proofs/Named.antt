-- A value that is added after others.
use Rattle.std.proofs.Common.{◌≡◌, ℕ, List, [], ◌∷◌, ap, sym, ◌∙◌, add-zero, arith}
use Rattle.std.specs.Prelude.{decimal, slice_index}
use Rattle.std.specs.Int.{w8}
use Rattle.nla_wire.specs.Fields.{number_at}
use Rattle.json.specs.Token.{Token, number}
use Rattle.shown.specs.Drafts.{Draft, with_value}

pub then_value : (name : List ℕ) (value : List Token) (page new so_far : Draft) → new ≡ with_value name value page
    → page ≡ so_far → new ≡ with_value name value so_far
then_value name value page new so_far is was = is ∙ ap (λ (d : Draft). with_value name value d) was

pub then_number : (name : List ℕ) (n m : ℕ) (page new so_far : Draft)
    → new ≡ with_value name (number (decimal n) ∷ []) page → n ≡ m → page ≡ so_far
    → new ≡ with_value name (number (decimal m) ∷ []) so_far
then_number name n m page new so_far is same was =
    is ∙ (λ k. with_value name (number (decimal (same k)) ∷ []) (was k))

-- a number of one byte
pub one_byte : (bytes : List ℕ) (place : ℕ) → slice_index bytes place ≡ number_at w8 bytes place
unfolding number_at
one_byte bytes place = ap (slice_index bytes) (sym (add-zero place)) ∙ grind arith
