-- What is written and measured, in the words of the relations.
use Rattle.std.proofs.Common.{◌≡◌, ℕ, List, Option, Some, None, Result, Ok, Err, refl, subst}
use Rattle.nla_wire.specs.Grammar.{Grammar, Agrees}
use Rattle.nla_wire.specs.Canon.{Weighs, Rewrites, Canonical, MeansLength, MeansEncoding, MeansWritten}
use Rattle.nla_wire.specs.declared.error.Cause.{Cause}
use Rattle.nla_wire.proofs.Meaning.{ok_once, not_both}

module _ {S V : Type 0} {One : S → Type 0} (g : Grammar S V) (h : Agrees One g) (s : S) (one : One s)
    (encoding : V → List ℕ) where
  none_fits : (fits : V → Type 0) (v : V) → g.reads s ≡ Ok v → (fits v → ⊥) → (a : V) → g.means s a → fits a → ⊥
  none_fits fits v e not a m fit = not (subst fits (ok_once (g.reads s) a v (h.only s a m) e) fit)

  length_of : (fits : V → Type 0) (read : Result V Cause) → g.reads s ≡ read → (r : Option ℕ)
      → Weighs encoding fits read r → MeansLength (g.means s) encoding fits r
  length_of fits (Ok v) e (Some n) (fit, is) = (v, h.found s v one e, fit, is)
  length_of fits (Ok v) e None not = none_fits fits v e not
  length_of fits (Err c) e (Some n) w = absurd w
  length_of fits (Err c) e None w = λ a m fit. not_both (g.reads s) a c (h.only s a m) e

  encoding_of : (fits : V → Type 0) (read : Result V Cause) → g.reads s ≡ read → (old new : List ℕ) (r : Option ℕ)
      → Canonical encoding fits read old new r → MeansEncoding (g.means s) encoding fits old new r
  encoding_of fits (Ok v) e old new (Some n) (fit, is) = (v, h.found s v one e, fit, is)
  encoding_of fits (Ok v) e old new None (not, same) = (none_fits fits v e not, same)
  encoding_of fits (Err c) e old new (Some n) w = absurd w
  encoding_of fits (Err c) e old new None same =
      ((λ a m fit. not_both (g.reads s) a c (h.only s a m) e), same)

  pub means_length : (fits : V → Type 0) (r : Option ℕ) → Weighs encoding fits (g.reads s) r
      → MeansLength (g.means s) encoding fits r
  means_length fits r weighs = length_of fits (g.reads s) refl r weighs

  pub means_encoding : (fits : V → Type 0) (old new : List ℕ) (r : Option ℕ)
      → Canonical encoding fits (g.reads s) old new r → MeansEncoding (g.means s) encoding fits old new r
  means_encoding fits old new r canonical = encoding_of fits (g.reads s) refl old new r canonical

  pub means_written : (old new : List ℕ) (n : ℕ) → Rewrites encoding (g.reads s) old new n
      → MeansWritten (g.means s) encoding old new n
  means_written old new n rewrites v m =
      subst (λ (read : Result V Cause). Rewrites encoding read old new n) (h.only s v m) rewrites
