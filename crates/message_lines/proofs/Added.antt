-- How the answer to a line is added.
use Rattle.std.proofs.Common.{◌≡◌, ℕ, List, ◌++◌, refl, sym, ap, subst}
use Rattle.std.specs.Prelude.{Result, Ok, Err, OnOk, is_ok, codes, if◌then◌else◌}
use Rattle.std.specs.declared.alloc.AllocError.{AllocError}
use Rattle.hex.specs.Hex.{decode_of, encode_lower}
use Rattle.hex.specs.declared.error.FromHexError.{FromHexError}
use Rattle.link_msg.specs.declared.encoding.CanonError.{CanonError}
use Rattle.link_msg.specs.declared.encoding.CanonError.TheVariants.{Decode, DoesNotFit, EmptyVfPorts}
use Rattle.nla_wire.specs.declared.error.DecodeError.{DecodeError}
use Rattle.line_filter.specs.Lines.{with_lf}
use Rattle.message_lines.specs.Answers.{Meaning, Encodes, IsRefusal, IsAnswerTo, IsAnswerToSpelled}
use Rattle.message_lines.specs.Answers.{AddsAnswer, AddsAnswerTo}

-- what an extended list holds where the call succeeds
pub on_ok_extended : {P : Type 0} (r : Result (Unit {0}) AllocError) (new longer same : List ℕ)
    → new ≡ (if is_ok r then longer else same) → (new ≡ longer → P) → OnOk r P
on_ok_extended (Ok _) new longer same h k = k h
on_ok_extended (Err _) new longer same h k = tt

-- ** what was answered by the bytes
module _ (Means : Meaning) (Text : Encodes) where
  pub adds_text : (bytes text shown old new : List ℕ) → Text bytes text → shown ≡ text
      → new ≡ old ++ with_lf (codes "ok " ++ encode_lower shown) → AddsAnswerTo Means Text bytes old new
  adds_text bytes text shown old new h e k =
      (codes "ok " ++ encode_lower shown, IsAnswerTo.ok text h (ap (λ t. codes "ok " ++ encode_lower t) e), k)

  pub adds_refused : (bytes old new : List ℕ) (e : CanonError) (fault : DecodeError) → e ≡ Decode fault
      → IsRefusal Means bytes e → new ≡ old ++ codes "refused\n" → AddsAnswerTo Means Text bytes old new
  adds_refused bytes old new e fault is h k =
      (codes "refused", IsAnswerTo.refused (subst (IsRefusal Means bytes) is h) refl, k)

  pub adds_unfit : (bytes old new : List ℕ) (e : CanonError) → e ≡ DoesNotFit → IsRefusal Means bytes e
      → new ≡ old ++ codes "unfit\n" → AddsAnswerTo Means Text bytes old new
  adds_unfit bytes old new e is h k = (codes "unfit", IsAnswerTo.unfit (subst (IsRefusal Means bytes) is h) refl, k)

  pub adds_empty_ports : (bytes old new : List ℕ) (e : CanonError) → e ≡ EmptyVfPorts → IsRefusal Means bytes e
      → new ≡ old ++ codes "empty-ports\n" → AddsAnswerTo Means Text bytes old new
  adds_empty_ports bytes old new e is h k =
      (codes "empty-ports", IsAnswerTo.empty_ports (subst (IsRefusal Means bytes) is h) refl, k)

  -- ** what was spelled by the line
  pub adds_spelled : (line room old new : List ℕ) → decode_of line ≡ Ok room → AddsAnswerTo Means Text room old new
      → AddsAnswer Means Text line old new
  adds_spelled line room old new h s =
      (s.0, subst (λ (t : Result (List ℕ) FromHexError). IsAnswerToSpelled Means Text t s.0) (sym h) s.1, s.2)

  pub adds_nothex : (line old new : List ℕ) (e : FromHexError) → decode_of line ≡ Err e → new ≡ old ++ codes "nothex\n"
      → AddsAnswer Means Text line old new
  adds_nothex line old new e h s = (
    codes "nothex",
    subst (λ (t : Result (List ℕ) FromHexError). IsAnswerToSpelled Means Text t (codes "nothex")) (sym h) refl,
    s,
  )
