-- What is told of two encodings.
use Rattle.std.proofs.Common.{◌≡◌, ◌++◌, ℕ, List, [], Bool, true, false, append-nil, refl, sym, ◌∙◌, arith}
use Rattle.std.specs.Prelude.{◌↔◌, IsTrue, MatchBool}
use Rattle.std.specs.Bool.{Decides}
use Rattle.std.proofs.lemmas.Slice.Eq.{bytes_eq-Decides}
use Rattle.message_diff.specs.declared.snapshot.Compared.{Compared}
use Rattle.message_diff.specs.Changed.{AddsChanged, IsChanged, changed_line}
use Rattle.message_diff.specs.Shots.{Shot}
use Rattle.message_diff.specs.Known.{is_text}
use Rattle.message_diff.specs.Told.{AddsTurned}

clash : true ≡ false → ⊥
clash e = let z : ◌≡◌ {A = ℕ} 0 1 = cc in omega arith

turned : (by : Compared) (front : List ℕ) (s t : Shot) (a b : List ℕ) (same told : Bool)
    → Decides same (s.text ≡ t.text) → (told ≡ false) ↔ (s.text ≡ t.text)
    → (told ≡ false → b ≡ a) → (IsTrue told → AddsChanged by front s t a b)
    → (line : List ℕ) × MatchBool same (line ≡ []) (IsChanged by front s t line) × (b ≡ a ++ line)
turned by front s t a b true true is tells nothing more = absurd (clash (tells.1 (is.0 refl)))
turned by front s t a b true false is tells nothing more = ([], refl, nothing refl ∙ sym (append-nil a))
turned by front s t a b false true is tells nothing more = (changed_line by front s t, refl, more refl)
turned by front s t a b false false is tells nothing more = absurd (clash (sym (is.1 (tells.0 refl))))

pub told_of : (by : Compared) (front : List ℕ) (s t : Shot) (a b : List ℕ) (told : Bool)
    → (told ≡ false) ↔ (s.text ≡ t.text)
    → (told ≡ false → b ≡ a) → (IsTrue told → AddsChanged by front s t a b) → AddsTurned by front s t a b
told_of by front s t a b told = turned by front s t a b (is_text s.text t.text) told (bytes_eq-Decides s.text t.text)
