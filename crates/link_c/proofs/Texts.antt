-- The line of an answer, and the answer without its end.
use Rattle.std.specs.Prelude.{◌≡◌, ℕ, ℤ, pos, negsuc, Bool, List, [], ◌∷◌, length, Result}
use Rattle.std.proofs.Common.{refl, sym, subst}
use Rattle.std.proofs.lemmas.List.{append_cancel_right}
use Rattle.line_filter.specs.Lines.{with_lf}
use Rattle.frame_shown.specs.declared.form.Order.{Order}
use Rattle.link_c.specs.Answers.{Says}
use Rattle.link_c.specs.declared.refusal.Refusal.{Refusal}
use Rattle.link_c.specs.Shown.{Answers, Puts, PutsWhole}

lf_cancel : (one other : List ℕ) → with_lf one ≡ with_lf other → one ≡ other
lf_cancel one other same = append_cancel_right one other (10 ∷ []) same

-- the answer that was put
pub answer_put : (is_lenient : Bool) (order : Order) (b answer text old new : List ℕ)
    → Answers is_lenient order b answer → with_lf answer ≡ with_lf text → Puts text old new
    → (t : List ℕ) × Answers is_lenient order b t × PutsWhole t old new (length text)
answer_put is_lenient order b answer text old new is same put =
    (text, subst (λ t. Answers is_lenient order b t) (lf_cancel answer text same) is, (refl, put))

-- what was found is said of the number that it became
pub says_found : {A : Type 0} (number : A → ℕ) (says : Result A Refusal → Type 0) (found : Result A Refusal) (z : ℤ)
    → Says number (λ r. r ≡ found) z → says found → Says number says z
says_found number says found (pos n) w h = (w.0, w.1, subst says (sym w.2) h)
says_found number says found (negsuc n) w h = (w.0, w.1, subst says (sym w.2) h)
