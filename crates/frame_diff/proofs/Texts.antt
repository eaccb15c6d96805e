-- The texts that are compared, and the objects that changes are written as.
use Rattle.std.proofs.Common.{◌≡◌, ℕ, List, [], ◌∷◌, ◌++◌, ap, ◌∙◌}
use Rattle.json.specs.Token.{Token}
use Rattle.shown.specs.Drafts.{Draft, empty_object, with_value}
use Rattle.shown.specs.Pages.{AddsText}
use Rattle.shown.proofs.Pages.{whole_text}
use Rattle.frame_diff.specs.Differences.{text_of}

pub text_added : (v : List Token) (first page : Draft) (old new : List ℕ) → first ≡ empty_object
    → page ≡ with_value [] v first → AddsText page old new → new ≡ old ++ text_of v
unfolding text_of
text_added v first page old new empty is s =
    s.2 ∙ ap (λ (t : List ℕ). old ++ t) (whole_text (([], v) ∷ []) page s.0 (is ∙ ap (with_value [] v) empty) s.1)
