-- Counters without names, one after the other.
use Rattle.std.proofs.Common.{◌≡◌, ℕ, suc, ◌+◌, ◌-◌, ◌*◌, ◌<◌, List, [], arith, sym, ap, ◌∙◌}
use Rattle.std.specs.Int.{w64}
use Rattle.nla_wire.specs.Fields.{number_at}
use Rattle.shown.specs.Drafts.{Draft, with_members, with_value}
use Rattle.frame_shown.specs.Values.{bare_shown, number_tokens}

left : (end i : ℕ) → i < end → end - i ≡ suc (end - (i + 1))
left end i l = omega (arith, l)

further : (i : ℕ) → 8 * (i + 1) ≡ 8 * i + 8
further i = omega arith

pub next_bare : (end i : ℕ) (p : List ℕ) (page new all : Draft) → i < end
    → new ≡ with_value [] (number_tokens (number_at w64 p (8 * i))) page
    → with_members (bare_shown (end - i) p (8 * i)) page ≡ all
    → with_members (bare_shown (end - (i + 1)) p (8 * (i + 1))) new ≡ all
next_bare end i p page new all l is was =
    ap (λ place. with_members (bare_shown (end - (i + 1)) p place) new) (further i)
    ∙ ap (with_members (bare_shown (end - (i + 1)) p (8 * i + 8))) is
    ∙ ap (λ n. with_members (bare_shown n p (8 * i)) page) (sym (left end i l))
    ∙ was
