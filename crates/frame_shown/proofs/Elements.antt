-- Values of one size, one after the other.
use Rattle.std.proofs.Common.{◌≡◌, ℕ, suc, ◌+◌, ◌-◌, ◌<◌, List, [], take, drop, min, length, arith, sym, ap, ◌∙◌}
use Rattle.std.proofs.lemmas.List.{take_min, drop_min}
use Rattle.link_info.specs.declared.style.Plain.{Plain}
use Rattle.link_info.specs.Styles.{plain_size}
use Rattle.shown.specs.Drafts.{Draft, with_members, with_value}
use Rattle.frame_shown.specs.Values.{elements_shown, spelled}

-- one more of the values that are left
left : (n i : ℕ) → i < n → n - i ≡ suc (n - (i + 1))
left n i l = omega (arith, l)

-- the next value, and those behind it
pub next_element : (plain : Plain) (size at end i : ℕ) (rest value behind : List ℕ) (page new all : Draft)
    → size ≡ plain_size plain → at ≡ min size (length rest) → value ≡ take at rest → behind ≡ drop at rest → i < end
    → new ≡ with_value [] (spelled plain value) page
    → with_members (elements_shown plain (end - i) rest) page ≡ all
    → with_members (elements_shown plain (end - (i + 1)) behind) new ≡ all
next_element plain size at end i rest value behind page new all s a v b l is was =
    let front : value ≡ take (plain_size plain) rest =
    v ∙ ap (λ n. take n rest) a ∙ take_min size rest ∙ ap (λ n. take n rest) s in
    let back : behind ≡ drop (plain_size plain) rest =
    b ∙ ap (λ n. drop n rest) a ∙ drop_min size rest ∙ ap (λ n. drop n rest) s in
    ap (λ t. with_members (elements_shown plain (end - (i + 1)) t) new) back
    ∙ ap (with_members (elements_shown plain (end - (i + 1)) (drop (plain_size plain) rest)))
    (is ∙ ap (λ t. with_value [] (spelled plain t) page) front)
    ∙ ap (λ n. with_members (elements_shown plain n rest) page) (sym (left end i l))
    ∙ was
