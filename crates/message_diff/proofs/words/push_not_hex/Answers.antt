use Rattle.std.proofs.Common.{◌≡◌, ◌++◌, ◌∷◌, [], List, ℕ, sym, ap, ◌∙◌, arith, length}
use Rattle.std.specs.Prelude.{codes}
use Rattle.std.proofs.lemmas.Bool.Decides.{nat_tests}
use Rattle.std.proofs.lemmas.List.{nil_from_length}
use Rattle.line_filter.specs.Lines.{with_lf}
use Rattle.message_shown.specs.Lines.{nothex_member, whole_object}
use Rattle.message_diff.specs.Alone.{told_words, member_line}
use Rattle.message_diff.proofs.words.push_not_hex.Goals as goal

-- the words of no text are none
no_words : (front : List ℕ) → front ≡ []
    → member_line front (codes "fault") (codes "not-hex") ≡ with_lf (whole_object (nothex_member ∷ []))
unfolding member_line
no_words front is = ap (λ f. with_lf (whole_object (told_words f ++ nothex_member ∷ []))) is

pub returns-then-is_empty : goal.returns-then-is_empty
returns-then-is_empty c =
    let none : length c.args.front.now ≡ 0 = grind (arith, nat_tests) in
    c.in_ok-push_bare_not_hex.ensures
    ∙ ap (λ t. c.args.out.now.items ++ t)
    (sym (no_words c.args.front.now (nil_from_length c.args.front.now none)))
