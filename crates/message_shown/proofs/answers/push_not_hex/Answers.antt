use Rattle.message_shown.proofs.Added.{member_last, object_told}
use Rattle.message_shown.specs.Lines.{nothex_member, whole_object}
use Rattle.message_shown.specs.Worded.{words_shown}
use Rattle.std.proofs.Common.{◌≡◌, ◌++◌, ◌∷◌, [], List, ℕ, sym, ap, ◌∙◌, arith, length}
use Rattle.std.proofs.lemmas.Bool.Decides.{nat_tests}
use Rattle.std.proofs.lemmas.List.{nil_from_length}
use Rattle.line_filter.specs.Lines.{with_lf}
use Rattle.message_shown.proofs.answers.push_not_hex.Goals as goal

no_words : (front : List ℕ) → front ≡ []
    → whole_object (words_shown front ++ nothex_member ∷ []) ≡ whole_object (nothex_member ∷ [])
no_words front is = ap (λ f. whole_object (words_shown f ++ nothex_member ∷ [])) is

pub returns-then-is_empty : goal.returns-then-is_empty
returns-then-is_empty c =
    let none : length c.args.front.now ≡ 0 = grind (arith, nat_tests) in
    c.in_ok-push_bare_not_hex.ensures
    ∙ ap (λ t. c.args.waiting.now.items ++ with_lf t)
    (sym (no_words c.args.front.now (nil_from_length c.args.front.now none)))

pub returns : goal.returns
returns c =
    object_told (words_shown c.args.front.now ++ nothex_member ∷ []) c.keyed_string.new.self _ _ _
    (member_last (words_shown c.args.front.now) nothex_member c.in_ok-page.page c.show_words.new.page _
    c.in_ok-page.ensures c.in_ok-show_words.ensures c.in_ok-keyed_string.ensures)
    c.in_ok-finish.ensures c.in_ok-push.ensures.items
