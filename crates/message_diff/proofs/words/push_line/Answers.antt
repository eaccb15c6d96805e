use Rattle.std.proofs.Common.{◌++◌, ◌∷◌, [], List, ℕ}
use Rattle.json.specs.Token.{Token, string}
use Rattle.message_shown.proofs.Added.{member_last, object_told}
use Rattle.message_diff.specs.Alone.{told_words, member_line}
use Rattle.message_diff.proofs.words.push_line.Goals as goal

pub returns : goal.returns
unfolding member_line
returns c =
    let words = told_words c.args.front.now in
    let member : List ℕ × List Token = (c.args.name.now, string c.args.value.now ∷ []) in
    object_told (words ++ member ∷ []) c.string.new.self _ _ _
    (member_last words member c.in_ok-page.page c.show_told.new.page c.string.new.self c.in_ok-page.ensures
    c.in_ok-show_told.ensures c.in_ok-string.ensures)
    c.in_ok-finish.ensures c.in_ok-push.ensures.items
