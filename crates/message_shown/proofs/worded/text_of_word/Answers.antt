use Rattle.std.proofs.Common.{refl, sym}
use Rattle.std.proofs.lemmas.List.{length-take-le}
use Rattle.message_shown.proofs.Words.{word_taken}
use Rattle.message_shown.proofs.worded.text_of_word.Goals as goal

pub slice_bounds-result-end : goal.slice_bounds-result-end
slice_bounds-result-end c =
    let taken = word_taken c.args.line.now c.args.word.now.key.now c.args.word.now.value.now c.requires.is
    c.requires.key c.requires.value _ refl in
    sym (length-take-le _ c.args.line.now taken.0)

pub returns : goal.returns
returns c =
    (word_taken c.args.line.now c.args.word.now.key.now c.args.word.now.value.now c.requires.is c.requires.key
    c.requires.value _ refl).1
