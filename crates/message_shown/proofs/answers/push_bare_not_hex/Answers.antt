use Rattle.std.proofs.Common.{◌++◌, ◌∙◌, ap, sym}
use Rattle.message_shown.proofs.Added.{not_hex_line}
use Rattle.message_shown.proofs.answers.push_bare_not_hex.Goals as goal

pub returns : goal.returns
returns c =
    c.in_ok-extend_from_slice.ensures.items ∙ ap (λ t. c.args.waiting.now.items ++ t) (sym not_hex_line)
