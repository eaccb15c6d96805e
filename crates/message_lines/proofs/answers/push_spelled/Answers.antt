use Rattle.std.proofs.lemmas.Result.{on_ok_weaker}
use Rattle.message_lines.proofs.Added.{on_ok_extended, adds_spelled, adds_nothex}
use Rattle.message_lines.proofs.answers.push_spelled.Goals as goal

pub returns-then-not-decode : goal.returns-then-not-decode
returns-then-not-decode g c =
    on_ok_extended c.extend_from_slice.result _ _ _ c.extend_from_slice.ensures.items
    (λ s. adds_nothex g.E.Encoding.means g.E.Encoding.encodes _ _ _ _ c.if-not-decode.ensures.1 s)

pub returns : goal.returns
returns g c =
    on_ok_weaker c.push_encoded.result
    (λ s. adds_spelled g.E.Encoding.means g.E.Encoding.encodes _ _ _ _ c.if-not-decode.ensures s) c.push_encoded.ensures
