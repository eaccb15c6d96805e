use Rattle.std.proofs.Common.{[], ◌∷◌, ◌++◌, get_or, ap, ◌∙◌, lit<, string_bytes}
use Rattle.shown.specs.Values.{octet_text}
use Rattle.shown.proofs.Octets.{octet_pushed, join_first, join_next}
use Rattle.shown.proofs.address.address_text.Goals as goal

pub loop-i-preserved : goal.loop-i-preserved
loop-i-preserved c =
    let at = c.loop-i in
    let xs = c.args.bytes.now in
    let octet = get_or xs at.i 0 in
    let first = c.in_ok-push-2.ensures in
    let second = c.in_ok-push-3.ensures in
    let both = octet_pushed _ _ _ _ _ octet first.bytes second.bytes first.ascii second.ascii in
    elim c.if-i-gt0.branch [
      | goal.then-i-gt0+in_ok-push w ↦ both
          ∙ ap (λ l. l ++ octet_text octet) (ap string_bytes w.text-is ∙ w.in_ok-push.ensures.bytes
          ∙ (λ k. at.invariant k ++ w.in_ok-push.ensures.ascii (lit< tt) k))
          ∙ join_next octet_text (58 ∷ []) xs at.i 0 w.if-i-gt0.true c.loop-i-test.true
      | goal.else-i-gt0 w ↦ both
          ∙ ap (λ l. l ++ octet_text octet) (ap string_bytes w.text-is ∙ at.invariant)
          ∙ join_first octet_text (58 ∷ []) xs at.i 0 w.if-i-gt0.false c.loop-i-test.true
    ]
