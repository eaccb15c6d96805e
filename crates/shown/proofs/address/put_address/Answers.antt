use Rattle.std.proofs.Common.{[], ◌∷◌, ◌++◌, take, length, get_or, ap, ◌∙◌, arith}
use Rattle.shown.specs.Values.{octet_text}
use Rattle.shown.proofs.Octets.{join_first, join_next}
use Rattle.shown.proofs.address.put_address.Goals as goal

pub loop-i-preserved : goal.loop-i-preserved
loop-i-preserved c =
    let at = c.loop-i in
    let xs = c.args.bytes.now in
    let octet = get_or xs at.i 0 in
    let put = c.put_octet-end.ensures in
    elim c.if-i-gt0.branch [
      | goal.then-i-gt0 w ↦ (
        put.bytes ∙ (λ k. take (w.end-is k) (w.buf-is k) ++ octet_text octet)
            ∙ ap (λ l. l ++ octet_text octet)
            (w.put_byte-end.ensures.bytes ∙ ap (λ l. l ++ 58 ∷ []) at.invariant.0)
            ∙ join_next octet_text (58 ∷ []) xs at.i 0 w.if-i-gt0.true c.loop-i-test.true,
        omega (arith, put.moved, w.put_byte-end.ensures.moved, w.end-is, at.invariant.1),
        put.len ∙ ap length w.buf-is ∙ w.put_byte-end.ensures.len ∙ at.invariant.2,
      )
      | goal.else-i-gt0 w ↦ (
        put.bytes ∙ (λ k. take (w.end-is k) (w.buf-is k) ++ octet_text octet)
            ∙ ap (λ l. l ++ octet_text octet) at.invariant.0
            ∙ join_first octet_text (58 ∷ []) xs at.i 0 w.if-i-gt0.false c.loop-i-test.true,
        omega (arith, put.moved, w.end-is, at.invariant.1),
        put.len ∙ ap length w.buf-is ∙ at.invariant.2,
      )
    ]
