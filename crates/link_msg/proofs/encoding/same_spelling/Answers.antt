use Rattle.std.proofs.Common.{◌≡◌, sym, ◌∙◌, rules}
use Rattle.std.specs.Prelude.{IsTrue, ◌↔◌}
use Rattle.link_msg.specs.contracts.header.LinkHeaderExact.TheImpl.Laws.{decides-law as header_exact}
use Rattle.link_msg.proofs.Comparing.{spellings_compared}
use Rattle.link_msg.proofs.encoding.same_spelling.Goals as goal

pub returns-then-eq : goal.returns-then-eq
returns-then-eq c a b n k bytes_a bytes_b first second of_first of_second =
    let decided = header_exact c.args.header.now c.args.other_header.now in
    let rests : IsTrue c.eq-then-eq.result ↔ (c.args.rest.now ≡ c.args.other_rest.now) = search rules in
    spellings_compared a b c.args.header.now c.args.other_header.now c.args.rest.now c.args.other_rest.now n k bytes_a
    bytes_b first second of_first of_second c.eq-then-eq.result
    (λ is. (decided.0 (sym c.eq.ensures ∙ c.if-eq.true), rests.0 is), λ same. rests.1 same.1)

pub returns-else-eq : goal.returns-else-eq
returns-else-eq c a b n k bytes_a bytes_b first second of_first of_second =
    let decided = header_exact c.args.header.now c.args.other_header.now in
    spellings_compared a b c.args.header.now c.args.other_header.now c.args.rest.now c.args.other_rest.now n k bytes_a
    bytes_b first second of_first of_second c.eq.result
    (λ is. let never = sym is ∙ c.if-eq.false in absurd cc, λ same. c.eq.ensures ∙ decided.1 same.0)
