use Rattle.std.proofs.Common.{◌≡◌, false, sym, ap, ◌∙◌, rules}
use Rattle.std.specs.Prelude.{Ok}
use Rattle.std.proofs.lemmas.Result.{IfOk-weaker}
use Rattle.hex.specs.Hex.{decode_of}
use Rattle.line_filter.specs.Words.{are_alone, digits_of}
use Rattle.message_diff.proofs.Faulted.{written_over}
use Rattle.message_diff.proofs.reading.LineReader.read.Goals as goal

pub returns-clause-said : goal.returns-clause-said
returns-clause-said c =
    let alone : are_alone c.args.front.now c.args.rest.now ≡ false = (search rules) in
    let bytes : c.decode.new.bytes ≡ c.as_slice.result.now =
    sym (c.as_slice.ensures.value
    ∙ written_over c.decode.new.bytes c.resize.new.self.items c.resize.new.self.len (search rules) (search rules)) in
    let spelled : decode_of (digits_of c.args.rest.now) ≡ Ok c.as_slice.result.now =
    ap decode_of (sym c.digits_of-digits.ensures) ∙ c.if-not-decode.ensures ∙ ap Ok bytes in
    IfOk-weaker c.said_by_message.result _ _
    (λ said adds. (adds.0, rw (alone, spelled) adds.1, adds.2)) c.said_by_message.ensures
