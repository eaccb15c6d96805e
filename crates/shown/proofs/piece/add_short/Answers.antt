use Rattle.std.proofs.Common.{◌≡◌, ◌++◌, ◌∙◌, arith, drop, length, take}
use Rattle.std.proofs.lemmas.List.{take_at}
use Rattle.shown.proofs.Escapes.{all_stored}
use Rattle.shown.proofs.Pieces.{placed_added, quote_short, quoted_placed}
use Rattle.shown.proofs.piece.add_short.Goals as goal

pub returns : goal.returns
returns c =
    let put = c.put_escaped-end.ensures in
    let buf = c.put_byte.new.buf in
    let bytes = c.reserve.new.bytes in
    let all = quoted_placed c.args.comma c.args.text.now c.put_quote-start.ensures
    (all_stored c.args.text.now put.reached.0 put.escaped) c.put_byte.ensures in
    let same : take bytes.len (buf ++ drop (length buf) bytes.items) ≡ buf =
    take_at buf (drop (length buf) bytes.items) bytes.len (all.len ∙ c.as_mut_slice-buf.ensures.len) in
    rw same (placed_added (rw c.as_mut_slice-buf.ensures.value c.reserve.ensures.kept) all
    (omega (
      arith,
      put.escaped.room,
      put.reached.1,
      all.len,
      c.put_quote-start.ensures.moved,
      quote_short c.args.comma,
      c.in_ok-reserve.ensures.room,
      c.as_mut_slice-buf.ensures.len,
    )))
