use Rattle.std.proofs.Common.{◌≡◌, ◌++◌, ◌∙◌, arith, drop, length, take}
use Rattle.std.proofs.lemmas.List.{take_at}
use Rattle.shown.proofs.Escapes.{escaped_added}
use Rattle.shown.proofs.piece.add_part.Goals as goal

pub returns : goal.returns
returns c =
    let put = c.put_between.ensures in
    let buf = c.put_between.new.buf in
    let bytes = c.reserve.new.bytes in
    let same : take bytes.len (buf ++ drop (length buf) bytes.items) ≡ buf =
    take_at buf (drop (length buf) bytes.items) bytes.len (put.escaped.placed.len ∙ c.as_mut_slice.ensures.len) in
    rw same (
      escaped_added (rw c.as_mut_slice.ensures.value c.reserve.ensures.kept) put.escaped
          (omega (
            arith,
            put.escaped.room,
            put.escaped.placed.len,
            put.reached.1,
            c.requires.few.1,
            c.in_ok-reserve.ensures.room,
            c.as_mut_slice.ensures.len,
            c.saturating_sub.ensures,
          )),
      put.reached.0,
      put.reached.1,
    )
