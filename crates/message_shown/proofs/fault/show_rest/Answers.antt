use Rattle.std.proofs.Common.{inl, inr, refl, arith, []}
use Rattle.std.proofs.lemmas.Result.{on_ok_weaker}
use Rattle.frame_shown.specs.Accepted.{before_members}
use Rattle.message_shown.proofs.fault.show_rest.Goals as goal

pub returns-then-bytes-lt-HEADER_SIZE : goal.returns-then-bytes-lt-HEADER_SIZE
returns-then-bytes-lt-HEADER_SIZE c = ([], refl, inl (c.if-bytes-lt-HEADER_SIZE.true, refl))

pub returns : goal.returns
returns c =
    on_ok_weaker c.show_before.result
    (λ is. (
      before_members c.args.cx.now.around c.args.bytes.now,
      is,
      inr (omega (arith, c.if-bytes-lt-HEADER_SIZE.false), refl),
    )) c.show_before.ensures
