use Rattle.std.proofs.Common.{◌≢◌, arith}
use Rattle.std.proofs.lemmas.Result.{err_from_is_err_and}
use Rattle.nla_wire.proofs.Front.{all_bytes}
use Rattle.link_msg.specs.declared.encoding.CanonError.TheVariants as Refusals
use Rattle.link_msg.proofs.LenientWriting.{measured_refused, measured_none, measured_long, measured_empty}
use Rattle.link_msg.proofs.LenientWriting.{measured_whole}
use Rattle.link_msg.proofs.lenient_encoding.measure_lenient.Goals as goal

pub returns-in_err-check_frames-clause-err : goal.returns-in_err-check_frames-clause-err
returns-in_err-check_frames-clause-err c =
    let p = err_from_is_err_and c.from_residual-in_err-check_frames.result
    c.from_residual-in_err-check_frames.ensures.1 in
    rw (p.1, p.2)
    (measured_refused c.args.input.now c.in_ok-header.header c.in_ok-header.rest.now
    c.in_ok-header.ensures.0 c.in_ok-header.ensures.1 c.in_ok-header.ensures.2 c.in_err-check_frames.field-0.0
    c.in_err-check_frames.ensures.fault c.in_err-check_frames.ensures.memory)

unfit_alone : Refusals.DoesNotFit ≢ Refusals.OutOfMemory
unfit_alone same = absurd cc

pub returns-in_default-clause-err : goal.returns-in_default-clause-err
returns-in_default-clause-err c =
    let found = c.in_ok-check_frames.ensures.found in (
      measured_none c.args.input.now c.in_ok-header.header c.in_ok-header.rest.now c.in_ok-header.ensures.0
          c.in_ok-header.ensures.1 c.in_ok-header.ensures.2 found.0 found.1 c.in_default.ensures,
      unfit_alone,
    )

pub returns-then-len-clause-err : goal.returns-then-len-clause-err
returns-then-len-clause-err c = (
  measured_long c.args.input.now c.in_ok-header.header c.in_ok-header.rest.now
      c.in_ok-header.ensures.0 c.in_ok-header.ensures.1 c.in_ok-header.ensures.2
      (all_bytes c.args.input.now (λ i. omega (arith, c.type_inv.input i))) c.in-Some.len c.in-Some.empty
      c.in-Some.ensures (λ counted. absurd (omega (arith, counted, c.if-len.true))),
  unfit_alone,
)

ports_alone : Refusals.EmptyVfPorts ≢ Refusals.OutOfMemory
ports_alone same = absurd cc

pub returns-then-empty-clause-err : goal.returns-then-empty-clause-err
returns-then-empty-clause-err c = (
  measured_empty c.args.input.now c.in_ok-header.header
      c.in_ok-header.rest.now c.in_ok-header.ensures.0 c.in_ok-header.ensures.1 c.in_ok-header.ensures.2
      (all_bytes c.args.input.now (λ i. omega (arith, c.type_inv.input i))) c.in-Some.len c.in-Some.empty
      c.in-Some.ensures c.if-empty.true (omega (arith, c.if-len.false)),
  ports_alone,
)

pub returns-clause-ok : goal.returns-clause-ok
returns-clause-ok c = measured_whole c.args.input.now c.in_ok-header.header
    c.in_ok-header.rest.now c.in_ok-header.ensures.0 c.in_ok-header.ensures.1 c.in_ok-header.ensures.2
    (all_bytes c.args.input.now (λ i. omega (arith, c.type_inv.input i))) c.in-Some.len c.in-Some.empty
    c.in-Some.ensures c.if-empty.false (omega (arith, c.if-len.false))
