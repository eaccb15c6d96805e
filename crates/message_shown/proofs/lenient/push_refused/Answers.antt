use Rattle.std.proofs.Common.{subst}
use Rattle.std.proofs.lemmas.Result.{on_ok_weaker}
use Rattle.message_shown.specs.Leniently.{Fits}
use Rattle.message_shown.specs.Worded.{words_shown}
use Rattle.message_shown.proofs.Added.{means_nothing}
use Rattle.message_shown.proofs.Leniently.{added_leniently}
use Rattle.message_shown.proofs.lenient.push_refused.Goals as goal

pub push_accepted-requires : goal.push_accepted-requires
push_accepted-requires c = subst (Fits c.args.bytes.now) c.if-fits.true c.fits.ensures

pub returns-then-fits : goal.returns-then-fits
returns-then-fits c =
    on_ok_weaker c.push_accepted.result
    (λ s. s (λ m. means_nothing c.args.bytes.now c.args.error.now.cause m c.requires)) c.push_accepted.ensures.whole

pub returns : goal.returns
returns c =
    on_ok_weaker c.push_fault.result
    (λ s. added_leniently c.args.cx.now (words_shown c.args.front.now) c.args.bytes.now _ _
    (λ _. subst (Fits c.args.bytes.now) c.if-fits.false c.fits.ensures) s)
    c.push_fault.ensures
