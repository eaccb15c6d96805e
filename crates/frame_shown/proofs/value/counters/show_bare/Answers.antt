use Rattle.std.proofs.Common.{ap, ◌∙◌, []}
use Rattle.shown.specs.Drafts.{with_value}
use Rattle.frame_shown.specs.Values.{number_tokens}
use Rattle.frame_shown.proofs.Bare.{next_bare}
use Rattle.frame_shown.proofs.value.counters.show_bare.Goals as goal

pub loop-i-preserved : goal.loop-i-preserved
loop-i-preserved c =
    next_bare 39 c.loop-i.i c.args.bytes.now c.loop-i.page _ _ c.loop-i-test.true
    (c.in_ok-number.ensures ∙ ap (λ n. with_value [] (number_tokens n) c.loop-i.page) c.u64_at.ensures)
    c.loop-i.invariant
