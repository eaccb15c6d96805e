use Rattle.frame_diff.proofs.value.payloads.slots_of.Goals as goal

pub returns-clause-values : goal.returns-clause-values
returns-clause-values c = λ nest.
    let cx = c.args.own.around.now in
    c.in_ok-values.ensures (nest cx) cx
