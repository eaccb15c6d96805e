use Rattle.std.proofs.Common.{◌∙◌, sym, ap, append-nil, ◌++◌, take}
use Rattle.link_state.proofs.Thinning.{thinned_over}
use Rattle.link_state.proofs.thin.thin_list.Goals as goal

pub returns-clause-left : goal.returns-clause-left
returns-clause-left g c =
    let front = take c.loop-at.to c.loop-at.list in
    sym (append-nil front)
    ∙ ap (λ xs. front ++ xs) (sym (thinned_over g.L.Thinned.level c.loop-at.list c.loop-at.at c.loop-at-test.false))
    ∙ c.loop-at.invariant.so_far
