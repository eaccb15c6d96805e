use Rattle.shown.proofs.Pages.{page_end}
use Rattle.shown.proofs.page.Page.end.Goals as goal

pub invariant_of-self-2 : goal.invariant_of-self-2
invariant_of-self-2 c =
    let page = rw c.if-self.false at c.self.invariant in
    rw c.in_ok-end.ensures (page_end _ _ _ _ (rw c.in-Some.ensures.items at page))
