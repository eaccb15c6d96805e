use Rattle.shown.proofs.Pages.{page_begin}
use Rattle.shown.proofs.page.Page.keyed_begin.Goals as goal

pub invariant_of-self-2 : goal.invariant_of-self-2
invariant_of-self-2 c =
    let page = rw c.if-self.false at c.self.invariant in
    rw (c.in_ok-put_begun.ensures, c.in_ok-push.ensures.items) (page_begin _ _ _ _ _ page)
