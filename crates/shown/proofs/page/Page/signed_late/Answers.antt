use Rattle.std.proofs.Common.{refl, rules}
use Rattle.shown.proofs.Pages.{page_value}
use Rattle.shown.proofs.Lines.{signed_on_line}
use Rattle.shown.proofs.page.Page.signed_late.Goals as goal

pub invariant_of-self-2 : goal.invariant_of-self-2
invariant_of-self-2 c =
    let page = rw c.if-self.false at c.self.invariant in
    rw c.in_ok-put_signed.ensures (page_value _ _ _ _ _ page (λ _. refl) (signed_on_line _ (search rules)))
