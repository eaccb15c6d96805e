use Rattle.std.proofs.Common.{refl}
use Rattle.shown.proofs.Pages.{page_value}
use Rattle.shown.proofs.Lines.{decimal_on_line}
use Rattle.shown.proofs.page.Page.number_late.Goals as goal

pub invariant_of-self-2 : goal.invariant_of-self-2
invariant_of-self-2 c =
    let page = rw c.if-self.false at c.self.invariant in
    rw c.in_ok-put_number.ensures
    (page_value _ _ _ _ _ page (λ _. refl) (decimal_on_line _ c.ranges.value.fits))
