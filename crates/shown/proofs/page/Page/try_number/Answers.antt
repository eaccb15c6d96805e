use Rattle.std.proofs.Common.{refl}
use Rattle.shown.specs.Pages.{IsPage}
use Rattle.shown.proofs.Lines.{decimal_on_line}
use Rattle.shown.proofs.Pages.{page_value}
use Rattle.shown.proofs.Sheets.{added_or_kept}
use Rattle.shown.proofs.page.Page.try_number.Goals as goal

pub invariant_of-self : goal.invariant_of-self
invariant_of-self g c =
    let p = c.self.inside in
    let page = rw c.if-self.false at c.self.invariant in
    rw c.if-self.false
    (added_or_kept (λ ts. IsPage ts p.inside p.outer.items) c.try_number.result c.try_number.ensures.added
    c.try_number.ensures.kept (page_value _ _ _ _ _ page (λ _. refl) (decimal_on_line _ c.ranges.value.fits)) page)
