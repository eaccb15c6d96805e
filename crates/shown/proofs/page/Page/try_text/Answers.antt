use Rattle.std.proofs.Common.{refl}
use Rattle.shown.specs.Pages.{IsPage}
use Rattle.shown.proofs.Pages.{page_value}
use Rattle.shown.proofs.Sheets.{added_or_kept}
use Rattle.shown.proofs.page.Page.try_text.Goals as goal

pub invariant_of-self : goal.invariant_of-self
invariant_of-self g c =
    let p = c.self.inside in
    let page = rw c.if-self.false at c.self.invariant in
    rw c.if-self.false
    (added_or_kept (λ ts. IsPage ts p.inside p.outer.items) c.try_string.result c.try_string.ensures.added
    c.try_string.ensures.kept (page_value _ _ _ _ _ page (λ _. refl) tt) page)
