use Rattle.shown.proofs.Pages.{page_new}
use Rattle.shown.proofs.page.Page.over.Goals as goal

pub invariant_of-result : goal.invariant_of-result
invariant_of-result c = rw (c.in_ok-begin.ensures, c.new-sheet.ensures, c.requires.nests) page_new
