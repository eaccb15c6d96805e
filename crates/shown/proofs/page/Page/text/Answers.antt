use Rattle.std.proofs.Common.{◌≡◌, [], ap, arith}
use Rattle.std.proofs.lemmas.Bool.Decides.{nat_tests}
use Rattle.shown.specs.Drafts.{Draft}
use Rattle.shown.proofs.Pages.{page_text, no_items}
use Rattle.shown.proofs.page.Page.text.Goals as goal

pub returns-clause-whole : goal.returns-clause-whole
returns-clause-whole c =
    let none : c.self.inside.outer.items ≡ [] = no_items _ (grind (arith, nat_tests)) in
    let page = rw (c.if-is_broken.false, none) at c.self.invariant in
    rw (c.into_bytes-bytes.ensures.text, c.in_ok-end.ensures)
    (page_text c.args.self _ _ (ap (λ (d : Draft). d.tokens) c.self.view_is)
    (ap (λ (d : Draft). d.inside) c.self.view_is) page)
