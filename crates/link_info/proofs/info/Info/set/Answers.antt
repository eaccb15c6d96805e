use Rattle.std.proofs.Common.{◌≡◌, ◌↔◌, Option, Some, IfErr, option_map, subst, sym, ap, ◌∙◌}
use Rattle.std.specs.Borrow.{Bor}
use Rattle.link_info.specs.declared.info.InfoError.TheVariants as why
use Rattle.link_info.specs.declared.style.Row.{Row}
use Rattle.link_info.specs.Meanings.{Meaning, meaning}
use Rattle.link_info.specs.Built.{Built, row_named, Holds, IsRefused}
use Rattle.link_info.proofs.info.Info.set.Goals as goal

pub returns-clause-held : goal.returns-clause-held
returns-clause-held c =
    let rows = ap (λ (b : Built). row_named b.rows c.args.name.now) (sym c.self.view_is) in
    let row = ap (option_map (λ (row : Bor Row). row.now)) c.in-Some.is in
    let found : row_named c.args.self.now.rows c.args.name.now ≡ Some c.in-Some.row.now =
    rows ∙ sym c.row_named.ensures ∙ row in
    let Said : Meaning → Type 0 = λ m. IfErr c.set_row.result
    (λ e. (e ≡ why.NotHeld) ↔ (Holds c.in-Some.row.now.2 m → ⊥)) in
    let Asked : Option Row → Type 0 = λ row. IfErr c.set_row.result
    (λ e. (e ≡ why.NotHeld) ↔ IsRefused row (meaning c.args.value)) in
    subst Asked (sym found) (subst Said c.by_name.ensures c.set_row.ensures.held)
