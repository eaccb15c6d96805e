use Rattle.std.proofs.Common.{◌≡◌, ◌↔◌, ℕ, List, Option, Some, Result, Ok, Err, IfErr, option_map, subst, sym, ap, ◌∙◌}
use Rattle.std.specs.Borrow.{Bor}
use Rattle.link_info.specs.declared.info.InfoError.{InfoError}
use Rattle.link_info.specs.declared.info.InfoError.TheVariants as why
use Rattle.link_info.specs.declared.style.Row.{Row}
use Rattle.link_info.specs.Meanings.{Number}
use Rattle.link_info.specs.Built.{Built, row_named, bits_of, Holds, AreRefused}
use Rattle.link_info.proofs.info.Info.set_flags.Goals as goal

-- the bits of flags are one number
same_bits : (a b : ℕ) → Some a ≡ Some b → a ≡ b
same_bits a b is = cc

refused : {X : Type 0} (r : Result X InfoError) (row : Row) (flags : List (Bor (List ℕ))) (bits : ℕ)
    → bits_of row.2 flags ≡ Some bits → IfErr r (λ e. (e ≡ why.NotHeld) ↔ (Holds row.2 (Number bits) → ⊥))
    → IfErr r (λ e. (e ≡ why.NotHeld) ↔ AreRefused (Some row) flags)
refused (Ok x) row flags bits is h = tt
refused (Err e) row flags bits is h = (
  λ same n named held. h.0 same (subst (λ m. Holds row.2 (Number m)) (same_bits n bits (sym named ∙ is)) held),
  λ none. h.1 (λ held. none bits is held),
)

pub returns-in-Some-bits_of-clause-held : goal.returns-in-Some-bits_of-clause-held
returns-in-Some-bits_of-clause-held c =
    let rows = ap (λ (b : Built). row_named b.rows c.args.name.now) (sym c.self.view_is) in
    let row = ap (option_map (λ (row : Bor Row). row.now)) c.in-Some.is in
    let found : row_named c.args.self.now.rows c.args.name.now ≡ Some c.in-Some.row.now =
    rows ∙ sym c.row_named.ensures ∙ row in
    let bits = sym c.bits_of.ensures ∙ c.in-Some-bits_of.is in
    let Asked : Option Row → Type 0 = λ row. IfErr c.set_row.result
    (λ e. (e ≡ why.NotHeld) ↔ AreRefused row c.args.flags.now) in
    subst Asked (sym found)
    (refused c.set_row.result c.in-Some.row.now c.args.flags.now c.in-Some-bits_of.bits bits c.set_row.ensures.held)
