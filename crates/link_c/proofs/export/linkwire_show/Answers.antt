use mir.Val.{SFits}
use Rattle.std.specs.Prelude.{ℕ, Result}
use Rattle.std.proofs.Common.{subst, sym, rules, w64}
use Rattle.std.proofs.lemmas.Int.{to_z-of_z}
use Rattle.link_c.specs.Answers.{Says, itself}
use Rattle.link_c.specs.Shown.{IsShown, numbered_order}
use Rattle.link_c.specs.declared.refusal.Refusal.{Refusal}
use Rattle.link_c.proofs.Texts.{says_found}
use Rattle.link_c.proofs.export.linkwire_show.Goals as goal

pub returns : goal.returns
returns c =
    let is : Result ℕ Refusal → Type 0 =
    IsShown (numbered_order c.args.order) c.args.flags c.args.message.now c.args.out.now c.write_shown.new.out in
    let fits : SFits w64 c.length_code.result = search rules in
    let shown : is c.write_shown.result =
    subst (λ order. IsShown order c.args.flags c.args.message.now c.args.out.now c.write_shown.new.out
    c.write_shown.result)
    c.numbered_order.ensures c.write_shown.ensures.shown in
    subst (λ z. Says itself is z) (sym (to_z-of_z w64 c.length_code.result fits))
    (says_found itself is c.write_shown.result c.length_code.result c.length_code.ensures shown)
