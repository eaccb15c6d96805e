use Rattle.std.proofs.Common.{◌≡◌, ◌<◌, List, ℕ, [], Bool, true, length, subst, rules}
use Rattle.message_diff.specs.declared.snapshot.Compared.{Compared}
use Rattle.message_diff.specs.Announced.{without_event}
use Rattle.message_diff.specs.Changed.{AddsListBy}
use Rattle.message_diff.specs.Compared.{TellsIfDiffers}
use Rattle.link_c.specs.Diffs.{compared}
use Rattle.link_c.specs.Shown.{PutsWhole}
use Rattle.link_c.proofs.diff.write_diff.Goals as goal

pub returns-clause-written : goal.returns-clause-written
returns-clause-written c =
    let f = c.in_ok-flags_of.field-0 in
    let a = without_event c.args.old.now in
    let b = without_event c.args.new.now in
    let by : c.compared-by.result ≡ compared f = c.compared-by.ensures in
    let told : c.in_ok-push_list.field-0 ≡ true = (search rules) in
    let text = c.push_list.new.out.items in
    let tells : TellsIfDiffers c.compared-by.result a b true =
    subst (λ (t : Bool). TellsIfDiffers c.compared-by.result a b t) told c.in_ok-push_list.ensures.told in
    let listed : AddsListBy c.compared-by.result c.args.order a b [] text =
    subst (λ (items : List ℕ). AddsListBy c.compared-by.result c.args.order a b items text) c.new-text.ensures.items
    (c.in_ok-push_list.ensures.list told) in
    let some : 0 < length text = (search rules) in
    let put : PutsWhole text c.args.out.now c.put_text.new.out c.len-2.result = (search rules) in (
      f,
      c.in_ok-flags_of.ensures,
      (
        true,
        subst (λ (x : Compared). TellsIfDiffers x a b true) by tells,
        (text, subst (λ (x : Compared). AddsListBy x c.args.order a b [] text) by listed, some, put),
      ),
    )
