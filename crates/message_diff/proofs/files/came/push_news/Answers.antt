use Rattle.std.proofs.Common.{List, ℕ, refl, subst}
use Rattle.std.specs.Prelude.{codes}
use Rattle.std.specs.Option.{option_copied}
use Rattle.std.proofs.lemmas.Result.{on_ok_weaker}
use Rattle.message_diff.specs.Alone.{AddsAlone}
use Rattle.message_diff.proofs.Beside.{told_refused, told_came}
use Rattle.message_diff.proofs.files.came.push_news.Goals as goal

pub returns-in_default : goal.returns-in_default
returns-in_default c =
    told_refused c.args.old.by c.args.old.has_dumps c.args.old.name.now (option_copied c.args.old.host)
    (option_copied c.args.new.host) c.args.key c.args.known.now c.args.written.now c.requires
    c.in_default.ensures.value

pub returns-then-tells : goal.returns-then-tells
returns-then-tells c =
    let w = c.args.written.now in
    let is = c.in-Some.is'.now in
    on_ok_weaker c.push_new.result
    (λ new. told_came c.args.old.by c.args.old.has_dumps c.args.old.name.now (option_copied c.args.old.host)
    (option_copied c.args.new.host) c.args.key c.args.known.now is w (record w { out = c.push_new.new.out })
    c.requires c.in-Some.ensures.value c.in_default-known.ensures c.if-tells.ensures
    (subst (λ (front : List ℕ). AddsAlone front (codes "new") is.snapshot.text w.out.items c.push_new.new.out.items)
    c.words.ensures new) refl)
    c.push_new.ensures
