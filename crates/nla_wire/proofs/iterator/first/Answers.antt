use Rattle.std.proofs.Common.{sym, ap, ◌∙◌, ◌∷◌, Ok, Err, length, drop, arith}
use Rattle.std.proofs.lemmas.List.{drop_all}
use Rattle.nla_wire.specs.Items.{items}
use Rattle.nla_wire.proofs.Front.{first_comes, first_fails, padded_after}
use Rattle.nla_wire.proofs.iterator.first.Goals as goal

pub returns-in-Ok : goal.returns-in-Ok
returns-in-Ok c =
    first_comes c.args.bytes.now c.in-Ok.frame (sym c.in-Ok.ensures)
    ∙ ap (λ r. Ok c.in-Ok.frame ∷ items r) (padded_after c.args.bytes.now c.length.result
    (length c.in-Ok.frame.payload) c.length.ensures
    ∙ ap (λ k. drop k c.args.bytes.now) (sym c.nla_align-given.ensures))

pub returns-in-Err : goal.returns-in-Err
returns-in-Err c =
    first_fails c.args.bytes.now c.in-Err.error.cause c.requires (sym c.in-Err.ensures)
    ∙ ap (λ r. Err c.in-Err.error.cause ∷ items r)
    (sym (drop_all (length c.args.bytes.now) c.args.bytes.now (omega arith)))
