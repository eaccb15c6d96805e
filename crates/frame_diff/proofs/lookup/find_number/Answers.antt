use Rattle.std.proofs.Common.{◌≡◌, [], ◌∷◌, ◌++◌, ◌∙◌, Ok, ap, sym}
use Rattle.std.specs.Prelude.{◌==◌}
use Rattle.nla_wire.specs.Items.{items}
use Rattle.link_info.specs.Tables.{frames_in}
use Rattle.frame_diff.proofs.There.{none_further, other_number, passed_one}
use Rattle.frame_diff.proofs.lookup.find_number.Goals as goal

pub loop-item-preserved : goal.loop-item-preserved
loop-item-preserved c =
    let here : c.loop-item.item-iterator ≡ Ok c.in-Ok.frame ∷ c.next.new.self = rw c.in-Ok.is at
    c.in-Some.ensures.steps in
    let fs = c.loop-item.invariant.passed.0 in
    record {
      left = c.behind-rest.ensures c.next.new.self (c.loop-item.invariant.left ∙ here);
      passed = (
        fs ++ c.in-Ok.frame ∷ [],
        passed_one c.args.all.now fs c.in-Ok.frame c.loop-item.item-iterator c.next.new.self
            c.loop-item.invariant.passed.1 here,
        none_further c.args.number fs c.in-Ok.frame c.loop-item.invariant.passed.2
            (ap (λ n. n == c.args.number) (sym c.kind.ensures)
            ∙ other_number c.kind.result c.args.number c.if-kind-number.false),
      );
    }

pub returns-then-kind-number-clause-found : goal.returns-then-kind-number-clause-found
returns-then-kind-number-clause-found c =
    let here : c.loop-item.item-iterator ≡ Ok c.in-Ok.frame ∷ c.next.new.self = rw c.in-Ok.is at
    c.in-Some.ensures.steps in (
      c.loop-item.invariant.passed.0,
      frames_in c.next.new.self,
      c.loop-item.invariant.passed.1 ∙ ap (λ xs. c.loop-item.invariant.passed.0 ++ frames_in xs) here,
      sym c.kind.ensures ∙ c.if-kind-number.true,
    )

pub returns-then-kind-number-clause-tail : goal.returns-then-kind-number-clause-tail
returns-then-kind-number-clause-tail c =
    let here : c.loop-item.item-iterator ≡ Ok c.in-Ok.frame ∷ c.next.new.self = rw c.in-Ok.is at
    c.in-Some.ensures.steps in
    let left : items c.behind-rest.result.now ≡ c.next.new.self =
    c.behind-rest.ensures c.next.new.self (c.loop-item.invariant.left ∙ here) in
    let fs = c.loop-item.invariant.passed.0 in (
      fs ++ c.in-Ok.frame ∷ [],
      passed_one c.args.all.now fs c.in-Ok.frame c.loop-item.item-iterator c.next.new.self
          c.loop-item.invariant.passed.1 here
          ∙ ap (λ xs. (fs ++ c.in-Ok.frame ∷ []) ++ frames_in xs) (sym left),
    )
