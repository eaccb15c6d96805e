use Rattle.std.proofs.Common.{◌∙◌, sym, subst}
use Rattle.std.proofs.lemmas.Result.{on_ok_weaker}
use Rattle.link_info.specs.Rows.{AreAllRows}
use Rattle.message_shown.proofs.answers.Shown.push_message.Goals as goal

pub returns-clause-answer : goal.returns-clause-answer
returns-clause-answer g c =
    rw (sym c.self.view_is)
    (on_ok_weaker c.push-done.result
    (λ s. (
      s.0,
      (
        c.new-cx.result,
        record {
          tables = subst AreAllRows (sym c.new-cx.ensures.tables) c.self.invariant;
          counters = c.new-cx.ensures.counters;
          order_is = c.new-cx.ensures.order ∙ c.order_for.ensures;
          address = c.new-cx.ensures.address;
        },
        s.1,
      ),
      s.2,
    ))
    c.push-done.ensures)
