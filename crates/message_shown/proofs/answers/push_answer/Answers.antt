use Rattle.std.proofs.Common.{sym, subst}
use Rattle.std.proofs.lemmas.Result.{on_ok_weaker}
use Rattle.link_info.specs.Rows.{AreAllRows}
use Rattle.message_shown.proofs.answers.push_answer.Goals as goal

pub returns-clause-whole : goal.returns-clause-whole
returns-clause-whole c =
    on_ok_weaker c.push_bytes_in.result
    (λ s. (
      s.0,
      (
        c.new-cx.result,
        record {
          tables = subst AreAllRows (sym c.new-cx.ensures.tables) c.all_rows-tables.ensures;
          counters = c.new-cx.ensures.counters;
          order_is = c.new-cx.ensures.order;
          address = c.new-cx.ensures.address;
        },
        s.1,
      ),
      s.2,
    ))
    c.push_bytes_in.ensures.whole
