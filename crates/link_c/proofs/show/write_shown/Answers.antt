use Rattle.std.proofs.Common.{sym, ◌∙◌}
use Rattle.link_c.proofs.Texts.{answer_put}
use Rattle.link_c.proofs.show.write_shown.Goals as goal

pub returns-clause-shown : goal.returns-clause-shown
returns-clause-shown c =
    let flags = c.in_ok-flags.flags in
    let said = c.in_ok-line.ensures in (
      flags,
      c.in_ok-flags.ensures,
      answer_put flags.lenient c.args.order c.args.bytes.now said.0 c.without_lf-text.result.now c.args.out.now
          c.put_text.new.out said.1 (sym said.2 ∙ sym c.as_slice.ensures.value ∙ c.without_lf-text.ensures)
          c.put_text.ensures,
    )
