use Rattle.link_headline.proofs.Worded.{format, parsed, checked, texted, compared}
use Rattle.link_headline.proofs.law_headline.Goals as goal

pub returns : goal.returns
returns c =
    let a = c.args.first.now in
    let b = c.args.second.now in
    let read = c.parse.ensures in
    let found = c.check.ensures in
    let one = c.law_one_answer.ensures in
    record {
      format = format c.law_one_meaning.ensures one.fault one.meaning one.answer
          c.law_canonical_twice.ensures.means_the_same c.law_canonical_twice.ensures.same_text;
      parsed = parsed a c.parse.result read.means read.bounds read.fault;
      checked = checked a c.check.result found.found found.fault found.memory;
      encoded = texted a c.canonical.result c.canonical.ensures.ok c.canonical.ensures.err;
      compared = compared a b c.same_message.result c.same_message.ensures.ok c.same_message.ensures.err;
    }
