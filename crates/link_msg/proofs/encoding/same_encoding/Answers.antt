use Rattle.std.proofs.Common.{rules}
use Rattle.link_msg.proofs.Answering.{encodings_compared}
use Rattle.link_msg.proofs.encoding.same_encoding.Goals as goal

pub returns : goal.returns
returns c a b bytes_a bytes_b first second =
    encodings_compared a b c.args.one.now c.args.other.now c.eq.result bytes_a bytes_b first second
    (search rules)
