use Rattle.nla_wire.proofs.Texts.{ascii_utf8}
use Rattle.nla_wire.proofs.text.is_utf8.Goals as goal

pub returns-then-is_ascii : goal.returns-then-is_ascii
returns-then-is_ascii c =
    (λ told. ascii_utf8 c.args.bytes.now (c.is_ascii.ensures.0 told), λ whole. c.if-is_ascii.true)
