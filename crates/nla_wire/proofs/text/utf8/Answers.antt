use Rattle.nla_wire.proofs.text.utf8.Goals as goal

pub from_utf8_unchecked-requires : goal.from_utf8_unchecked-requires
from_utf8_unchecked-requires c = c.is_utf8.ensures.0 c.if-is_utf8.true
