use Rattle.std.proofs.Common.{sym}
use Rattle.line_filter.proofs.Front.{found_at, found_nowhere}
use Rattle.memchr.specs.Find.{is_byte2}
use Rattle.line_filter.proofs.words.part_len.Goals as goal

pub returns-in-Some-clause-len : goal.returns-in-Some-clause-len
returns-in-Some-clause-len c = sym (found_at (is_byte2 32 9) _ _ c.in-Some.ensures)

pub returns-in-None-clause-len : goal.returns-in-None-clause-len
returns-in-None-clause-len c = sym (found_nowhere (is_byte2 32 9) _ c.in-None.ensures)
