use Rattle.std.proofs.Common.{ap, ◌∙◌}
use Rattle.std.specs.Prelude.{option_map}
use Rattle.frame_shown.specs.Values.{hexadecimal}
use Rattle.frame_diff.specs.Values.{value_shown}
use Rattle.frame_diff.proofs.Records.{value_is}
use Rattle.frame_diff.proofs.rows.find_value.Goals as goal

pub returns : goal.returns
returns c cx =
    ap (option_map (value_shown (λ list p. hexadecimal p) cx)) c.find_last.ensures
    ∙ value_is cx c.args.name.now c.args.rows.now
