use Rattle.std.proofs.Common.{ap, sym, ◌∙◌}
use Rattle.std.specs.Prelude.{Option}
use Rattle.link_state.specs.declared.level.Level.{Level}
use Rattle.frame_diff.specs.Counters.{action_at, clears_at, level_in}
use Rattle.frame_diff.proofs.Cleared.{other_level, this_level}
use Rattle.frame_diff.proofs.counters.moving_part.Goals as goal

pub returns-then-is_inet6 : goal.returns-then-is_inet6
returns-then-is_inet6 c place =
    ap (λ (o : Option Level). clears_at (action_at o c.args.number) place)
    (this_level (level_in c.args.list) (sym c.is_inet6.ensures ∙ c.if-is_inet6.true))
    ∙ c.inet6_part.ensures place

pub returns-else-is_inet6 : goal.returns-else-is_inet6
returns-else-is_inet6 c place =
    other_level (level_in c.args.list) c.args.number (sym c.is_inet6.ensures ∙ c.if-is_inet6.false) place
