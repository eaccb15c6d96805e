use Rattle.std.proofs.Common.{Global, Vec, sym, ap, ◌∙◌}
use Rattle.std.specs.Prelude.{option_map}
use Rattle.link_vlans.specs.declared.run.Run.{Run}
use Rattle.frame_diff.proofs.KeyedTold.{no_runs_beside}
use Rattle.frame_diff.proofs.ranges.runs_beside.Goals as goal

pub returns-in-None-clause-runs : goal.returns-in-None-clause-runs
returns-in-None-clause-runs c nest inner is_state =
    c.new.ensures.items
    ∙ sym (no_runs_beside nest inner is_state c.args.others
    (sym c.in_ok-runs.ensures.runs ∙ ap (option_map (λ (r : Vec Run Global). r.items)) c.in-None.is))
