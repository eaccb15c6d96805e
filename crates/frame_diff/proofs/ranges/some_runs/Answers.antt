use Rattle.std.proofs.Common.{Global, Vec, sym, ap, ◌∙◌}
use Rattle.std.specs.Prelude.{option_map}
use Rattle.nla_wire.specs.Items.{items}
use Rattle.link_info.specs.Tables.{frames_in}
use Rattle.link_vlans.specs.declared.run.Run.{Run}
use Rattle.link_vlans.proofs.Say.{runs_apart}
use Rattle.frame_diff.proofs.ranges.some_runs.Goals as goal

pub returns-clause-apart : goal.returns-clause-apart
returns-clause-apart c =
    runs_apart c.args.number (frames_in (items c.args.bytes.now)) c.in-Some.runs.items
    (sym c.in_ok-runs.ensures ∙ ap (option_map (λ (r : Vec Run Global). r.items)) c.in-Some.is)
