use Rattle.std.proofs.Common.{◌∙◌}
use Rattle.nla_wire.specs.Items.{items}
use Rattle.link_view.proofs.Searching.{found_numbered}
use Rattle.link_view.proofs.sought.frame_of.Goals as goal

pub returns-clause-numbered : goal.returns-clause-numbered
returns-clause-numbered c =
    found_numbered c.args.sought.number (items c.args.list.now) c.frame_at.result (c.frame_at.ensures ∙ c.requires)
