use Rattle.link_view.proofs.Searching.{checked_is}
use Rattle.link_view.proofs.sought.front_of.Goals as goal

pub returns : goal.returns
returns c = checked_is c.args.bytes.now c.new_checked.result c.new_checked.ensures
