use Rattle.std.proofs.Common.{◌≡◌, drop}
use Rattle.link_info.specs.Built.{data_in}
use Rattle.link_info.proofs.info.data_in.Given as goal

abbrev pub invariant-loop-info : goal.invariant-loop-info
invariant-loop-info l = data_in (drop l.info-index l.list) ≡ data_in l.list
