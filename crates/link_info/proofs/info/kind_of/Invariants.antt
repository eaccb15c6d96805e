use Rattle.std.proofs.Common.{◌≡◌, drop}
use Rattle.link_info.specs.Built.{kind_in}
use Rattle.link_info.proofs.info.kind_of.Given as goal

abbrev pub invariant-loop-info : goal.invariant-loop-info
invariant-loop-info l = kind_in (drop l.info-index l.list) ≡ kind_in l.list
