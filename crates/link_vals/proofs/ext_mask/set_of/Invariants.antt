use Rattle.std.proofs.Common.{◌≡◌, ◌++◌, drop}
use Rattle.link_vals.specs.LinkExtentMaskTable.{flags_set}
use Rattle.link_vals.proofs.ext_mask.set_of.Given as goal

abbrev pub invariant-loop-flag : goal.invariant-loop-flag
invariant-loop-flag l = l.found.items ++ flags_set l.number (drop l.flag-index l.flags) ≡ flags_set l.number l.flags
