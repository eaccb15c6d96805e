use Rattle.std.proofs.Common.{◌≡◌, drop}
use Rattle.link_info.specs.Places.{place_among}
use Rattle.link_info.proofs.place.place_among.Given as goal

abbrev pub invariant-loop-row : goal.invariant-loop-row
invariant-loop-row l = place_among (drop l.row-index l.kinds) l.kind ≡ place_among l.kinds l.kind
