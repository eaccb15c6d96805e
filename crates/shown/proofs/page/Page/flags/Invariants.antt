use Rattle.std.proofs.Common.{◌≡◌, take}
use Rattle.shown.specs.Values.{bits_unnamed}
use Rattle.shown.proofs.Flags.{flags_begun, rows}
use Rattle.shown.proofs.page.Page.flags.Given as goal

abbrev pub invariant-loop-i : goal.invariant-loop-i
invariant-loop-i l = record {
  page : l.self ≡ flags_begun l.fn.name (take l.i (rows l.names)) l.bits l.fn.self;
  left : l.others ≡ bits_unnamed (take l.i (rows l.names)) l.bits;
}
