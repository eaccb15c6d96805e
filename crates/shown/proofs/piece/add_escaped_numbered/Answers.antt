use Rattle.shown.proofs.Pieces.{added_behind}
use Rattle.shown.proofs.piece.add_escaped_numbered.Goals as goal

pub returns : goal.returns
returns c = added_behind _ _ c.add_number.result c.requires.within c.in_ok-end.ensures c.add_number.ensures
