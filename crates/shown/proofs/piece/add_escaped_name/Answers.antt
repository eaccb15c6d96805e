use Rattle.std.proofs.Common.{[], ◌∷◌, append_assoc}
use Rattle.shown.specs.Print.{quoted}
use Rattle.shown.specs.Sheets.{comma_if}
use Rattle.shown.proofs.Pieces.{added_behind}
use Rattle.shown.proofs.piece.add_escaped_name.Goals as goal

pub returns : goal.returns
returns c =
    rw (append_assoc (comma_if c.args.comma) (quoted c.args.name.now) (58 ∷ [])) at
    (added_behind _ _ c.add_bytes.result c.requires.within c.in_ok-end.ensures c.add_bytes.ensures)
