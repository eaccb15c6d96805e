use Rattle.std.proofs.Common.{ℕ, List, ◌≡◌, [], ◌∷◌, ◌++◌, append_assoc, ◌∙◌}
use Rattle.std.proofs.lemmas.Result.{err_from_is_err_and}
use Rattle.shown.specs.Print.{escape, quoted}
use Rattle.shown.specs.Sheets.{comma_if}
use Rattle.shown.proofs.Pieces.{adds_behind, added_behind, kept_behind}
use Rattle.shown.proofs.piece.add_escaped.Goals as goal

in_quotes : (comma text : List ℕ)
    → ((comma ++ 34 ∷ []) ++ escape text) ++ 34 ∷ [] ≡ comma ++ quoted text
in_quotes comma text =
    append_assoc (comma ++ 34 ∷ []) (escape text) (34 ∷ []) ∙ append_assoc comma (34 ∷ []) (escape text ++ 34 ∷ [])

pub returns-in_err-end : goal.returns-in_err-end
returns-in_err-end c =
    let p = err_from_is_err_and c.from_residual-in_err-end.result c.from_residual-in_err-end.ensures.1 in
    rw p.1 (kept_behind _ c.requires.within c.in_ok-start.ensures c.in_err-end.ensures)

pub returns : goal.returns
returns c =
    rw (in_quotes (comma_if c.args.comma) c.args.text.now) at
    (added_behind _ _ c.add_byte-2.result c.requires.within (adds_behind c.in_ok-start.ensures c.in_ok-end.ensures)
    c.add_byte-2.ensures)
