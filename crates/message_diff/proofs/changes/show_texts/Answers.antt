use Rattle.std.proofs.Common.{◌∷◌, [], ap, ◌∙◌}
use Rattle.std.specs.Prelude.{codes}
use Rattle.std.proofs.lemmas.Result.{on_ok_weaker}
use Rattle.hex.specs.Hex.{encode_lower}
use Rattle.json.specs.Token.{string}
use Rattle.shown.specs.Drafts.{with_value}
use Rattle.shown.proofs.Drafts.{object_ended}
use Rattle.frame_diff.specs.Items.{change_item}
use Rattle.message_diff.specs.Changed.{state_change}
use Rattle.message_diff.proofs.changes.show_texts.Goals as goal

pub returns : goal.returns
returns c =
    on_ok_weaker c.end.result
    (λ ends. object_ended [] (change_item (state_change c.args.old.now c.args.new.now)) c.args.page.now
    c.hex-2.new.self c.end.new.self
    (c.in_ok-hex-2.ensures
    ∙ ap (with_value (codes "new") (string (encode_lower c.args.new.now) ∷ []))
    (c.in_ok-hex.ensures
    ∙ ap (with_value (codes "old") (string (encode_lower c.args.old.now) ∷ []))
    (c.in_ok-keyed_string.ensures
    ∙ ap (with_value (codes "path") (string (codes "state") ∷ [])) c.in_ok-begin.ensures))) ends)
    c.end.ensures
