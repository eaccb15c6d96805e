use Rattle.std.proofs.Common.{[], ◌∷◌, ◌∙◌}
use Rattle.std.proofs.lemmas.Result.{on_ok_weaker}
use Rattle.shown.specs.Drafts.{with_value}
use Rattle.shown.proofs.Drafts.{object_ended}
use Rattle.frame_shown.specs.Values.{event_in, hexadecimal}
use Rattle.frame_shown.proofs.value.event.show_wireless.Goals as goal

pub returns : goal.returns
returns c =
    let part = event_in c.args.payload.now in
    on_ok_weaker c.end.result (λ ends. object_ended c.args.name.now ((part.0, hexadecimal part.1) ∷ [])
    c.args.page.now _ _
    (c.in_ok-hex.ensures
    ∙ (λ k. with_value (c.event_in-part.ensures k).0 (hexadecimal (c.event_in-part.ensures k).1)
    (c.in_ok-begin.ensures k))) ends) c.end.ensures
