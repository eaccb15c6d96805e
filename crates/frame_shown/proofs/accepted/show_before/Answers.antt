use Rattle.std.proofs.Common.{false, ◌∙◌, refl}
use Rattle.std.specs.Prelude.{codes}
use Rattle.std.proofs.lemmas.Result.{on_ok_weaker}
use Rattle.shown.specs.Drafts.{object_of, with_value}
use Rattle.frame_shown.specs.Accepted.{accepted}
use Rattle.frame_shown.specs.Messages.{attribute_members}
use Rattle.frame_shown.proofs.Named.{then_number, then_value}
use Rattle.frame_shown.proofs.accepted.show_before.Goals as goal

pub returns : goal.returns
returns c =
    let cx = c.args.cx.now in
    let family = then_number (codes "ifi-family") _ _ _ _ _ c.in_ok-keyed_number.ensures
    (c.into.ensures ∙ c.u8_at-family.ensures) refl in
    let index = then_value (codes "ifi-index") _ _ _ _ c.in_ok-show_index.ensures family in
    on_ok_weaker c.show_front.result (λ is. then_value (codes "before") _ _ _ _
    (is ∙ (λ k. with_value (codes "before") (object_of (attribute_members cx (c.u8_at-family.ensures k)
    (accepted false (c.u8_at-family.ensures k) (c.rest_of.ensures k)))) c.show_index.new.page)) index)
    c.show_front.ensures
