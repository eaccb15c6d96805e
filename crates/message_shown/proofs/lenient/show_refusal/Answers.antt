use Rattle.std.proofs.Common.{[], ◌∷◌, refl, ap, ◌∙◌}
use Rattle.std.specs.Prelude.{codes}
use Rattle.std.proofs.lemmas.Result.{on_ok_weaker}
use Rattle.json.specs.Token.{string}
use Rattle.nla_wire.specs.declared.error.Cause.{Cause}
use Rattle.shown.specs.Drafts.{Draft, with_begun, with_members, with_value}
use Rattle.shown.specs.declared.page.Nest.TheVariants.{Object}
use Rattle.shown.proofs.Drafts.{object_ended}
use Rattle.message_shown.specs.Causes.{cause_members, cause_text}
use Rattle.message_shown.specs.Leniently.{frame_told, refusal_members}
use Rattle.message_shown.proofs.Leniently.{one_page}
use Rattle.message_shown.proofs.lenient.show_refusal.Goals as goal

pub returns : goal.returns
returns c =
    let t = c.args.refusal.now in
    let place = c.error-error.result.place.now in
    let path = c.path-path.result in
    let at = c.in_ok-keyed_string.ensures
    ∙ ap (λ (d : Draft). with_value (codes "at") (string place ∷ []) d) c.in_ok-begin.ensures in
    let why = c.in_ok-keyed_string-2.ensures
    ∙ ap (λ text. with_value (codes "fault") (string text ∷ []) c.keyed_string.new.self)
    (c.cause_name.ensures ∙ ap cause_text c.error-error.ensures) in
    let counts = c.in_ok-show_cause.ensures
    ∙ ap (λ (k : Cause). with_members (cause_members k) c.keyed_string-2.new.self) c.error-error.ensures in
    let bytes = c.in_ok-show_attribute.ensures
    ∙ ap (λ ns. with_members (frame_told ns t.frame) c.keyed_number.new.self) c.numbers.ensures.all in
    let page = one_page place path t (with_begun [] Object c.args.page.now) c.keyed_string.new.self
    c.keyed_string-2.new.self c.show_cause.new.page c.keyed_number.new.self c.show_attribute.new.page at why counts
    c.in_ok-keyed_number.ensures bytes in
    on_ok_weaker c.end.result (λ ends. (
      refusal_members place path t,
      (place, path, c.path-path.ensures, refl),
      object_ended [] (refusal_members place path t) c.args.page.now _ _ page ends,
    )) c.end.ensures
