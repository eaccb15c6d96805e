use Rattle.std.proofs.Common.{◌≡◌, [], ◌∷◌, ap, ◌∙◌}
use Rattle.std.specs.Prelude.{codes, decimal}
use Rattle.json.specs.Token.{number, string}
use Rattle.shown.specs.Drafts.{Draft, with_members, with_value}
use Rattle.shown.specs.Values.{numbered}
use Rattle.message_shown.specs.Causes.{cause_members}
use Rattle.message_shown.proofs.Added.{means_nothing}
use Rattle.message_shown.proofs.Faults.{behind_found}
use Rattle.message_shown.proofs.fault.show_fault.Goals as goal

pub returns-in_ok-show_rest : goal.returns-in_ok-show_rest
returns-in_ok-show_rest c =
    let cause = cause_members c.args.error.now.cause in
    let all = with_members ((codes "at", string c.args.error.now.place.now ∷ []) ∷ cause) c.args.page.now in
    let begun : c.show_cause.new.page ≡ all =
    c.in_ok-show_cause.ensures ∙ ap (with_members cause) c.in_ok-keyed_string.ensures in
    let rest = c.in_ok-show_rest.ensures in
    let at = c.in-Some.at in (
      c.args.error.now.place.now,
      numbered (codes "offset") at ∷ rest.0,
      rest.1 ∙ ap (with_members rest.0) (c.in_ok-keyed_number.ensures
          ∙ ap (λ (d : Draft). with_value (codes "offset") (number (decimal at) ∷ []) d) begun),
      λ fault. behind_found c.args.cx.now c.args.bytes.now c.args.error.now.cause at rest.0 fault
          c.in-Some.ensures.found rest.2,
    )

pub returns-in_default : goal.returns-in_default
returns-in_default c =
    let cause = cause_members c.args.error.now.cause in
    let begun : c.show_cause.new.page
    ≡ with_members ((codes "at", string c.args.error.now.place.now ∷ []) ∷ cause) c.args.page.now =
    c.in_ok-show_cause.ensures ∙ ap (with_members cause) c.in_ok-keyed_string.ensures in
    let meant = c.in_default.ensures.found in (
      c.args.error.now.place.now,
      [],
      begun,
      λ fault. absurd (means_nothing c.args.bytes.now c.args.error.now.cause meant.0 fault meant.1),
    )
