use Rattle.std.proofs.Common.{◌≡◌, ◌++◌, ◌∙◌, ap, rules, sym}
use Rattle.std.proofs.lemmas.Result.{on_ok_weaker}
use Rattle.shown.specs.Drafts.{with_members}
use Rattle.frame_shown.specs.Items.{objects}
use Rattle.frame_diff.specs.Items.{items_told}
use Rattle.frame_diff.specs.Keys.{key_name}
use Rattle.frame_diff.specs.Labels.{label_step, label_text}
use Rattle.frame_diff.specs.Members.{as_object, fields}
use Rattle.frame_diff.specs.Values.{kept_held, kept_members}
use Rattle.frame_diff.specs.Walked.{step_items}
use Rattle.frame_diff.specs.declared.keys.Key.TheVariants as Keys
use Rattle.frame_diff.proofs.Entries.{both_kept, kept_silent}
use Rattle.frame_diff.proofs.kept.tell_kept.Goals as goal

pub returns-then-is_same_kept : goal.returns-then-is_same_kept
returns-then-is_same_kept c =
    kept_silent c.args.side c.args.path.now c.args.label c.args.own c.in-Some.other c.args.page.now
    (c.is_same_kept.ensures c.if-is_same_kept.true)
    ∙ ap (λ b. with_members (objects (step_items c.args.side c.args.path.now (label_step Keys.Number c.args.label)
    (as_object (kept_members c.args.own)) (kept_held b))) c.args.page.now) (sym c.in-Some.is)

pub returns : goal.returns
returns c =
    let own = c.args.own in
    let other = c.in-Some.other in
    let path : c.as_str-2.result.now ≡ c.args.path.now ++ label_text (key_name Keys.Number) c.args.label =
    search rules in
    on_ok_weaker c.tell_both.result (λ told.
    told
    ∙ ap (λ p. with_members (objects (items_told c.args.side p (fields (kept_members own))
    (fields (kept_members other)))) c.args.page.now) path
    ∙ ap (λ os. with_members (objects os) c.args.page.now)
    (sym (both_kept c.args.side c.args.path.now c.args.label own other))
    ∙ ap (λ b. with_members (objects (step_items c.args.side c.args.path.now (label_step Keys.Number c.args.label)
    (as_object (kept_members own)) (kept_held b))) c.args.page.now) (sym c.in-Some.is)) c.tell_both.ensures
