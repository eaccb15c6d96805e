use Rattle.std.proofs.Common.{ap, ◌∙◌, ◌++◌}
use Rattle.std.proofs.lemmas.Result.{on_ok_weaker}
use Rattle.shown.specs.Drafts.{with_members}
use Rattle.shown.proofs.Drafts.{object_ended}
use Rattle.frame_shown.specs.Values.{behind_settings, setting_names, settings_shown}
use Rattle.frame_shown.proofs.Items.{both_added}
use Rattle.frame_shown.proofs.value.settings.show_settings.Goals as goal

pub returns : goal.returns
returns c =
    let named = settings_shown (setting_names c.args.set) c.args.bytes.now 0 in
    let behind = behind_settings c.args.set c.args.bytes.now in
    on_ok_weaker c.end.result (λ ends. object_ended c.args.name.now (named ++ behind) c.args.page.now _ _
    (both_added named behind _ _ _ (c.in_ok-show_named_settings.ensures ∙ ap (with_members named)
    c.in_ok-keyed_begin.ensures)
    c.in_ok-show_behind.ensures) ends) c.end.ensures
