use Rattle.std.proofs.Common.{◌≡◌, ap, sym, ◌∙◌}
use Rattle.std.proofs.lemmas.Result.{on_ok_weaker}
use Rattle.shown.specs.Drafts.{with_members}
use Rattle.frame_shown.specs.Values.{setting_names, settings_shown}
use Rattle.frame_shown.specs.declared.form.Settings.{Settings}
use Rattle.frame_shown.specs.declared.form.Settings.TheVariants as Sets
use Rattle.frame_shown.proofs.value.settings.show_named_settings.Goals as goal

pub returns-in-Inet : goal.returns-in-Inet
returns-in-Inet c =
    let set : c.args.set ≡ Sets.Inet = c.in-Inet.is in
    on_ok_weaker c.show_signed.result (λ is. is ∙ ap (λ (s : Settings). with_members
    (settings_shown (setting_names s) c.args.bytes.now 0) c.args.page.now) (sym set)) c.show_signed.ensures

pub returns-in-Inet6 : goal.returns-in-Inet6
returns-in-Inet6 c =
    let set : c.args.set ≡ Sets.Inet6 = c.in-Inet6.is in
    on_ok_weaker c.show_signed-in-Inet6.result (λ is. is ∙ ap (λ (s : Settings). with_members
    (settings_shown (setting_names s) c.args.bytes.now 0) c.args.page.now) (sym set)) c.show_signed-in-Inet6.ensures
