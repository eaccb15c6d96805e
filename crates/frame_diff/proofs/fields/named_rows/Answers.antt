use Rattle.std.proofs.Common.{◌≡◌, map, subst, sym, ℕ, List}
use Rattle.std.specs.Prelude.{IfOk}
use Rattle.frame_shown.specs.Values.{setting_names, settings_shown}
use Rattle.frame_shown.specs.declared.form.Around.{Around}
use Rattle.frame_shown.specs.declared.form.Settings.{Settings}
use Rattle.frame_diff.specs.Counters.{fields_left}
use Rattle.frame_diff.specs.Rows.{clearing, row_shown}
use Rattle.frame_diff.proofs.fields.named_rows.Goals as goal

pub returns-in-Inet : goal.returns-in-Inet
returns-in-Inet c =
    subst (λ (set : Settings). IfOk c.setting_rows.result (λ rows. (cx : Around) → map (row_shown cx) rows.items
    ≡ fields_left (clearing c.args.part) 0 (map {A = List ℕ} {B = ℕ} (λ name. 4) (setting_names set))
    (settings_shown (setting_names set) c.args.bytes.now 0))) (sym c.in-Inet.is) c.setting_rows.ensures

pub returns-in-Inet6 : goal.returns-in-Inet6
returns-in-Inet6 c =
    subst (λ (set : Settings). IfOk c.setting_rows-in-Inet6.result (λ rows. (cx : Around)
    → map (row_shown cx) rows.items
    ≡ fields_left (clearing c.args.part) 0 (map {A = List ℕ} {B = ℕ} (λ name. 4) (setting_names set))
    (settings_shown (setting_names set) c.args.bytes.now 0))) (sym c.in-Inet6.is) c.setting_rows-in-Inet6.ensures
