use Rattle.std.proofs.Common.{ap, ◌∙◌, map}
use Rattle.std.proofs.lemmas.Result.{on_ok_weaker}
use Rattle.shown.specs.Drafts.{with_members}
use Rattle.shown.proofs.Drafts.{object_ended}
use Rattle.link_info.specs.Styles.{width}
use Rattle.frame_shown.specs.Values.{counters_shown}
use Rattle.frame_shown.proofs.value.counters.show_numbers_under.Goals as goal

pub returns : goal.returns
returns c =
    let members = counters_shown (map (λ name. name.now) c.args.names.now) (width c.args.size) c.args.bytes.now 0 in
    on_ok_weaker c.end.result (λ ends. object_ended c.args.name.now members c.args.page.now _ _
    (c.in_ok-show_numbers.ensures ∙ ap (with_members members) c.in_ok-keyed_begin.ensures) ends) c.end.ensures
