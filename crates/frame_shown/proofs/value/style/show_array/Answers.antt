use Rattle.std.proofs.Common.{ap, ◌∙◌, length}
use Rattle.std.proofs.lemmas.Result.{on_ok_weaker}
use Rattle.shown.specs.Drafts.{with_members}
use Rattle.shown.proofs.Drafts.{list_ended}
use Rattle.link_info.specs.Styles.{plain_size}
use Rattle.frame_shown.specs.Values.{count_of, elements_shown}
use Rattle.frame_shown.proofs.value.style.show_array.Goals as goal

pub returns : goal.returns
returns c =
    let count = count_of (plain_size c.args.plain) (length c.args.bytes.now) in
    let members = elements_shown c.args.plain count c.args.bytes.now in
    on_ok_weaker c.end.result (λ ends. list_ended c.args.name.now members c.args.page.now _ _
    (c.in_ok-show_elements.ensures ∙ ap (with_members members) c.in_ok-begin.ensures) ends) c.end.ensures
