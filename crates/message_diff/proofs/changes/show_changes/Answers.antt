use Rattle.std.specs.Prelude.{codes}
use Rattle.std.proofs.lemmas.Result.{on_ok_weaker}
use Rattle.message_diff.specs.Changed.{written_items}
use Rattle.message_diff.proofs.Changed.{changes_listed, list_begun}
use Rattle.message_diff.proofs.changes.show_changes.Goals as goal

pub tell_all-requires : goal.tell_all-requires
tell_all-requires c = list_begun (codes "changes") c.args.page.now c.keyed_begin.new.self c.in_ok-keyed_begin.ensures

pub returns : goal.returns
returns c =
    on_ok_weaker c.end.result
    (changes_listed (codes "changes") (written_items c.args.by c.args.old.now c.args.new.now) c.args.page.now
    c.keyed_begin.new.self c.tell_all.new.page c.end.new.self c.in_ok-keyed_begin.ensures c.in_ok-tell_all.ensures)
    c.end.ensures
