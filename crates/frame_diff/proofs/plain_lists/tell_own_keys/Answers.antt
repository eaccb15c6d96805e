use Rattle.std.proofs.Common.{None, Some, ap, sym}
use Rattle.std.proofs.lemmas.Result.{on_ok_weaker}
use Rattle.std.specs.Prelude.{map, option_map}
use Rattle.frame_diff.specs.Each.{each_shown, whole_shown}
use Rattle.frame_diff.specs.Groups.{group_at, group_held}
use Rattle.frame_diff.specs.Items.{alone_texts}
use Rattle.frame_diff.specs.Members.{value_in}
use Rattle.frame_diff.specs.Walked.{held_items}
use Rattle.frame_diff.proofs.Grouped.{alone_written, beside_written, keys_alone, none_leaf, same_beside, subst_some}
use Rattle.frame_diff.proofs.Inside.{same_written}
use Rattle.frame_diff.proofs.plain_lists.tell_own_keys.Goals as goal

pub returns-in-Some : goal.returns-in-Some
returns-in-Some g c =
    let nest = g.W.Depth.nest in
    let inner = g.W.Walk.inner in
    let is_state = c.args.pass.is_state in
    let held = group_held nest inner is_state in
    let other = c.in-Some.other in
    on_ok_weaker c.tell_keys.result (beside_written nest inner is_state c.args.pass.side c.args.path.now
    (held c.args.own) (Some (held other)) (option_map held c.args.beside) c.args.page.now c.tell_keys.new.page
    (ap (option_map held) (sym (same_beside c.plain_beside.result other c.args.beside c.in-Some.is
    c.plain_beside.ensures.same)))) c.tell_keys.ensures

pub returns-in_ok-each-in-None : goal.returns-in_ok-each-in-None
returns-in_ok-each-in-None g c =
    let nest = g.W.Depth.nest in
    let inner = g.W.Walk.inner in
    let is_state = c.args.pass.is_state in
    let side = c.args.pass.side in
    let text = c.args.path.now in
    let own = c.args.own in
    let held = group_held nest inner is_state in
    let beside = option_map held c.args.beside in
    let vs = map value_in (group_at nest inner is_state own) in
    let each = c.in_ok-each-in-None.each in
    on_ok_weaker c.tell_alone.result (λ told. same_written (alone_texts side text (held own).0 vs None)
    (held_items side text (held own) beside) c.args.page.now c.tell_alone.new.page
    (keys_alone nest inner is_state side text own c.requires.plain c.requires.key beside
    (none_leaf nest inner is_state c.plain_beside.result beside c.in-None.is c.plain_beside.ensures.value))
    (alone_written side text (whole_shown nest each) (held own).0 (each_shown nest each) vs c.args.page.now
    c.tell_alone.new.page (c.in_ok-each-in-None.ensures.whole nest inner c.requires.plain)
    (c.in_ok-each-in-None.ensures.values nest inner) told)) c.tell_alone.ensures

pub tell_keys-requires-clause-valued : goal.tell_keys-requires-clause-valued
tell_keys-requires-clause-valued g c =
    (subst_some _ c.plain_beside.result c.in-Some.other c.in-Some.is c.plain_beside.ensures.plain).0

pub tell_keys-requires-clause-others : goal.tell_keys-requires-clause-others
tell_keys-requires-clause-others g c =
    (subst_some _ c.plain_beside.result c.in-Some.other c.in-Some.is c.plain_beside.ensures.plain).1
