use Rattle.std.proofs.Common.{◌∙◌, Some, ap, sym}
use Rattle.std.proofs.lemmas.Result.{on_ok_weaker}
use Rattle.std.specs.Prelude.{option_map}
use Rattle.frame_diff.specs.Groups.{group_held}
use Rattle.frame_diff.specs.Items.{leaf_items, moved_items}
use Rattle.frame_diff.specs.declared.side.Side.TheVariants.{Old}
use Rattle.frame_diff.proofs.Grouped.{moved_alone, moved_tight, moved_unless, moved_whole, nothing_moved}
use Rattle.frame_diff.proofs.Inside.{same_written}
use Rattle.frame_diff.proofs.groups.tell_moved.Goals as goal

pub returns-in_default : goal.returns-in_default
returns-in_default g c =
    nothing_moved (moved_items c.args.pass.side c.args.path.now
    (group_held g.W.Depth.nest g.W.Walk.inner c.args.pass.is_state c.args.own).0
    (group_held g.W.Depth.nest g.W.Walk.inner c.args.pass.is_state c.args.own).1
    (option_map (group_held g.W.Depth.nest g.W.Walk.inner c.args.pass.is_state) c.args.beside)) c.args.page.now
    (ap (λ b. moved_items c.args.pass.side c.args.path.now
    (group_held g.W.Depth.nest g.W.Walk.inner c.args.pass.is_state c.args.own).0
    (group_held g.W.Depth.nest g.W.Walk.inner c.args.pass.is_state c.args.own).1
    (option_map (group_held g.W.Depth.nest g.W.Walk.inner c.args.pass.is_state) b)) c.in_default.is
    ∙ moved_alone g.W.Depth.nest g.W.Walk.inner c.args.pass.is_state c.args.pass.side c.args.path.now c.args.own)

pub returns-then-not-is_moved : goal.returns-then-not-is_moved
returns-then-not-is_moved g c =
    nothing_moved _ c.args.page.now
    (moved_unless g.W.Depth.nest g.W.Walk.inner c.args.pass.is_state c.args.pass.side c.args.path.now c.args.own
    (sym c.is_moved.ensures ∙ c.if-not-is_moved.true) c.args.beside)

pub returns-then-not-loose : goal.returns-then-not-loose
returns-then-not-loose g c =
    let nest = g.W.Depth.nest in
    let inner = g.W.Walk.inner in
    let is_state = c.args.pass.is_state in
    nothing_moved _ c.args.page.now
    (moved_tight nest inner is_state c.args.pass.side c.args.path.now c.args.own c.requires.plain
    (c.in_ok-loose.ensures nest inner is_state c.requires.plain ∙ c.if-not-loose.true) c.args.beside)

pub returns : goal.returns
returns g c =
    let nest = g.W.Depth.nest in
    let inner = g.W.Walk.inner in
    let is_state = c.args.pass.is_state in
    let held = group_held nest inner is_state in
    let side = c.args.pass.side in
    let text = c.args.path.now in
    let own = held c.args.own in
    on_ok_weaker c.tell_list.result (same_written
    (leaf_items Old text own.0 (Some (held c.in-Some.other).0))
    (moved_items side text own.0 own.1 (option_map held c.args.beside)) c.args.page.now c.tell_list.new.page
    (sym (ap (λ b. moved_items side text own.0 own.1 (option_map held b)) c.in-Some.is
    ∙ moved_whole nest inner is_state side text c.args.own c.requires.plain
    (sym c.is_moved.ensures ∙ c.if-not-is_moved.false)
    (c.in_ok-loose.ensures nest inner is_state c.requires.plain ∙ c.if-not-loose.false) c.in-Some.other)))
    c.tell_list.ensures
