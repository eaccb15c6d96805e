use Rattle.std.proofs.Common.{◌≡◌, ◌∙◌, ap, rules, sym}
use Rattle.std.proofs.lemmas.Result.{on_ok_weaker}
use Rattle.std.specs.Prelude.{None, Option, Some, option_map}
use Rattle.frame_diff.specs.Each.{each_shown, whole_shown}
use Rattle.frame_diff.specs.Forests.{Forest, Held}
use Rattle.frame_diff.specs.Members.{slots_shown}
use Rattle.frame_diff.specs.Rows.{inside_by}
use Rattle.frame_diff.specs.Walked.{held_at}
use Rattle.frame_diff.specs.declared.held.Slots.{Slots}
use Rattle.frame_diff.proofs.Slots.{slots_written}
use Rattle.frame_diff.proofs.value.payloads.tell_slots.Goals as goal

pub returns-in_default : goal.returns-in_default
returns-in_default g c =
    let nest = g.W.Depth.nest in
    let inner = g.W.Walk.inner in
    let is_state = c.args.pass.is_state in
    let held = held_at nest inner is_state in
    let each = c.in_ok-each.each in
    let none : c.args.beside ≡ None = search rules in
    on_ok_weaker c.tell_alone.result (slots_written c.args.pass.side c.args.path.now (held c.args.own)
    (slots_shown c.args.plain c.args.bytes.now) (each_shown nest each) (whole_shown nest each)
    (option_map held c.args.beside) None c.args.page.now c.tell_alone.new.page c.requires
    (c.in_ok-each.ensures.whole nest inner is_state) (c.in_ok-each.ensures.values nest)
    (ap (option_map held) none)) c.tell_alone.ensures

pub returns-in-Slots : goal.returns-in-Slots
returns-in-Slots g c =
    let nest = g.W.Depth.nest in
    let inner = g.W.Walk.inner in
    let is_state = c.args.pass.is_state in
    let held = held_at nest inner is_state in
    let each = c.in_ok-each.each in
    let theirs = c.in_ok-theirs-in-Slots.theirs in
    let other = c.in-Some.other in
    let cx = other.around.now in
    let inside : (held other).1 ≡ Forest.texts (each_shown nest theirs) =
    c.in_ok-held.ensures (inner is_state cx) ∙ ap (inside_by (inner is_state cx) cx) c.in-Slots.is
    ∙ ap (λ (slots : Slots). Forest.texts (slots_shown slots.plain slots.bytes.now)) (sym c.deref-slots.ensures)
    ∙ ap Forest.texts (sym (c.in_ok-theirs-in-Slots.ensures.values nest)) in
    let there : Option Held = Some (whole_shown nest theirs, Forest.texts (each_shown nest theirs)) in
    let shown : Some (held other) ≡ there =
    λ k. Some (sym (c.in_ok-theirs-in-Slots.ensures.whole nest inner is_state) k, inside k) in
    on_ok_weaker c.tell_both.result (slots_written c.args.pass.side c.args.path.now (held c.args.own)
    (slots_shown c.args.plain c.args.bytes.now) (each_shown nest each) (whole_shown nest each)
    (option_map held c.args.beside) there c.args.page.now c.tell_both.new.page c.requires
    (c.in_ok-each.ensures.whole nest inner is_state) (c.in_ok-each.ensures.values nest)
    (ap (option_map held) c.in-Some.is ∙ shown)) c.tell_both.ensures

pub returns : goal.returns
returns g c =
    let nest = g.W.Depth.nest in
    let inner = g.W.Walk.inner in
    let is_state = c.args.pass.is_state in
    let held = held_at nest inner is_state in
    let each = c.in_ok-each.each in
    on_ok_weaker c.tell_beside.result (slots_written c.args.pass.side c.args.path.now (held c.args.own)
    (slots_shown c.args.plain c.args.bytes.now) (each_shown nest each) (whole_shown nest each)
    (option_map held c.args.beside) (Some (held c.in-Some.other)) c.args.page.now c.tell_beside.new.page c.requires
    (c.in_ok-each.ensures.whole nest inner is_state) (c.in_ok-each.ensures.values nest)
    (ap (option_map held) c.in-Some.is)) c.tell_beside.ensures
