use Rattle.std.proofs.Common.{rules, ◌+◌, ◌-◌, length, ◌∙◌, sym, ap, refl, arith, ◌++◌, take, drop, subst}
use Rattle.std.proofs.lemmas.List.{take_rest, take-append-drop}
use Rattle.nla_wire.specs.Frames.{Begins, BadFront}
use Rattle.link_state.specs.Table.{action_of}
use Rattle.link_state.specs.Cleared.{filled, payload_by}
use Rattle.link_state.proofs.Walking.{walked, bad_kept, ended}
use Rattle.link_state.proofs.walk.fill_at.Goals as goal
use borrow.Rule.Slice.PartMut.{put_mid, same_len_mid}

pub returns-clause-so_far : goal.returns-clause-so_far
returns-clause-so_far g c =
    let list = c.args.list.now in
    let at = c.args.at in
    let by = g.L.Listed.byte in
    let level = g.L.Listed.level c.args.of.now in
    let m = length c.value-len.result.now in
    let size = at + 4 + m - (at + 4) in
    let payload = c.fill_payload.new.payload in
    let frame = c.in-Ok.frame in
    let rest = c.in-Ok.ensures.0 in
    walked by level list (put_mid (at + 4) size list payload) at c.after.result frame rest payload m
    (subst (λ b. Begins b frame rest) (take_rest list at) c.in-Ok.ensures.1) (Prim.search rules)
    (same_len_mid (at + 4) size list payload c.fill_payload.auto.payload)
    (ap length c.value-len.ensures.value) c.after.ensures refl
    (c.fill_payload.ensures ∙ ap (λ n. payload_by by (filled by) (action_of level n) (take size (drop (at + 4) list)))
    c.kind-number.ensures)

pub returns-in_default-clause-so_far : goal.returns-in_default-clause-so_far
returns-in_default-clause-so_far g c =
    let list = c.args.list.now in
    let at = c.args.at in
    let by = g.L.Listed.byte in
    let level = g.L.Listed.level c.args.of.now in
    sym (ended by level list (length list) (omega arith)) ∙ sym (take-append-drop at list)
    ∙ ap (λ xs. take at list ++ xs) (sym (bad_kept by level (drop at list) c.in_default.field-0.cause
    (subst (λ b. BadFront b c.in_default.field-0.cause) (take_rest list at) c.in_default.ensures.0)))
