use Rattle.std.proofs.Common.{rules, ◌+◌, ◌-◌, ◌≡◌, ◌≤◌, length, ◌∙◌, ap, refl, arith, ◌++◌, take, drop, subst}
use Rattle.std.proofs.lemmas.List.{take_rest}
use Rattle.std.specs.Prelude.{min}
use lib.Seq.{paste}
use borrow.Rule.Slice.PartMut.{put_mid}
use Rattle.nla_wire.specs.Frames.{Begins, BadFront, number, missing}
use Rattle.link_state.specs.Table.{action_of}
use Rattle.link_state.specs.Thinned.{thinned, left_of}
use Rattle.link_state.proofs.Thinning.{thinned_at, thinned_end}
use Rattle.link_state.proofs.thin.thin_at.Goals as goal

pub returns-in_default-clause-so_far : goal.returns-in_default-clause-so_far
returns-in_default-clause-so_far g c =
    let list = c.args.list.now in
    let at = c.args.at in
    let to = c.args.to in
    let new = c.copy_within.new.self in
    let level = g.L.Thinned.level in
    let within : at ≤ length list = Prim.search rules in
    let bad = subst (λ b. BadFront b c.in_default.field-0.cause) (take_rest list at) c.in_default.ensures.0 in
    ap (λ i. take (to + (length list - at)) new ++ thinned level (drop i new)) c.copy_within.ensures.len
    ∙ thinned_end level list new at to (length list - at) c.in_default.field-0.cause within c.requires.front bad refl
    c.copy_within.ensures.after

pub returns-clause-so_far : goal.returns-clause-so_far
returns-clause-so_far g c =
    let list = c.args.list.now in
    let at = c.args.at in
    let to = c.args.to in
    let next = c.after-next.result in
    let left = c.thin_frame-left.result in
    let q = c.thin_frame-left.new.frame in
    let level = g.L.Thinned.level in
    let frame = c.in-Ok.frame in
    let b = take (next - at) (drop at list) in
    let made = put_mid at (next - at) list q in
    let size_is = ap length c.value-len.ensures.value in
    let within : at ≤ length list = Prim.search rules in
    let q_size : length q ≡ next - at = Prim.search rules in
    let fits : left ≤ length q = Prim.search rules in
    thinned_at level list made c.copy_within-2.new.self at next to left frame c.in-Ok.ensures.0 q
    (subst (λ xs. Begins xs frame c.in-Ok.ensures.0) (take_rest list at) c.in-Ok.ensures.1) within c.requires.front
    (c.after-next.ensures ∙ ap (λ i. min (at + (4 + i + missing i)) (length list)) size_is) refl q_size fits
    (c.thin_frame-left.ensures.left
    ∙ ap (λ n. left_of thinned (action_of level n) (take (length c.value-len.result.now) (drop 4 b)) b)
    c.kind-number.ensures
    ∙ ap (λ i. left_of thinned (action_of level (number frame)) (take i (drop 4 b)) b) size_is)
    (c.copy_within-2.ensures.after ∙ ap (paste made to (drop at made)) (omega arith))
