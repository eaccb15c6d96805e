use Rattle.std.proofs.Common.{◌≡◌, ◌∷◌, ◌||◌, ◌∙◌, ap}
use Rattle.std.specs.Prelude.{Ok}
use Rattle.std.specs.List.{list_any}
use Rattle.frame_shown.specs.Items.{are_any, is_value, kept_ones}
use Rattle.frame_shown.specs.Frames.{items_in}
use Rattle.frame_shown.proofs.Steps.{any_kept_next, any_value_next, shown_next}
use Rattle.frame_shown.proofs.list.frame.show_named.Goals as goal

pub loop-item-preserved : goal.loop-item-preserved
loop-item-preserved g c =
    let nest = g.D.Depth.nest c.args.cx.now in
    let rest = items_in nest c.args.cx.now c.args.list.now c.next.new.self in
    let here : c.loop-item.item-iterator ≡ Ok c.in-Ok.frame ∷ c.next.new.self = rw c.in-Ok.is at
    c.in-Some.ensures.steps in
    record {
      shown = shown_next nest c.args.cx.now c.args.list.now c.in-Ok.frame c.loop-item.item-iterator c.next.new.self
          here c.loop-item.page _ _ c.loop-item.invariant.shown c.in_ok-said.ensures.shown;
      kept = ap (λ b. are_any (kept_ones rest) || b) c.and-left.ensures.kept
          ∙ any_kept_next nest c.args.cx.now c.args.list.now c.in-Ok.frame c.loop-item.item-iterator c.next.new.self
          here _ _ _ c.in_ok-said.ensures.kept c.loop-item.invariant.kept;
      value = ap (λ b. list_any is_value rest || b) c.and-left.ensures.value
          ∙ any_value_next nest c.args.cx.now c.args.list.now c.in-Ok.frame c.loop-item.item-iterator
          c.next.new.self here _ _ _ c.in_ok-said.ensures.value c.loop-item.invariant.value;
    }
