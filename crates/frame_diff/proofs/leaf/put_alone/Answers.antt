use Rattle.std.proofs.Common.{◌≡◌, [], ◌∷◌, ap, ◌∙◌}
use Rattle.std.proofs.lemmas.Result.{on_ok_weaker}
use Rattle.std.specs.Prelude.{codes}
use Rattle.json.specs.Token.{string}
use Rattle.shown.specs.Drafts.{Draft, with_begun, with_members, with_value}
use Rattle.shown.specs.declared.page.Nest.TheVariants.{Object}
use Rattle.shown.proofs.Drafts.{object_ended}
use Rattle.frame_diff.specs.Items.{alone_item}
use Rattle.frame_diff.specs.Sides.{side_name}
use Rattle.frame_diff.specs.Values.{value_shown}
use Rattle.frame_diff.proofs.leaf.put_alone.Goals as goal

pub returns : goal.returns
returns g c =
    let v = value_shown (g.D.Depth.nest c.args.cx.now) c.args.cx.now c.args.value in
    let begun : Draft = with_begun [] Object c.args.page.now in
    let pathed : c.keyed_string.new.self ≡ with_value (codes "path") (string c.args.path.now ∷ []) begun =
    c.in_ok-keyed_string.ensures
    ∙ ap (λ (d : Draft). with_value (codes "path") (string c.args.path.now ∷ []) d) c.in_ok-begin.ensures in
    let filled : c.show_value.new.page ≡ with_members (alone_item c.args.path.now c.args.side v) begun =
    c.in_ok-show_value.ensures
    ∙ ap (λ name. with_value name v c.keyed_string.new.self) c.name.ensures.name
    ∙ ap (λ (d : Draft). with_value (side_name c.args.side) v d) pathed in
    on_ok_weaker c.end.result (λ ends. object_ended [] (alone_item c.args.path.now c.args.side v) c.args.page.now _ _
    filled ends) c.end.ensures
