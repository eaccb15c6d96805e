use Rattle.std.proofs.Common.{◌≡◌, [], ◌∷◌, ap, ◌∙◌}
use Rattle.std.proofs.lemmas.Result.{on_ok_weaker}
use Rattle.std.specs.Prelude.{codes}
use Rattle.json.specs.Token.{string}
use Rattle.shown.specs.Drafts.{Draft, with_begun, with_members, with_value}
use Rattle.shown.specs.declared.page.Nest.TheVariants.{Object}
use Rattle.shown.proofs.Drafts.{object_ended}
use Rattle.frame_diff.specs.Items.{turned_item}
use Rattle.frame_diff.specs.Values.{value_shown}
use Rattle.frame_diff.proofs.leaf.put_turned.Goals as goal

pub returns : goal.returns
returns g c =
    let v = value_shown (g.D.Depth.nest c.args.cx.now) c.args.cx.now c.args.was in
    let w = value_shown (g.D.Depth.nest c.args.theirs.now) c.args.theirs.now c.args.is in
    let begun : Draft = with_begun [] Object c.args.page.now in
    let pathed : c.keyed_string.new.self ≡ with_value (codes "path") (string c.args.path.now ∷ []) begun =
    c.in_ok-keyed_string.ensures
    ∙ ap (λ (d : Draft). with_value (codes "path") (string c.args.path.now ∷ []) d) c.in_ok-begin.ensures in
    let was : c.show_value.new.page ≡ with_value (codes "old") v
    (with_value (codes "path") (string c.args.path.now ∷ []) begun) =
    c.in_ok-show_value.ensures ∙ ap (λ (d : Draft). with_value (codes "old") v d) pathed in
    let filled : c.show_value-2.new.page ≡ with_members (turned_item c.args.path.now v w) begun =
    c.in_ok-show_value-2.ensures ∙ ap (λ (d : Draft). with_value (codes "new") w d) was in
    on_ok_weaker c.end.result (λ ends. object_ended [] (turned_item c.args.path.now v w) c.args.page.now _ _ filled
    ends) c.end.ensures
