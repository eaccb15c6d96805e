use Rattle.std.proofs.Common.{◌≡◌, ◌∷◌, ◌++◌, sym, ◌∙◌}
use Rattle.std.specs.Prelude.{codes}
use Rattle.std.proofs.lemmas.List.Sums.{fold-append}
use Rattle.std.proofs.lemmas.Result.{on_ok_weaker}
use Rattle.link_vlans.specs.Runs.{id_at}
use Rattle.shown.specs.Drafts.{Draft, Members, with_begun, with_members, with_value}
use Rattle.shown.specs.Values.{numbered}
use Rattle.shown.specs.declared.page.Nest.TheVariants.{Object}
use Rattle.shown.proofs.Drafts.{object_ended}
use Rattle.frame_diff.specs.Vlans.{end_members, flags_shown, id_member}
use Rattle.frame_diff.proofs.leaf.show.show_run.Goals as goal

pub returns : goal.returns
returns c =
    let run = c.args.run in
    let begun : Draft = with_begun c.args.name.now Object c.args.page.now in
    let front : Members = id_member (codes "id") (id_at run.first run.said.ahead) in
    let behind : Members =
    (codes "flags", flags_shown run.said.flags) ∷ numbered (codes "vid") run.first ∷ end_members run in
    let all : Members = front ++ behind in
    let filled : c.show_end.new.page ≡ with_members all begun =
    cc (
      c.in_ok-begin.ensures,
      c.in_ok-show_id.ensures,
      c.id.ensures,
      c.in_ok-show_vlan_flags.ensures,
      c.in_ok-keyed_number.ensures,
      c.in_ok-show_end.ensures,
    )
    ∙ sym (fold-append (λ (d : Draft) m. with_value m.0 m.1 d) begun front behind) in
    on_ok_weaker c.end.result (λ ends. object_ended c.args.name.now all c.args.page.now _ _ filled ends) c.end.ensures
