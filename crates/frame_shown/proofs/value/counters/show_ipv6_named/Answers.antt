use Rattle.std.proofs.Common.{◌∙◌, ◌++◌, ap, map}
use Rattle.std.specs.Prelude.{codes}
use Rattle.std.specs.Int.{w64}
use Rattle.std.proofs.lemmas.Result.{on_ok_weaker}
use Rattle.nla_wire.specs.Fields.{number_at}
use Rattle.shown.specs.Drafts.{with_members}
use Rattle.shown.proofs.Drafts.{object_ended}
use Rattle.frame_shown.specs.Values.{placed_shown, unless_zero_named}
use Rattle.frame_shown.specs.declared.tables.family.TheConstants.{INET6_STATS}
use Rattle.frame_shown.proofs.Items.{both_added}
use Rattle.frame_shown.proofs.value.counters.show_ipv6_named.Goals as goal

pub returns : goal.returns
returns c =
    let placed = placed_shown c.args.is_since (map (λ row. (row.0.now, (row.1, row.2))) INET6_STATS)
    c.args.bytes.now in
    let behind = unless_zero_named (codes "reserved-39") (number_at w64 c.args.bytes.now 304) in
    on_ok_weaker c.end.result (λ ends. object_ended c.args.name.now (placed ++ behind) c.args.page.now _ _
    (both_added placed behind _ _ _ (c.in_ok-show_placed.ensures ∙ ap (with_members placed) c.in_ok-begin.ensures)
    (c.in_ok-show_unless_zero.ensures
    ∙ ap (λ n. with_members (unless_zero_named (codes "reserved-39") n) c.show_placed.new.page) c.u64_at.ensures))
    ends) c.end.ensures
