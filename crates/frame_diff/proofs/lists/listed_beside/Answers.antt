use Rattle.std.proofs.Common.{◌∙◌, ap, codes, sym}
use Rattle.nla_wire.specs.Items.{items}
use Rattle.link_info.specs.Tables.{frames_in}
use Rattle.frame_diff.specs.Forests.{find, rest_step}
use Rattle.frame_diff.specs.Inside.{above, inside_list}
use Rattle.frame_diff.specs.Walked.{reading_at}
use Rattle.frame_diff.proofs.Grouped.{no_rest, none_kept, rest_there}
use Rattle.frame_diff.proofs.lists.listed_beside.Goals as goal

pub returns-then-is_listed : goal.returns-then-is_listed
returns-then-is_listed c nest inner is_state =
    let other = c.in-Some.other in
    rest_there (reading_at nest inner is_state other.around.now) other.list (frames_in (items other.bytes.now))
    (sym c.is_listed.ensures ∙ c.if-is_listed.true)
    ∙ ap (λ b. find (rest_step (codes "other")) (inside_list (above nest inner) is_state b)) (sym c.in-Some.is)

pub returns-else-is_listed : goal.returns-else-is_listed
returns-else-is_listed c nest inner is_state =
    let other = c.in-Some.other in
    none_kept is_state c.none_of.result c.none_of.ensures.bytes
    ∙ no_rest (reading_at nest inner is_state other.around.now) other.list (frames_in (items other.bytes.now))
    (sym c.is_listed.ensures ∙ c.if-is_listed.false)
    ∙ ap (λ b. find (rest_step (codes "other")) (inside_list (above nest inner) is_state b)) (sym c.in-Some.is)
