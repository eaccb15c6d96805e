use Rattle.std.proofs.Common.{◌≡◌, ◌∙◌, ap, false, sym, true}
use Rattle.std.specs.Prelude.{not}
use Rattle.frame_diff.specs.Forests.{find}
use Rattle.frame_diff.specs.Groups.{is_group}
use Rattle.frame_diff.specs.Inside.{above, inside_list}
use Rattle.frame_diff.proofs.Classes.{group_found, nothing_found, object_found}
use Rattle.frame_diff.proofs.lists.object_beside.Goals as goal

pub returns-after-is_alike-clause-found : goal.returns-after-is_alike-clause-found
returns-after-is_alike-clause-found c nest inner is_state s of =
    let object : is_group c.in-Some.other.list ≡ false = c.is_object.ensures ∙ ap not c.if-is_object.true in
    object_found nest inner is_state c.in-Some.other s object
    ∙ ap (λ b. find s (inside_list (above nest inner) is_state b)) (sym c.in-Some.is)

pub returns-else-is_object-clause-found : goal.returns-else-is_object-clause-found
returns-else-is_object-clause-found c nest inner is_state s of =
    let group : is_group c.in-Some.other.list ≡ true = c.is_object.ensures ∙ ap not c.if-is_object.false in
    nothing_found nest inner is_state c.none_of.result s c.none_of.ensures.bytes
    ∙ sym (group_found nest inner is_state c.in-Some.other s group of)
    ∙ ap (λ b. find s (inside_list (above nest inner) is_state b)) (sym c.in-Some.is)

pub returns-in-None-clause-found : goal.returns-in-None-clause-found
returns-in-None-clause-found c nest inner is_state s of =
    nothing_found nest inner is_state c.none_of-in-None.result s c.none_of-in-None.ensures.bytes
    ∙ ap (λ b. find s (inside_list (above nest inner) is_state b)) (sym c.in-None.is)
