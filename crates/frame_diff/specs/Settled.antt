-- What is shown of a list that is told as a whole: of a state nothing that moves by itself.
use Rattle.std.specs.Prelude.{ℕ, ◌==◌, List, [], ◌∷◌, Bool, true, false, cond, not}
use Rattle.std.specs.List.{filter, flat_map, list_any}
use Rattle.link_info.specs.Tables.{frames_in}
use Rattle.link_state.specs.Table.{Action}
use Rattle.nla_wire.specs.Canon.{canons}
use Rattle.nla_wire.specs.Frames.{Frame, number}
use Rattle.nla_wire.specs.Items.{items}
use Rattle.frame_shown.specs.Tables.{entry_list}
use Rattle.frame_shown.specs.declared.form.Group.{Group}
use Rattle.frame_shown.specs.declared.form.List.{List as Shape}
use Rattle.frame_diff.specs.Counters.{action_at, level_in}

abbrev pub is_still : Action → Bool
is_still Action.Keep = true
is_still Action.Clear = false
is_still (Action.ClearPart from to) = false
is_still (Action.Enter level) = false
is_still Action.EnterInfo = false

-- an attribute of which a state clears nothing
abbrev pub stands_still : Shape → Frame → Bool
stands_still list f = is_still (action_at (level_in list) (number f))

-- those attributes, spelled one after the other, if there are others
abbrev pub still_of : Shape → List ℕ → List Frame → List ℕ
still_of list p fs =
    cond (list_any (λ f. not (stands_still list f)) fs) (canons (λ f. f) (filter (stands_still list) fs)) p

abbrev pub settled : Bool → Shape → List ℕ → List ℕ
settled false list p = p
settled true list p = still_of list p (frames_in (items p))

-- each entry of a list
abbrev pub settled_in : Bool → Group → List Frame → List (List ℕ)
settled_in is_state group fs =
    flat_map (λ f. cond (number f == 1) (settled is_state (entry_list group) f.payload ∷ []) []) fs
