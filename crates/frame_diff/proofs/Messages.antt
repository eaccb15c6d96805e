-- What is told of two messages.
use Rattle.std.proofs.Common.{◌≡◌, true, false, [], ◌∷◌, ◌++◌, refl, ap, ◌∙◌, eq-eqb}
use Rattle.std.specs.Prelude.{Some, cond}
use Rattle.nla_wire.specs.Frames.{Frame, number}
use Rattle.frame_shown.specs.Tables.{row_in, is_each}
use Rattle.frame_shown.specs.declared.form.List.{List as Shape}
use Rattle.frame_diff.specs.Beside.{held_of}
use Rattle.frame_diff.specs.Counters.{action_in, is_passed}
use Rattle.frame_diff.specs.Forests.{Forest, Step}
use Rattle.frame_diff.specs.Laws.{CountersArePassed, MessagesAreTold}
use Rattle.frame_diff.specs.Members.{Reading, frame_member, message_forest, value_with, way_inside, is_unnamed}
use Rattle.frame_diff.specs.Wholes.{wholes}
use Rattle.frame_diff.specs.declared.side.Side.TheVariants.{Old, New}
use Rattle.frame_diff.proofs.Flat.{message_apart}
use Rattle.frame_diff.proofs.Leaves.{all_told}
use Rattle.frame_diff.proofs.Once.{each_once}
use Rattle.frame_diff.proofs.Silent.{same_silent}
use Rattle.frame_diff.proofs.WholesTold.{wholes_apart, wholes_leaves}

pub messages_told : MessagesAreTold
messages_told = record {
  all = λ is_state cx other old new.
      let f = message_forest is_state cx old in
      let g = message_forest is_state other new in
      all_told (wholes f g) (wholes g f) (wholes_apart f g (message_apart is_state cx old))
      (wholes_apart g f (message_apart is_state other new));
  by_leaves = λ is_state cx other old new.
      wholes_leaves (message_forest is_state cx old) (message_forest is_state other new)
      (message_apart is_state cx old) (message_apart is_state other new);
  once = λ is_state cx other old new.
      let f = message_forest is_state cx old in
      let g = message_forest is_state other new in
      each_once (wholes f g) (wholes g f) (wholes_apart f g (message_apart is_state cx old))
      (wholes_apart g f (message_apart is_state other new));
  silent = λ is_state cx m.
      let f = message_forest is_state cx m in
      let apart = wholes_apart f f (message_apart is_state cx m) in
      (λ k. same_silent Old [] (wholes f f) apart k ++ same_silent New [] (wholes f f) apart k);
}

module _ (r : Reading) (list : Shape) (f : Frame) where
  abbrev inside : Forest
  inside = way_inside r.inner r.around (action_in r.is_state list (number f)) (row_in r.around list (number f)).1
      f.payload

  member_one : is_unnamed (row_in r.around list (number f)).1 f.payload ≡ false
      → frame_member r list f ≡ (Step.name (row_in r.around list (number f)).0, held_of r list f) ∷ []
  member_one = ap (λ b. cond b [] ((Step.name (row_in r.around list (number f)).0, held_of r list f) ∷ []))

  value_one : is_each (row_in r.around list (number f)).1 ≡ true
      → value_with r list (number f) f ≡ Some (held_of r list f) ∷ []
  value_one each =
      ap (λ b. cond b (cond (is_each (row_in r.around list (number f)).1) (Some (held_of r list f) ∷ []) []) [])
      (eq-eqb (number f) (number f) refl)
      ∙ ap (λ b. cond b (Some (held_of r list f) ∷ []) []) each

  passed_one : is_passed r.is_state list (number f) ≡ true → (held_of r list f).1 ≡ Forest.passed
  passed_one = ap (λ b. cond b Forest.passed inside)

  told_one : is_passed r.is_state list (number f) ≡ false → (held_of r list f).1 ≡ inside
  told_one = ap (λ b. cond b Forest.passed inside)

pub counters_passed : CountersArePassed
counters_passed = record {
  member = member_one;
  value = value_one;
  passed = passed_one;
  told = told_one;
  whole = λ list n. refl;
  state = λ list n. refl;
}
