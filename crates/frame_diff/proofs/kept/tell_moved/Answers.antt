use Rattle.std.proofs.Common.{◌≡◌, ◌∙◌, [], ap, false, rules, sym, true}
use Rattle.std.proofs.lemmas.Result.{on_ok_weaker}
use Rattle.shown.specs.Drafts.{with_members}
use Rattle.frame_shown.specs.Items.{objects}
use Rattle.frame_diff.specs.Keyed.{are_any, kept_moved}
use Rattle.frame_diff.specs.Sides.{is_moved}
use Rattle.frame_diff.proofs.Moved.{moved_alone, moved_both, moved_none, moved_not}
use Rattle.frame_diff.proofs.kept.tell_moved.Goals.{then-not-is_any-via-else-not-is_any+then-not-is_any-2}
use Rattle.frame_diff.proofs.kept.tell_moved.Goals.{then-not-is_any-via-then-not-is_any}
use Rattle.frame_diff.proofs.kept.tell_moved.Goals as goal

pub returns-then-not-is_moved : goal.returns-then-not-is_moved
returns-then-not-is_moved c = λ is_state are theirs.
    let not : is_moved c.args.side ≡ false = search rules in
    sym (ap (λ os. with_members (objects os) c.args.page.now)
    (moved_not c.args.side c.args.path.now is_state c.args.own c.args.others not))

pub returns-then-not-is_any : goal.returns-then-not-is_any
returns-then-not-is_any c = λ is_state are theirs.
    let side = c.args.side in
    let text = c.args.path.now in
    let none : kept_moved side text is_state c.args.own c.args.others ≡ [] = elim c.then-not-is_any.branch [
      | then-not-is_any-via-then-not-is_any w ↦
          let any : are_any c.args.values.now ≡ false = search rules in
          moved_none side text is_state c.args.own c.args.others c.args.values.now are any
      | then-not-is_any-via-else-not-is_any+then-not-is_any-2 w ↦
          let any : are_any c.args.theirs.now ≡ false = search rules in
          moved_alone side text is_state c.args.own c.args.others c.args.theirs.now theirs any
    ] in
    sym (ap (λ os. with_members (objects os) c.args.page.now) none)

pub returns : goal.returns
returns c =
    let side = c.args.side in
    let text = c.args.path.now in
    let moved : is_moved side ≡ true = search rules in
    let own : are_any c.args.values.now ≡ true = search rules in
    let other : are_any c.args.theirs.now ≡ true = search rules in
    on_ok_weaker c.tell_turned.result (λ is is_state are theirs. is
    ∙ sym (ap (λ os. with_members (objects os) c.args.page.now)
    (moved_both side text is_state c.args.own c.args.others c.args.values.now c.args.theirs.now are theirs moved own
    other))) c.tell_turned.ensures
