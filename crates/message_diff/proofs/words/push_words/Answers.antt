use Rattle.std.proofs.Common.{◌≡◌, ◌++◌, List, ℕ, rules, refl, sym, ap, ◌∙◌, drop}
use Rattle.std.proofs.Common.{OnOk, arith}
use Rattle.std.proofs.lemmas.Bool.Decides.{nat_tests}
use Rattle.std.proofs.lemmas.Result.{on_ok_weaker}
use Rattle.shown.specs.Print.{print}
use Rattle.shown.specs.Drafts.{object_of, with_members}
use Rattle.shown.proofs.Pages.{whole_text}
use Rattle.message_diff.specs.Alone.{told_words}
use Rattle.message_diff.specs.Faults.{told_front, with_comma, without_last}
use Rattle.message_diff.proofs.Faulted.{popped, comma_some, comma_none, front_added, behind_first}
use Rattle.message_diff.proofs.words.push_words.Goals as goal
use Rattle.message_diff.proofs.words.push_words.Goals.{then-len-gt1+in_ok-push, else-len-gt1}

pub returns-clause-added : goal.returns-clause-added
unfolding told_front
returns-clause-added c =
    let words = told_words c.args.front.now in
    let page = c.show_told.new.page in
    let added = c.in_ok-finish.ensures in
    let text : added.0 ≡ print (object_of words) =
    whole_text words page added.0 (c.in_ok-show_told.ensures ∙ ap (with_members words) c.in_ok-page.ensures) added.1 in
    let whole : c.finish.new.out.items ≡ print (object_of words) =
    added.2 ∙ ap (λ (t : List ℕ). t ++ added.0) c.new-text.ensures.items ∙ text in
    let cut : c.pop.new.self.items ≡ without_last c.finish.new.out.items =
    popped c.finish.new.out.items c.pop.new.self.items c.pop.result c.pop.ensures.items (search rules) in
    let comma : c.if-len-gt1.text.items ≡ with_comma c.pop.new.self.items =
    elim c.if-len-gt1.branch [
      | then-len-gt1+in_ok-push w ↦ ap (λ t. t.items) w.text-is ∙ w.in_ok-push.ensures.items
          ∙ sym (comma_some c.pop.new.self.items (grind (arith, nat_tests)))
      | else-len-gt1 w ↦ ap (λ t. t.items) w.text-is
          ∙ sym (comma_none c.pop.new.self.items (λ long. absurd (grind (arith, nat_tests))))
    ] in
    let rest : c.unwrap_or.result.now ≡ drop 1 c.if-len-gt1.text.items =
    ap (λ r. r.now) c.unwrap_or.ensures
    ∙ behind_first c.as_slice.result.now c.get.result _ refl c.get.ensures.lookup
    ∙ ap (drop 1) c.as_slice.ensures.value in
    let grown : OnOk c.extend_from_slice.result
    (c.extend_from_slice.new.self.items ≡ c.push-2.new.self.items ++ c.unwrap_or.result.now) = (search rules) in
    on_ok_weaker c.extend_from_slice.result
    (λ is. front_added c.args.out.now.items c.push-2.new.self.items c.extend_from_slice.new.self.items
    c.unwrap_or.result.now c.if-len-gt1.text.items c.pop.new.self.items c.finish.new.out.items
    (print (object_of words)) c.in_ok-push-2.ensures.items is rest comma cut whole)
    grown
