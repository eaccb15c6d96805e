use Rattle.std.proofs.Common.{◌≡◌, ◌++◌, ◌∷◌, [], List, ℕ, OnOk, refl, ap, subst, ◌∙◌, rules}
use Rattle.std.proofs.lemmas.Result.{on_ok_weaker}
use Rattle.std.proofs.lemmas.Bool.Decides.{Decides-eqb}
use Rattle.std.proofs.lemmas.Slice.Eq.{strip_prefix_is}
use Rattle.line_filter.specs.Lines.{with_lf}
use Rattle.frame_shown.specs.declared.form.Order.{Order}
use Rattle.message_shown.specs.Whole.{IsWholeAnswerTo, ToBytes}
use Rattle.message_diff.specs.Faults.{behind_brace, told_front}
use Rattle.message_diff.proofs.Faulted.{behind, fault_added}
use Rattle.message_diff.proofs.reading.push_decode_fault.Goals as goal

pub returns : goal.returns
returns c =
    let answer = c.in_ok-push_answer.ensures.whole in
    let text : List ℕ = c.as_slice.result.now in
    let rest : c.unwrap_or.result.now ≡ behind_brace text =
    ap (λ r. r.now) c.unwrap_or.ensures
    ∙ behind text c.strip_prefix.result _ refl
    (strip_prefix_is Decides-eqb text (123 ∷ []) c.strip_prefix.result c.strip_prefix.ensures.cases) in
    let shown : text ≡ with_lf answer.0 =
    c.as_slice.ensures.value ∙ answer.2 ∙ ap (λ (t : List ℕ). t ++ with_lf answer.0) c.new-shown.ensures.items in
    let grown : OnOk c.extend_from_slice.result
    (c.extend_from_slice.new.self.items ≡ c.push_words.new.out.items ++ c.unwrap_or.result.now) = (search rules) in
    on_ok_weaker c.extend_from_slice.result
    (λ is. (
      told_front c.args.front.now ++ behind_brace (with_lf answer.0),
      (
        answer.0,
        subst (λ (order : Order). ToBytes IsWholeAnswerTo order [] c.args.bytes.now answer.0) c.order_for.ensures
            answer.1,
        refl,
      ),
      fault_added c.args.out.now.items c.push_words.new.out.items c.extend_from_slice.new.self.items
          c.unwrap_or.result.now (told_front c.args.front.now) text (with_lf answer.0)
          c.in_ok-push_words.ensures.added is rest shown,
    ))
    grown
