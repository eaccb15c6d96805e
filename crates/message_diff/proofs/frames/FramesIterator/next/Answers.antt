use Rattle.std.proofs.Common.{◌≡◌, ◌∷◌, ◌<◌, ℕ, List, [], length, take, drop, sym, ap, ◌∙◌, arith}
use Rattle.std.proofs.lemmas.Bool.Decides.{nat_tests}
use Rattle.message_diff.specs.Frames.{frame_len, frames_in}
use Rattle.message_diff.proofs.Cuts.{frames_first, frames_none, progress}
use Rattle.message_diff.proofs.frames.FramesIterator.next.Goals as goal

pub returns-then-is_empty-clause-steps : goal.returns-then-is_empty-clause-steps
returns-then-is_empty-clause-steps c =
    let none : length c.self.inside.rest.now ≡ 0 = grind (arith, nat_tests) in
    let is : c.args.self.now ≡ [] = sym c.self.view_is ∙ frames_none c.self.inside.rest.now none in
    (is, is)

pub returns-clause-steps : goal.returns-clause-steps
returns-clause-steps c =
    let list : List ℕ = c.self.inside.rest.now in
    let some : 0 < length list = grind (arith, nat_tests) in
    let len = c.frame_len.ensures.is in
    let front : take (frame_len list) list ≡ c.split_at.result.0.now =
    ap (λ n. take n list) (sym len) ∙ sym c.split_at.ensures.front in
    let back : drop (frame_len list) list ≡ c.split_at.result.1.now =
    ap (λ n. drop n list) (sym len) ∙ sym c.split_at.ensures.back in
    sym c.self.view_is ∙ frames_first list some ∙ (λ i. front i ∷ frames_in (back i))

pub returns-clause-goes : goal.returns-clause-goes
returns-clause-goes c = progress c.args.self.now _ _ _ (returns-clause-steps c)
