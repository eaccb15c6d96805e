use Rattle.std.proofs.Common.{length, ap, ◌∙◌}
use Rattle.std.specs.Prelude.{◌||◌, nat_lt}
use Rattle.message_diff.proofs.Noted.{grown}
use Rattle.message_diff.proofs.files.NotedTake.take.Goals as goal

pub returns : goal.returns
returns c =
    let told = c.in_ok-take.ensures in (
      told.0,
      (
        told.1,
        ap (λ b. c.args.self.now.is_told || b)
            (c.is_longer.ensures
            ∙ (λ k. nat_lt (length (c.as_slice-len.ensures.value k)) (length (c.as_slice.ensures.value k)))
            ∙ grown c.args.out.now.items told.0 _ told.2),
      ),
      told.2,
    )
