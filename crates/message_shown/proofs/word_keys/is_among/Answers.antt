use Rattle.std.proofs.Common.{◌∙◌}
use Rattle.std.specs.Prelude.{◌==◌}
use lib.Pointwise.{pointwise}
use Rattle.message_shown.proofs.WordKeys.{any_mapped}
use Rattle.message_shown.proofs.word_keys.is_among.Goals as goal

pub returns : goal.returns
returns c =
    c.contains.ensures.value ∙ any_mapped (λ k. pointwise ◌==◌ k c.args.key.now) (λ k. k.now) c.args.keys.now
