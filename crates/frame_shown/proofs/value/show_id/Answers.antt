use Rattle.std.proofs.Common.{ℕ, ap, ◌∙◌, take}
use Rattle.std.proofs.lemmas.List.{take_min}
use Rattle.std.proofs.lemmas.Result.{on_ok_weaker}
use Rattle.shown.specs.Drafts.{with_value}
use Rattle.frame_shown.specs.Values.{hexadecimal}
use Rattle.frame_shown.proofs.value.show_id.Goals as goal

pub returns : goal.returns
returns c =
    let value = λ (n : ℕ). with_value c.args.name.now (hexadecimal (take n c.args.bytes.now)) c.args.page.now in
    on_ok_weaker c.hex.result (λ is. is ∙ ap value c.min-len.ensures
    ∙ ap (λ t. with_value c.args.name.now (hexadecimal t) c.args.page.now) (take_min 32 c.args.bytes.now))
    c.hex.ensures
