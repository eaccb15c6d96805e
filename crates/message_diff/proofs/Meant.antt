-- A line that tells what became of an interface.
use Rattle.std.proofs.Common.{◌≡◌, ◌<◌, ◌++◌, ◌∷◌, [], List, ℕ, ap, arith, length, length-append}
use Rattle.shown.specs.Print.{print}
use Rattle.shown.specs.Drafts.{object_of}
use Rattle.message_diff.specs.Alone.{AddsAlone, change_member, interface_line, told_words}
use Rattle.message_diff.specs.Named.{head_of}
use Rattle.message_diff.proofs.LastNames.{head_meant}

some_line : (front change text : List ℕ) → 0 < length (interface_line front change (head_of text))
unfolding interface_line
some_line front change text =
    omega (arith, length-append (print (object_of (told_words front ++ change_member change ∷ head_of text))) (10 ∷ []))

pub alone_meant : (front change text old new : List ℕ) → new ≡ old ++ interface_line front change (head_of text)
    → AddsAlone front change text old new
alone_meant front change text old new is = (
  interface_line front change (head_of text),
  record {
    some = some_line front change text;
    told = λ m means. ap (interface_line front change) (head_meant text m means);
  },
  is,
)
