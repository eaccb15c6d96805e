-- An attribute that has a name is not kept as it is, nor a value of a list.
use Rattle.std.proofs.Common.{◌≡◌, ℕ, true, false, List, refl}
use Rattle.std.proofs.lemmas.Bool.{or_parts}
use Rattle.frame_shown.specs.Tables.{is_each, is_kept}
use Rattle.frame_shown.specs.declared.form.Way.{Way}
use Rattle.frame_shown.specs.declared.form.Way.TheVariants as Ways
use Rattle.frame_diff.specs.Members.{is_unnamed}

pub not_kept : (way : Way) (p : List ℕ) → is_unnamed way p ≡ false → is_kept way p ≡ false
not_kept way p named = (or_parts (is_kept way p) (is_each way) named).0

-- a value of a list is not kept as it is
pub each_not_kept : (way : Way) (p : List ℕ) → is_each way ≡ true → is_kept way p ≡ false
each_not_kept (Ways.Own form) p each = absurd cc
each_not_kept (Ways.By style) p each = refl
