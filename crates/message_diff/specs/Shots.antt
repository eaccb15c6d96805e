-- A message as it is compared.
use Rattle.std.specs.Prelude.{ℕ, List}
use Rattle.frame_shown.specs.declared.form.Order.{Order}

-- its encoding, and the order of counters that its line was read in
pub record Shot : Type 0 where
  pub order : Order
  pub text : List ℕ
