-- Truth values of the records of virtual functions, numbers of four bytes.
use Rattle.std.specs.Prelude.{ℕ, ◌==◌, ◌&&◌, not, Bool, if◌then◌else◌}

-- 0 is off, and so is the number with every bit set, which the kernel writes where a driver does not say. All else is
-- on
abbrev pub is_on : ℕ → Bool
is_on n = not (n == 0) && not (n == 4294967295)

abbrev pub on_number : Bool → ℕ
on_number on = if on then 1 else 0
