-- The causes of a fault and their numbers.
use Rattle.std.specs.Prelude.{ℕ}
use Rattle.nla_wire.specs.declared.error.Cause.{Cause}
use Rattle.nla_wire.specs.declared.error.Cause.TheVariants.{TooShort, FrameShort, FrameOver, FrameUnder, EmptyList}
use Rattle.nla_wire.specs.declared.error.Cause.TheVariants.{WrongLength, NotUtf8, InvalidState, OutOfMemory}

abbrev pub cause_number : Cause → ℕ
cause_number (TooShort got need) = 1
cause_number (FrameShort left) = 2
cause_number (FrameOver len left) = 3
cause_number (FrameUnder len) = 4
cause_number EmptyList = 5
cause_number (WrongLength got want) = 6
cause_number NotUtf8 = 7
cause_number InvalidState = 8
cause_number OutOfMemory = 9
