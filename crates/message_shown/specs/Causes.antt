-- The names of causes and their numbers.
use Rattle.std.specs.Prelude.{ℕ, List, [], ◌∷◌, codes}
use Rattle.nla_wire.specs.declared.error.Cause.{Cause}
use Rattle.nla_wire.specs.declared.error.Cause.TheVariants.{TooShort, FrameShort, FrameOver, FrameUnder, EmptyList}
use Rattle.nla_wire.specs.declared.error.Cause.TheVariants.{WrongLength, NotUtf8, InvalidState, OutOfMemory}
use Rattle.shown.specs.Drafts.{Members}
use Rattle.shown.specs.Values.{numbered}

-- the name of a cause
abbrev pub cause_text : Cause → List ℕ
cause_text (TooShort got need) = codes "too-short"
cause_text (FrameShort left) = codes "frame-short"
cause_text (FrameOver len left) = codes "frame-over"
cause_text (FrameUnder len) = codes "frame-under"
cause_text EmptyList = codes "empty-list"
cause_text (WrongLength got want) = codes "wrong-length"
cause_text NotUtf8 = codes "not-utf8"
cause_text InvalidState = codes "invalid-state"
cause_text OutOfMemory = codes "out-of-memory"

-- the numbers of a cause, with their names
abbrev pub cause_members : Cause → Members
cause_members (TooShort got need) = numbered (codes "got") got ∷ numbered (codes "need") need ∷ []
cause_members (FrameShort left) = numbered (codes "left") left ∷ []
cause_members (FrameOver len left) = numbered (codes "length") len ∷ numbered (codes "left") left ∷ []
cause_members (FrameUnder len) = numbered (codes "length") len ∷ []
cause_members EmptyList = []
cause_members (WrongLength got want) = numbered (codes "got") got ∷ numbered (codes "want") want ∷ []
cause_members NotUtf8 = []
cause_members InvalidState = []
cause_members OutOfMemory = []
