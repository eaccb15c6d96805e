-- What calls return over borrowed bytes, as `parse` reads it. `owned` says of a value what it stands for, and `reads`
-- of a frame what `parse` reads of it.
use Rattle.std.specs.Prelude.{◌≡◌, List, [], ◌∷◌, map, Option, None, Some, Result, Ok, Err}
use Rattle.nla_wire.specs.Frames.{Frame}
use Rattle.nla_wire.specs.Items.{Item}
use Rattle.nla_wire.specs.Reading.{◌>>=◌}
use Rattle.nla_wire.specs.declared.error.Cause.{Cause}
use Rattle.nla_wire.specs.declared.error.DecodeError.{DecodeError}

-- what a result stands for
abbrev pub told : {A B : Type 0} → (B → Result A Cause) → Result B DecodeError → Result A Cause
told owned (Ok v) = owned v
told owned (Err e) = Err e.cause

-- the same of a value that may be absent
abbrev pub told_found : {A B : Type 0} → (B → Result A Cause) → Result (Option B) DecodeError → Result (Option A) Cause
told_found owned (Err e) = Err e.cause
told_found owned (Ok None) = Ok None
told_found owned (Ok (Some v)) = owned v >>= λ a. Ok (Some a)

-- what is read of a frame that may be absent
abbrev pub read_found : {A : Type 0} → (Frame → Result A Cause) → Result (Option Frame) Cause → Result (Option A) Cause
read_found reads (Err c) = Err c
read_found reads (Ok None) = Ok None
read_found reads (Ok (Some f)) = reads f >>= λ v. Ok (Some v)

-- what is read of a frame, or the fault that ends the frames
abbrev pub read_item : {A : Type 0} → (Frame → Result A Cause) → Item → Result A Cause
read_item reads (Ok f) = reads f
read_item reads (Err c) = Err c

-- the same of each
abbrev pub each_read : {A : Type 0} → (Frame → Result A Cause) → List Item → List (Result A Cause)
each_read reads xs = map (read_item reads) xs

-- values, and no fault
abbrev pub all_read : {A : Type 0} → List A → List (Result A Cause)
all_read vs = map (λ v. Ok v) vs

-- it is what is read of the next item; or there is none
abbrev pub IsNext : {A B : Type 0} → (B → Result A Cause) → (Frame → Result A Cause) → List Item
    → Option (Result B DecodeError) → List Item → Type 0
IsNext owned reads old None new = (old ≡ []) × (new ≡ [])
IsNext owned reads old (Some r) new =
    (item : Item) × (old ≡ item ∷ new) × (told owned r ≡ read_item reads item)
