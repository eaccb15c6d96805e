-- How the result of a call agrees with what a reader returns.
use Rattle.std.specs.Prelude.{◌≡◌, ◌⊎◌, List, [], ◌∷◌, ◌++◌, Result, Ok, Err, IsOk}
use Rattle.nla_wire.specs.declared.error.Cause.{Cause}
use Rattle.nla_wire.specs.declared.error.Cause.TheVariants.{OutOfMemory}
use Rattle.nla_wire.specs.declared.error.DecodeError.{DecodeError}

-- the cause is what the reading gives, or memory ran out
abbrev pub Fails : {A : Type 0} → Cause → Result A Cause → Type 0
Fails c read = (c ≡ OutOfMemory) ⊎ (read ≡ Err c)

-- the result is what the reading gives, or memory ran out
abbrev pub Gives : {A : Type 0} → Result A DecodeError → Result A Cause → Type 0
Gives (Ok x) read = read ≡ Ok x
Gives (Err e) read = Fails e.cause read

-- Ok exactly where the reading is, else with the reading's cause
abbrev pub Checks : {A : Type 0} → Result Unit DecodeError → Result A Cause → Type 0
Checks (Ok x) read = IsOk read
Checks (Err e) read = read ≡ Err e.cause

-- a result without its place in a log
abbrev pub without_place : {A : Type 0} → Result A DecodeError → Result A Cause
without_place (Ok x) = Ok x
without_place (Err e) = Err e.cause

-- the value that is read was added at the end; or the list is as it was, and the cause is what the reading gives, or
-- memory ran out
abbrev pub Adds : {A : Type 0} → Result Unit DecodeError → Result A Cause → List A → List A → Type 0
Adds {A} (Ok x) read old new = (v : A) × (read ≡ Ok v) × (new ≡ old ++ v ∷ [])
Adds (Err e) read old new = Fails e.cause read × (new ≡ old)
