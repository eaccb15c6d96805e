-- What `linkwire_diff` writes: a text, for which the buffer may have no room.
use Rattle.std.specs.Prelude.{◌≡◌, ℕ, ◌<◌, Bool, true, false, List, [], length, Result, Ok, Err, cond}
use Rattle.link_msg.specs.declared.encoding.CanonError.{CanonError}
use Rattle.frame_shown.specs.declared.form.Order.{Order}
use Rattle.message_diff.specs.Announced.{without_event}
use Rattle.message_diff.specs.Changed.{AddsListBy}
use Rattle.message_diff.specs.Compared.{IsRefusalOfTwoBy, TellsIfDiffers}
use Rattle.message_diff.specs.declared.snapshot.Compared.{Compared}
use Rattle.message_diff.specs.declared.snapshot.Compared.TheVariants.{State, Message, LenientState, LenientMessage}
use Rattle.link_c.specs.Answers.{of_canon}
use Rattle.link_c.specs.Flags.{AreFlags}
use Rattle.link_c.specs.Shown.{PutsWhole}
use Rattle.link_c.specs.declared.flags.Flags.{Flags}
use Rattle.link_c.specs.declared.refusal.Refusal.{Refusal}
use Rattle.link_c.specs.declared.refusal.Refusal.TheVariants.{OutOfMemory, UnknownFlag}

-- what is compared by the flags
abbrev pub compared : Flags → Compared
compared f = cond f.lenient (cond f.counters LenientMessage LenientState) (cond f.counters Message State)

-- where what is compared of a and b is equal nothing was written; else the list of what changed was put, n bytes, of
-- both in this order
abbrev pub IsListed : Compared → Order → List ℕ → List ℕ → List ℕ → List ℕ → Bool → ℕ → Type 0
IsListed by order a b old new false n = (n ≡ 0) × (new ≡ old)
IsListed by order a b old new true n =
    (text : List ℕ) × AddsListBy by order a b [] text × (0 < length text) × PutsWhole text old new n

-- what was written of a and b, which are compared, by what the flags say; or why one of them has no encoding, or memory
-- ran out, or a flag is none, and the buffer is as it was
abbrev pub IsDiffOf : Order → ℕ → List ℕ → List ℕ → List ℕ → List ℕ → Result ℕ Refusal → Type 0
IsDiffOf order flags a b old new (Ok n) =
    (f : Flags) × AreFlags flags (Ok f)
    × ((told : Bool) × TellsIfDiffers (compared f) a b told × IsListed (compared f) order a b old new told n)
IsDiffOf order flags a b old new (Err OutOfMemory) = ((f : Flags) × AreFlags flags (Ok f)) × (new ≡ old)
IsDiffOf order flags a b old new (Err UnknownFlag) = AreFlags flags (Err UnknownFlag) × (new ≡ old)
IsDiffOf order flags a b old new (Err e) =
    (f : Flags) × AreFlags flags (Ok f)
    × ((why : CanonError) × (e ≡ of_canon why) × IsRefusalOfTwoBy (compared f) a b why) × (new ≡ old)

-- the same of two messages: what is compared of them is all but their attributes IFLA_EVENT, as linkdiff compares it
abbrev pub IsDiff : Order → ℕ → List ℕ → List ℕ → List ℕ → List ℕ → Result ℕ Refusal → Type 0
IsDiff order flags a b old new result = IsDiffOf order flags (without_event a) (without_event b) old new result
