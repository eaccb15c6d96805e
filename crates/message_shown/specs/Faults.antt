-- What is said of bytes that have a fault, behind the name of its cause.
use Rattle.std.specs.Prelude.{◌≡◌, ℕ, ◌<◌, ◌≤◌, ◌⊎◌, List, [], ◌∷◌, ◌++◌, codes, length}
use Rattle.json.specs.Token.{string}
use Rattle.nla_wire.specs.declared.error.Cause.{Cause}
use Rattle.nla_wire.specs.declared.error.DecodeError.{DecodeError}
use Rattle.link_msg.specs.BeforeFault.{ReadsBefore}
use Rattle.link_msg.specs.FaultAt.{FaultsAt}
use Rattle.link_msg.specs.Header.{header_size}
use Rattle.link_msg.specs.Messages.{FirstFault}
use Rattle.link_msg.specs.declared.message.LinkMessage.{LinkMessage}
use Rattle.shown.specs.Drafts.{Draft, Members, with_members}
use Rattle.shown.specs.Values.{numbered}
use Rattle.frame_shown.specs.Accepted.{before_members}
use Rattle.message_shown.specs.Causes.{cause_members}
use Rattle.message_shown.specs.declared.context.Context.{Context}

-- what is read in front of the fault: nothing of bytes that are shorter than a header
abbrev pub AreBefore : Context → List ℕ → Cause → Members → Type 0
AreBefore cx bytes c ms = ((length bytes < header_size) × (ms ≡ []))
    ⊎ ((m : LinkMessage) × ReadsBefore bytes c m × (ms ≡ before_members cx.around bytes))

-- the offset of the fault, and that
abbrev pub AreBehind : Context → List ℕ → Cause → Members → Type 0
AreBehind cx bytes c ms =
    (at : ℕ) × (before : Members) × FaultsAt bytes c at × AreBefore cx bytes c before
    × (ms ≡ numbered (codes "offset") at ∷ before)

-- all that is said: a place, the numbers of the cause, and that
abbrev pub AreOfFault : Context → List ℕ → Cause → Members → Type 0
AreOfFault cx bytes c ms =
    (place : List ℕ) × (behind : Members) × AreBehind cx bytes c behind
    × (ms ≡ (codes "at", string place ∷ []) ∷ cause_members c ++ behind)

-- ** for the calls that add to a page

-- what is read in front of a fault was added, of bytes that are as long as a header
abbrev pub AddsBefore : Context → List ℕ → Draft → Draft → Type 0
AddsBefore cx bytes old new = (ms : Members) × (new ≡ with_members ms old)
    × (((length bytes < header_size) × (ms ≡ []))
    ⊎ ((header_size ≤ length bytes) × (ms ≡ before_members cx.around bytes)))

-- all that is said of the fault was added
abbrev pub AddsFault : Context → List ℕ → DecodeError → Draft → Draft → Type 0
AddsFault cx bytes e old new =
    (place : List ℕ) × (behind : Members)
    × (new ≡ with_members behind (with_members ((codes "at", string place ∷ []) ∷ cause_members e.cause) old))
    × (FirstFault bytes e.cause → AreBehind cx bytes e.cause behind)
