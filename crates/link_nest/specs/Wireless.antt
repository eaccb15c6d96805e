-- Wireless events: what a payload means, and the encoding of an event (linux/wireless.h).
use Rattle.std.specs.Prelude.{◌≡◌, ℕ, ◌+◌, ◌≤◌, ◌==◌, if◌then◌else◌, List, [], ◌∷◌, ◌++◌, length, drop}
use Rattle.std.specs.Int.{w16, to_le_bytes}
use Rattle.nla_wire.specs.Sizes.{most_payload}
use Rattle.nla_wire.specs.Frames.{IsBytes}
use Rattle.nla_wire.specs.Grammar.{Grammar}
use Rattle.nla_wire.specs.Payloads.{sized}
use Rattle.nla_wire.specs.Fields.{number_at}
use Rattle.link_nest.specs.declared.numbers.TheConstants.{IWEVASSOCREQIE, IWEVASSOCRESPIE}
use Rattle.link_nest.specs.declared.wireless.WirelessEvent.{WirelessEvent}
use Rattle.link_nest.specs.declared.wireless.WirelessEvent.TheVariants.{AssociateRequest, AssociateResponse, Other}

-- the event of this command: the bytes after the header, or the whole payload
abbrev pub event_of : ℕ → List ℕ → WirelessEvent
event_of command p =
    if command == IWEVASSOCREQIE then AssociateRequest (drop 8 p)
    else if command == IWEVASSOCRESPIE then AssociateResponse (drop 8 p)
    else Other p

-- the command stands at the third byte
abbrev pub wireless_of : List ℕ → WirelessEvent
wireless_of p = event_of (number_at w16 p 2) p

-- a payload of at least eight bytes
abbrev pub wireless_event : Grammar (List ℕ) WirelessEvent
wireless_event = sized 8 wireless_of

-- the length of the whole event, its command and four zeros
abbrev pub event_header : ℕ → ℕ → List ℕ
event_header len command = to_le_bytes w16 len ++ to_le_bytes w16 command ++ 0 ∷ 0 ∷ 0 ∷ 0 ∷ []

abbrev pub event_encoding : ℕ → List ℕ → List ℕ
event_encoding command x = event_header (8 + length x) command ++ x

-- the encoding of an event
abbrev pub wireless_encoding : WirelessEvent → List ℕ
wireless_encoding (AssociateRequest x) = event_encoding IWEVASSOCREQIE x
wireless_encoding (AssociateResponse x) = event_encoding IWEVASSOCRESPIE x
wireless_encoding (Other p) = p

-- the encoding has at most as many bytes as the value of an attribute may have
abbrev pub WirelessFits : WirelessEvent → Type 0
WirelessFits v = length (wireless_encoding v) ≤ most_payload

-- ** laws

-- an event that some payload means is what its encoding means
abbrev pub EventsReadBack : Type 0
EventsReadBack = (p : List ℕ) (v : WirelessEvent) → IsBytes p → wireless_event.means p v
    → wireless_event.means (wireless_encoding v) v

-- and its encoding is as long as the payload
abbrev pub EventsKeepLength : Type 0
EventsKeepLength = (p : List ℕ) (v : WirelessEvent) → wireless_event.means p v → length (wireless_encoding v) ≡ length p
