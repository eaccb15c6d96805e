-- The events of links: numbers, as in linux/if_link.h.
use Rattle.std.specs.Prelude.{ℕ, List, [], ◌∷◌}
use Rattle.std.specs.Int.{w32}
use Rattle.nla_wire.specs.Grammar.{Grammar, as_a}
use Rattle.nla_wire.specs.Payloads.{number_of}
use Rattle.link_vals.specs.Table.{value_of}
use Rattle.link_vals.specs.declared.event.LinkEvent.{LinkEvent}
use Rattle.link_vals.specs.declared.event.LinkEvent.TheVariants.{None, Reboot, Features, BondingFailover, NotifyPeers}
use Rattle.link_vals.specs.declared.event.LinkEvent.TheVariants.{IgmpResend, BondingOptions, Other}

-- the listed values, in the order of their numbers
abbrev pub link_event_listed : List LinkEvent
link_event_listed =
    None ∷ Reboot ∷ Features ∷ BondingFailover ∷ NotifyPeers ∷ IgmpResend ∷ BondingOptions ∷ []

-- the number of a value
unfoldable pub link_event_number : LinkEvent → ℕ
link_event_number None = 0
link_event_number Reboot = 1
link_event_number Features = 2
link_event_number BondingFailover = 3
link_event_number NotifyPeers = 4
link_event_number IgmpResend = 5
link_event_number BondingOptions = 6
link_event_number (Other n) = n

-- the value of a number: the listed one, else `Other`
unfoldable pub link_event_of : ℕ → LinkEvent
link_event_of n = value_of link_event_number link_event_listed (Other n) n

-- an event as a payload of four bytes
abbrev pub link_event : Grammar (List ℕ) LinkEvent
link_event = as_a link_event_of (number_of w32)
