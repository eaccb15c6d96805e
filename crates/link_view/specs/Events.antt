-- Wireless events over borrowed bytes, and what they stand for.
use Rattle.link_nest.specs.declared.wireless.WirelessEvent.{WirelessEvent}
use Rattle.link_nest.specs.declared.wireless.WirelessEvent.TheVariants as Events
use Rattle.link_view.specs.declared.payload.WirelessEventView.{WirelessEventView}
use Rattle.link_view.specs.declared.payload.WirelessEventView.TheVariants as Views

-- the same event
abbrev pub owned_event : WirelessEventView → WirelessEvent
owned_event (Views.AssociateRequest bytes) = Events.AssociateRequest bytes.now
owned_event (Views.AssociateResponse bytes) = Events.AssociateResponse bytes.now
owned_event (Views.Other bytes) = Events.Other bytes.now
