-- Messages beside each other.
use Rattle.frame_shown.specs.declared.form.Around.{Around}
use Rattle.frame_shown.specs.declared.form.Order.{Order}
use Rattle.frame_diff.specs.Members.{Parts}
use Rattle.frame_diff.specs.declared.message.Message.{Message}

-- with another order of the counters of IPv6
abbrev pub with_order : Around → Order → Around
with_order cx order =
    record { tables = cx.tables; can_stats = cx.can_stats; order = order; address_len = cx.address_len }

-- what is compared of it
abbrev pub parts_of : Message → Parts
parts_of m = record { header = m.header.now; attributes = m.attributes.now; refused = m.refused.now }
