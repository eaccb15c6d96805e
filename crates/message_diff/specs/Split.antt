-- An encoding whose attributes are apart: those that are accepted, and those that are refused.
use Rattle.frame_diff.specs.Members.{Parts}
use Rattle.message_diff.specs.declared.changes.Split.{Split}

abbrev pub parts_in : Split → Parts
parts_in split =
    record { header = split.text.now; attributes = split.accepted.items; refused = split.refused.items }
