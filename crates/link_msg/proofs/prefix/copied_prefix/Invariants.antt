use Rattle.link_msg.specs.Tables.{attribute_place}
use Rattle.link_msg.specs.Prefixes.{attribute_text, CanBeWritten}
use Rattle.link_msg.proofs.Prefixes.{Running}
use Rattle.link_msg.proofs.prefix.copied_prefix.Given as goal

abbrev pub invariant-loop-item : goal.invariant-loop-item
invariant-loop-item l =
    Running (attribute_place l.family).reads attribute_text CanBeWritten l.bytes l.item-iterator l.prefix
