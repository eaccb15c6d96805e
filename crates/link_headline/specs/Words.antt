-- What the contracts of `link_msg` call meaning and first fault is what the headline says.
use Rattle.std.specs.Prelude.{ℕ, ◌↔◌, List}
use Rattle.nla_wire.specs.declared.error.Cause.{Cause}
use Rattle.link_msg.specs.Messages.{Means, FirstFault}
use Rattle.link_msg.specs.declared.message.LinkMessage.{LinkMessage}
use Rattle.link_headline.specs.Headline.{KernelMeans, KernelFault}

abbrev pub SameMeaning : Type 0
SameMeaning = (b : List ℕ) (m : LinkMessage) → Means b m ↔ KernelMeans b m

abbrev pub SameFault : Type 0
SameFault = (b : List ℕ) (c : Cause) → FirstFault b c ↔ KernelFault b c
