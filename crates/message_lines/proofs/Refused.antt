-- Why bytes have no encoding by the grammar.
use Rattle.std.proofs.Common.{ℕ, List}
use Rattle.link_msg.specs.Messages.{Means}
use Rattle.link_msg.specs.Canonical as canonical
use Rattle.link_msg.specs.declared.encoding.CanonError.{CanonError}
use Rattle.link_msg.specs.declared.encoding.CanonError.TheVariants as Refusals
use Rattle.message_lines.specs.Answers.{IsRefusal}

-- what `canonical` refuses is refused
pub refused : (b : List ℕ) (e : CanonError) → canonical.IsRefusal b e → IsRefusal Means b e
refused b (Refusals.Decode e) h = h.2
refused b Refusals.DoesNotFit h = h
refused b Refusals.EmptyVfPorts h = h
refused b Refusals.OutOfMemory h = tt
