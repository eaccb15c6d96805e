-- Why bytes have no lenient encoding.
use Rattle.std.proofs.Common.{ℕ, List}
use Rattle.link_msg.specs.Lenient.{MeansLeniently, IsLenientRefusal}
use Rattle.link_msg.specs.declared.encoding.CanonError.{CanonError}
use Rattle.link_msg.specs.declared.encoding.CanonError.TheVariants as Refusals
use Rattle.message_lines.specs.Answers.{IsRefusal}

-- what `canonical_lenient` refuses is refused
pub refused_leniently : (b : List ℕ) (e : CanonError) → IsLenientRefusal b e → IsRefusal MeansLeniently b e
refused_leniently b (Refusals.Decode e) h = h.2
refused_leniently b Refusals.DoesNotFit h = h
refused_leniently b Refusals.EmptyVfPorts h = h
refused_leniently b Refusals.OutOfMemory h = tt
