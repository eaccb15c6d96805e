-- The headline. `Format` holds of bytes and messages by their definitions; `Headline` is that, and what the calls
-- return of two byte strings. `law_headline` in src/lib.rt makes these calls, and has `Headline` as its contract.
use Rattle.std.specs.Prelude.{◌≡◌, ◌≢◌, ℕ, ◌+◌, ◌-◌, ◌*◌, ◌≤◌, ◌<◌, ◌^◌, ◌↔◌, ◌⊎◌, ◌++◌, Bool, IsTrue, Result, Ok, Err}
use Rattle.std.specs.Prelude.{List, length}
use Rattle.std.specs.Global.{Vec}
use Rattle.std.specs.List.{AllByRecursion}
use Rattle.nla_wire.specs.Frames.{IsBytes}
use Rattle.nla_wire.specs.Grammar as nla
use Rattle.nla_wire.specs.Grammar.{First}
use Rattle.nla_wire.specs.Canon.{canons, total}
use Rattle.nla_wire.specs.declared.error.Cause.{Cause}
use Rattle.nla_wire.specs.declared.error.Cause.TheVariants.{OutOfMemory, TooShort}
use Rattle.nla_wire.specs.declared.error.DecodeError.{DecodeError}
use Rattle.link_msg.specs.Header.{IsHeader, header_bytes}
use Rattle.link_msg.specs.declared.attribute.LinkAttribute.{LinkAttribute}
use Rattle.link_msg.specs.declared.attribute.LinkAttribute.TheVariants as Attributes
use Rattle.link_msg.specs.declared.encoding.CanonError.{CanonError}
use Rattle.link_msg.specs.declared.encoding.CanonError.TheVariants as Refusals
use Rattle.link_msg.specs.declared.header.LinkHeader.{LinkHeader}
use Rattle.link_msg.specs.declared.message.LinkMessage.{LinkMessage}
use Rattle.link_headline.specs.Rows.{place}
use Rattle.link_headline.specs.Kernel.{attributes, AllFollowRows}
use Rattle.link_headline.specs.Values as written

-- ** bytes and messages

-- b is a header of sixteen bytes and then frames, of which the first means by its row the first attribute of m, the
-- second the second, and so on, as many as there are
abbrev pub KernelMeans : List ℕ → LinkMessage → Type 0
KernelMeans b m =
    (h : List ℕ) × (c : List ℕ) × (b ≡ h ++ c) × IsHeader h m.header
    × (nla.list (place (attributes m.header.interface_family))).means c m.attributes

-- b is shorter than a header; or this is the first fault of what follows its header
abbrev pub KernelFault : List ℕ → Cause → Type 0
KernelFault b c =
    ((length b < 16) × (c ≡ TooShort (length b) 16))
    ⊎ ((h : List ℕ) × (d : List ℕ) × (v : LinkHeader) × (b ≡ h ++ d) × IsHeader h v
    × First (place (attributes v.interface_family)) d c)

-- the canonical encoding of a message: its header, and each attribute as its row writes it, with zeros as padding
abbrev pub encoding : LinkMessage → List ℕ
encoding m = header_bytes m.header ++ canons written.attributes.frame m.attributes

-- each value has at most 65531 bytes, at every level, and the encoding fewer than 2 ^ 64. What `written.attributes` is,
-- `AllFollowRows` says
abbrev pub Fits : LinkMessage → Type 0
Fits m = AllByRecursion written.attributes.Fits m.attributes × (length (encoding m) < 2 ^ 64)

-- if the attribute is IFLA_VF_PORTS, it has an entry. Bytes can mean one without: all its entries had other numbers
-- than 1, and were dropped. Written it would be empty, and refused
abbrev pub HasPorts : LinkAttribute → Type 0
HasPorts (Attributes.VfPorts ports) = 0 < length ports
HasPorts _ = Unit {0}

abbrev pub NoEmptyPorts : LinkMessage → Type 0
NoEmptyPorts m = AllByRecursion HasPorts m.attributes

-- b means m, which has a canonical encoding. `canonical` and `same_message` ask for all three, `parse` and `check` for
-- the first alone
pub record Accepts (b : List ℕ) (m : LinkMessage) : Type 0 where
  pub means : KernelMeans b m
  pub fits : Fits m
  pub ports : NoEmptyPorts m

pub record Format : Type 0 where
  -- values are written as the rows of their tables say
  pub written : AllFollowRows
  -- bytes mean a message or have a fault
  pub decided : (b : List ℕ) → IsBytes b → ((m : LinkMessage) × KernelMeans b m) ⊎ ((c : Cause) × KernelFault b c)
  -- never both, and never two
  pub not_both : (b : List ℕ) (m : LinkMessage) (c : Cause) → KernelMeans b m → KernelFault b c → ⊥
  pub one_meaning : (b : List ℕ) (m n : LinkMessage) → KernelMeans b m → KernelMeans b n → m ≡ n
  pub one_fault : (b : List ℕ) (c d : Cause) → KernelFault b c → KernelFault b d → c ≡ d
  -- an encoding means its message, and by `one_meaning` no other
  pub encoding_means : (b : List ℕ) (m : LinkMessage) → IsBytes b → Accepts b m → KernelMeans (encoding m) m
  -- encodings are equal exactly where messages are: the same attributes in the same order. It follows from
  -- `encoding_means` and `one_meaning`
  pub same_encoding : (a b : List ℕ) (m n : LinkMessage) → IsBytes a → IsBytes b → Accepts a m → Accepts b n
      → (encoding m ≡ encoding n) ↔ (m ≡ n)

-- ** what the calls return

-- there are four bytes at least for each attribute, those at every level counted; the encoding has at most 79 times as
-- many bytes after its header as b; and what at most 839 bytes after a header mean fits
pub record IsWithinBounds (b : List ℕ) (m : LinkMessage) : Type 0 where
  pub few : 4 * total written.attributes.count m.attributes ≤ length b - 16
  pub short : length (encoding m) ≤ 16 + 79 * (length b - 16)
  pub small : length b ≤ 16 + 839 → Fits m

-- the message that b means; or the first fault of b; or memory ran out
abbrev pub IsParsed : List ℕ → Result LinkMessage DecodeError → Type 0
IsParsed b (Ok m) = KernelMeans b m × IsWithinBounds b m
IsParsed b (Err e) = e.cause ≢ OutOfMemory → KernelFault b e.cause

-- b means a message; or the first fault of b; and never that memory ran out
abbrev pub IsChecked : List ℕ → Result Unit DecodeError → Type 0
IsChecked b (Ok _) = (m : LinkMessage) × KernelMeans b m
IsChecked b (Err e) = KernelFault b e.cause × (e.cause ≢ OutOfMemory)

-- why b has no canonical encoding: it means nothing, or what does not fit, or what fits and has no ports where it must;
-- or memory ran out
abbrev pub IsRefusal : List ℕ → CanonError → Type 0
IsRefusal b (Refusals.Decode e) = KernelFault b e.cause × (e.cause ≢ OutOfMemory)
IsRefusal b Refusals.DoesNotFit = (m : LinkMessage) × KernelMeans b m × (Fits m → ⊥)
IsRefusal b Refusals.EmptyVfPorts = (m : LinkMessage) × KernelMeans b m × Fits m × (NoEmptyPorts m → ⊥)
IsRefusal b Refusals.OutOfMemory = Unit {0}

-- the canonical encoding of the message that b means; or why there is none
abbrev pub IsEncoded : List ℕ → Result (Vec ℕ) CanonError → Type 0
IsEncoded b (Ok t) =
    (m : LinkMessage) × Accepts b m × (t.items ≡ encoding m) × (length t.items ≤ 16 + 79 * (length b - 16))
IsEncoded b (Err e) = IsRefusal b e

-- whether a and b mean one message; or why the first of them that has no canonical encoding has none
abbrev pub IsSame : List ℕ → List ℕ → Result Bool CanonError → Type 0
IsSame a b (Ok same) = (m : LinkMessage) × (n : LinkMessage) × Accepts a m × Accepts b n × (IsTrue same ↔ (m ≡ n))
IsSame a b (Err e) = IsRefusal a e ⊎ (((m : LinkMessage) × Accepts a m) × IsRefusal b e)

-- of two byte strings a and b: what holds of all, and what `parse`, `check` and `canonical` return of a, and
-- `same_message` of both
pub record Headline (a b : List ℕ) (parse : Result LinkMessage DecodeError) (check : Result Unit DecodeError)
    (canonical : Result (Vec ℕ) CanonError) (same_message : Result Bool CanonError) : Type 0 where
  pub format : Format
  pub parsed : IsParsed a parse
  pub checked : IsChecked a check
  pub encoded : IsEncoded a canonical
  pub compared : IsSame a b same_message
