-- Laws of the state encoding, for every family.
use Rattle.std.specs.Prelude.{◌≡◌, ◌↔◌, ◌≤◌, ◌<◌, ℕ, List, length, ◌++◌, take, drop}
use Rattle.nla_wire.specs.Frames.{IsBytes}
use Rattle.nla_wire.specs.Grammar.{list}
use Rattle.nla_wire.specs.Canon.{canons, AllFit}
use Rattle.link_afspec.specs.Tables.{af_spec_inet6_place, af_spec_unspec_place}
use Rattle.link_afspec.specs.declared.inet6.AfSpecInet6.{AfSpecInet6}
use Rattle.link_afspec.specs.declared.unspec.AfSpecUnspec.{AfSpecUnspec}
use Rattle.link_msg.specs.Header.{header_size}
use Rattle.link_msg.specs.Messages.{message_text}
use Rattle.link_msg.specs.Canonical.{IsAccepted}
use Rattle.link_msg.specs.declared.message.LinkMessage.{LinkMessage}
use Rattle.link_state.specs.Cleared.{filled, cleared}
use Rattle.link_state.specs.Thinned.{thinned, inet6_left, families_left}
use Rattle.link_state.specs.Masks.{mask, stamp, blank, SameFrames}
use Rattle.link_state.specs.State.{level_of, state, state_mask}
use Rattle.link_state.specs.declared.level.Level.{Level}
use Rattle.link_state.specs.declared.level.Level.TheVariants.{Families, Inet6}

-- t is the canonical encoding of this message, which it means, which fits and holds no empty list of ports
pub record IsCanonical (t : List ℕ) (m : LinkMessage) : Type 0 where
  pub accepted : IsAccepted t m
  pub text : t ≡ message_text m

-- bytes, at least a header
abbrev pub HasHeader : List ℕ → Type 0
HasHeader t = IsBytes t × (header_size ≤ length t)

-- the state of canonical encoding is the canonical encoding of some message
abbrev pub StateIsCanonical : Type 0
StateIsCanonical = (t : List ℕ) (m : LinkMessage) → IsBytes t → IsCanonical t m
    → (n : LinkMessage) × IsCanonical (state t) n

abbrev pub StateIsAsLong : Type 0
StateIsAsLong = (t : List ℕ) → header_size ≤ length t → length (state t) ≡ length t

abbrev pub StateTwice : Type 0
StateTwice = (t : List ℕ) → HasHeader t → state (state t) ≡ state t

-- only the bytes of the mask are changed, and each of these becomes zero
abbrev pub ZeroAtItsMask : Type 0
ZeroAtItsMask = (t : List ℕ) → HasHeader t
    → (length (state_mask t) ≡ length t) × (blank (state_mask t) t ≡ state t)

-- the mask does not depend on what is cleared
abbrev pub MaskStays : Type 0
MaskStays = (t : List ℕ) → HasHeader t → state_mask (state t) ≡ state_mask t

-- the mask depends on the header's family and the frames alone: their numbers and lengths, and the kinds that they name
abbrev pub MaskByFrames : Type 0
MaskByFrames = (s t : List ℕ) → level_of s ≡ level_of t
    → SameFrames (level_of s) (drop header_size s) (drop header_size t) → state_mask s ≡ state_mask t

-- two have one state exactly where their masks are equal and they are equal outside of them
abbrev pub OneState : Type 0
OneState = (s t : List ℕ) → HasHeader s → HasHeader t
    → (state s ≡ state t) ↔ ((state_mask s ≡ state_mask t) × (blank (state_mask s) s ≡ blank (state_mask s) t))

-- the same of a list at any level
abbrev pub ListTwice : Type 0
ListTwice = (level : Level) (b : List ℕ) → IsBytes b → cleared level (cleared level b) ≡ cleared level b

abbrev pub ListZeroAtItsMask : Type 0
ListZeroAtItsMask = (level : Level) (b : List ℕ) → IsBytes b
    → (length (mask level b) ≡ length b) × (blank (mask level b) b ≡ cleared level b)

abbrev pub ListMaskByFrames : Type 0
ListMaskByFrames = (level : Level) (b c : List ℕ) → SameFrames level b c → mask level b ≡ mask level c

abbrev pub OneList : Type 0
OneList = (level : Level) (a b : List ℕ) → IsBytes a → IsBytes b
    → (cleared level a ≡ cleared level b)
    ↔ ((mask level a ≡ mask level b) × (blank (mask level a) a ≡ blank (mask level a) b))

-- ** another byte than zero

-- of what is filled twice the first byte does not count; what is filled and then cleared is cleared
abbrev pub ListFilledTwice : Type 0
ListFilledTwice = (by other : ℕ) (level : Level) (b : List ℕ) → IsBytes b
    → filled by level (filled other level b) ≡ filled by level b

-- only the bytes of the mask are changed, and each of these becomes the byte
abbrev pub ListFilledAtItsMask : Type 0
ListFilledAtItsMask = (by : ℕ) (level : Level) (b : List ℕ) → IsBytes b → stamp by (mask level b) b ≡ filled by level b

-- the mask does not depend on what is filled
abbrev pub ListMaskStays : Type 0
ListMaskStays = (by : ℕ) (level : Level) (b : List ℕ) → IsBytes b → mask level (filled by level b) ≡ mask level b

-- canonical encoding whose list is filled by a byte is the canonical encoding of some message, with the same header
abbrev pub FilledIsCanonical : Type 0
FilledIsCanonical = (by : ℕ) (t : List ℕ) (m : LinkMessage) → by < 256 → IsBytes t → IsCanonical t m
    → (n : LinkMessage) × (n.header ≡ m.header)
    × IsCanonical (take header_size t ++ filled by (level_of t) (drop header_size t)) n

-- ** lists that are thinned

-- the canonical encoding of settings of IPv6, which it means, and which fit
pub record AreInet6 (b : List ℕ) (vs : List AfSpecInet6) : Type 0 where
  pub means : (list af_spec_inet6_place.grammar).means b vs
  pub fits : AllFit af_spec_inet6_place.Fits af_spec_inet6_place.frame vs
  pub text : b ≡ canons af_spec_inet6_place.frame vs

-- the same of settings by family
pub record AreFamilies (b : List ℕ) (vs : List AfSpecUnspec) : Type 0 where
  pub means : (list af_spec_unspec_place.grammar).means b vs
  pub fits : AllFit af_spec_unspec_place.Fits af_spec_unspec_place.frame vs
  pub text : b ≡ canons af_spec_unspec_place.frame vs

-- what is left of canonical encoding is canonical, and means the values of which something is cleared
abbrev pub Inet6Thinned : Type 0
Inet6Thinned = (b : List ℕ) (vs : List AfSpecInet6) → IsBytes b → AreInet6 b vs
    → AreInet6 (thinned Inet6 b) (inet6_left vs)

abbrev pub FamiliesThinned : Type 0
FamiliesThinned = (b : List ℕ) (vs : List AfSpecUnspec) → IsBytes b → AreFamilies b vs
    → AreFamilies (thinned Families b) (families_left vs)

-- nothing is filled of what is left out
abbrev pub Inet6Apart : Type 0
Inet6Apart = (by : ℕ) (b : List ℕ) (vs : List AfSpecInet6) → IsBytes b → AreInet6 b vs
    → thinned Inet6 (filled by Inet6 b) ≡ filled by Inet6 (thinned Inet6 b)

abbrev pub FamiliesApart : Type 0
FamiliesApart = (by : ℕ) (b : List ℕ) (vs : List AfSpecUnspec) → IsBytes b → AreFamilies b vs
    → thinned Families (filled by Families b) ≡ filled by Families (thinned Families b)
