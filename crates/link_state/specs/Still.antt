-- Which message a state means: over values, and not over bytes.
use Rattle.std.specs.Prelude.{◌≡◌, ◌⊎◌, ℕ, List, [], ◌∷◌, drop, length, map, take}
use Rattle.std.specs.List.{AllByRecursion, AllZip}
use Rattle.nla_wire.specs.Canon.{canons, IsWritable}
use Rattle.nla_wire.specs.Frames.{Frame, IsBytes, number}
use Rattle.link_recs.specs.declared.stats.Stats.{Stats}
use Rattle.link_recs.specs.declared.stats64.Stats64.{Stats64}
use Rattle.link_vals.specs.LinkFlagsTable.{link_flags_of}
use Rattle.link_vals.specs.declared.address_family.AddressFamily.{AddressFamily}
use Rattle.link_msg.specs.Tables.{attribute_frame}
use Rattle.link_msg.specs.declared.attribute.LinkAttribute.{LinkAttribute}
use Rattle.link_msg.specs.declared.attribute.LinkAttribute.TheVariants as Attributes
use Rattle.link_msg.specs.declared.header.LinkHeader.{LinkHeader}
use Rattle.link_msg.specs.declared.message.LinkMessage.{LinkMessage}
use Rattle.link_state.specs.Cleared.{cleared, info_level, payload_by}
use Rattle.link_state.specs.Laws.{IsCanonical}
use Rattle.link_state.specs.State.{state, HasState}
use Rattle.link_state.specs.Table.{action_of}
use Rattle.link_state.specs.Table.Action.{Clear, ClearPart, Enter, EnterInfo}
use Rattle.link_state.specs.declared.level.Level.{Level}
use Rattle.link_state.specs.declared.level.Level.TheVariants.{Message}

-- no flags are changed
abbrev pub no_changes : LinkHeader → LinkHeader
no_changes v = record {
  interface_family = v.interface_family;
  index = v.index;
  link_layer_type = v.link_layer_type;
  flags = v.flags;
  change_mask = link_flags_of 0;
}

-- the frame of an attribute, with zeros where bytes of it move by themselves
abbrev pub still_frame : AddressFamily → Frame → Frame
still_frame family f =
    record { kind = f.kind; payload = payload_by 0 cleared (action_of (Message family) (number f)) f.payload }

-- n is m with no flags changed, and its attributes are those of m, in order, without what moves by itself
pub record IsStill (m n : LinkMessage) : Type 0 where
  pub header : n.header ≡ no_changes m.header
  pub attributes : map attribute_frame n.attributes
      ≡ map (λ v. still_frame m.header.interface_family (attribute_frame v)) m.attributes

-- the state of the canonical encoding of a message means that message without what moves by itself
abbrev pub StateMeansStill : Type 0
StateMeansStill = (t : List ℕ) (m : LinkMessage) → IsBytes t → IsCanonical t m
    → (n : LinkMessage) × IsCanonical (state t) n × IsStill m n

-- ** what a state leaves out

-- both are the same counters, whatever they have counted
pub data AreCounters : LinkAttribute → LinkAttribute → Type 0 where
  stats : (x y : Stats) → AreCounters (Attributes.Stats x) (Attributes.Stats y)
  stats64 : (x y : Stats64) → AreCounters (Attributes.Stats64 x) (Attributes.Stats64 y)
  changes : (x y : ℕ) → AreCounters (Attributes.CarrierChanges x) (Attributes.CarrierChanges y)
  ups : (x y : ℕ) → AreCounters (Attributes.CarrierUpCount x) (Attributes.CarrierUpCount y)
  downs : (x y : ℕ) → AreCounters (Attributes.CarrierDownCount x) (Attributes.CarrierDownCount y)

-- two attributes differ in the values of counters alone, or not at all
abbrev pub SameButCounters : LinkAttribute → LinkAttribute → Type 0
SameButCounters v w = (v ≡ w) ⊎ AreCounters v w

-- and two messages, or in which flags are changed
pub record DifferInCounters (m n : LinkMessage) : Type 0 where
  pub header : no_changes m.header ≡ no_changes n.header
  pub attributes : AllZip SameButCounters m.attributes n.attributes

-- two accepted byte strings whose messages differ so have one state
abbrev pub CountersLeave : Type 0
CountersLeave = (a b s t : List ℕ) → IsBytes a → IsBytes b → (h : HasState a s) → (k : HasState b t)
    → DifferInCounters h.message k.message → s ≡ t

-- ** what a state leaves out at any depth

-- two payloads that are as long, and have other bytes at most from one place to before the other
pub record DifferBetween (from to : ℕ) (p q : List ℕ) : Type 0 where
  pub before : take from (take to p) ≡ take from (take to q)
  pub behind : drop to p ≡ drop to q
  pub as_long : length p ≡ length q

-- the canonical encoding of frames
pub record AreIn (fs : List Frame) (p : List ℕ) : Type 0 where
  pub encoded : p ≡ canons (λ f. f) fs
  pub writable : AllByRecursion IsWritable fs

-- two lists of frames of the same kinds, one for one, which differ at most in bytes that move by themselves: those of
-- payloads that are cleared at this level, of a part of them, and inside of lists that are entered
pub data DifferInMoving : Level → List Frame → List Frame → Type 0 where
  none : (l : Level) → DifferInMoving l [] []
  same : (l : Level) (f : Frame) (fs gs : List Frame) → DifferInMoving l fs gs → DifferInMoving l (f ∷ fs) (f ∷ gs)
  all : (l : Level) (f g : Frame) (fs gs : List Frame) → f.kind ≡ g.kind → action_of l (number f) ≡ Clear
      → length f.payload ≡ length g.payload → DifferInMoving l fs gs → DifferInMoving l (f ∷ fs) (g ∷ gs)
  some : (l : Level) (from to : ℕ) (f g : Frame) (fs gs : List Frame) → f.kind ≡ g.kind
      → action_of l (number f) ≡ ClearPart from to → DifferBetween from to f.payload g.payload
      → DifferInMoving l fs gs → DifferInMoving l (f ∷ fs) (g ∷ gs)
  inside : (l inner : Level) (f g : Frame) (xs ys fs gs : List Frame) → f.kind ≡ g.kind
      → action_of l (number f) ≡ Enter inner → AreIn xs f.payload → AreIn ys g.payload → DifferInMoving inner xs ys
      → DifferInMoving l fs gs → DifferInMoving l (f ∷ fs) (g ∷ gs)
  by_kind : (l : Level) (f g : Frame) (xs ys fs gs : List Frame) → f.kind ≡ g.kind
      → action_of l (number f) ≡ EnterInfo → info_level f.payload ≡ info_level g.payload
      → AreIn xs f.payload → AreIn ys g.payload → DifferInMoving (info_level f.payload) xs ys
      → DifferInMoving l fs gs → DifferInMoving l (f ∷ fs) (g ∷ gs)

-- two messages that differ in such bytes alone, or in which flags are changed
pub record DifferInside (m n : LinkMessage) : Type 0 where
  pub header : no_changes m.header ≡ no_changes n.header
  pub attributes : DifferInMoving (Message m.header.interface_family)
      (map attribute_frame m.attributes) (map attribute_frame n.attributes)

-- two accepted byte strings whose messages differ so have one state
abbrev pub MovingLeaves : Type 0
MovingLeaves = (a b s t : List ℕ) → IsBytes a → IsBytes b → (h : HasState a s) → (k : HasState b t)
    → DifferInside h.message k.message → s ≡ t
