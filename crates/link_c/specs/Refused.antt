-- What `linkwire_refusal_next` tells: the attributes that lenient reading keeps because they are refused, one a call.
use Rattle.std.specs.Prelude.{◌≡◌, ◌≢◌, ℕ, ◌≤◌, List, [], ◌∷◌, length, drop, Bool, true, false, Result, Ok, Err}
use Rattle.std.specs.Prelude.{Option, Some, None, pos, neg_ℤ}
use Rattle.nla_wire.specs.Causes.{cause_number}
use Rattle.nla_wire.specs.Frames.{Frame, Begins, BeginsWithNone}
use Rattle.nla_wire.specs.declared.error.Cause.TheVariants as Causes
use Rattle.link_msg.specs.Header.{header_size}
use Rattle.link_msg.specs.FaultAt.{FaultIn, LeadsTo}
use Rattle.link_msg.specs.Nested.{in_attribute}
use Rattle.link_msg.specs.Told.{Told, told_from, told_all, IsHeaderless}
use Rattle.link_c.specs.Lists.{IsStep, told}
use Rattle.link_c.specs.Paths.{HasNumbers}
use Rattle.link_c.specs.declared.list.Attribute.{Attribute}
use Rattle.link_c.specs.declared.path.Path.{Path}
use Rattle.link_c.specs.declared.refused.Refused.{Refused}
use Rattle.link_c.specs.declared.refusal.Refusal.{Refusal}
use Rattle.link_c.specs.declared.refusal.Refusal.TheVariants as Refusals

-- ** the attribute

-- at this place of b starts this frame; or no frame does
abbrev pub StartsAs : List ℕ → ℕ → Option Frame → Type 0
StartsAs b at None = BeginsWithNone (drop at b)
StartsAs b at (Some f) = (rest : List ℕ) × Begins (drop at b) f rest

-- in place of an attribute
abbrev pub no_attribute : Attribute
no_attribute = record { kind = 0; payload = 0; payload_len = 0 }

-- the attribute is this frame, as `linkwire_next` tells of it at this place of b, and the next place is where that
-- moves; or the bytes there are no frame, and the next place is the end of b
abbrev pub TellsFrame : List ℕ → ℕ → Option Frame → ℕ → ℕ → Attribute → Type 0
TellsFrame b at None next is_attribute a = (is_attribute ≡ 0) × (a ≡ no_attribute) × (next ≡ length b)
TellsFrame b at (Some f) next is_attribute a = (is_attribute ≡ 1) × (told b a ≡ f) × IsStep b at next a

-- ** the refusal

-- the path leads to the fault of what is told
abbrev pub LeadsToIt : Told → Path → Type 0
LeadsToIt t p =
    (numbers : List ℕ) × HasNumbers p numbers
    × LeadsTo (λ f. FaultIn (in_attribute t.family f) f.payload) t.cause t.offset t.frame p.at numbers

-- it is told of the message b, and the next place is behind it
pub record Tells (b : List ℕ) (t : Told) (next : ℕ) (r : Refused) : Type 0 where
  pub offset : r.offset ≡ t.offset
  pub fault : r.fault ≡ neg_ℤ (pos (cause_number t.cause))
  pub frame : TellsFrame b t.offset t.frame next r.is_attribute r.attribute
  pub path : LeadsToIt t r.path

-- from this place of the message b on this is told first, and then all that is from the next place on; and so is C
pub record IsToldAt (b : List ℕ) (at next : ℕ) (t : Told) (r : Refused) : Type 0 where
  pub told : told_from b at ≡ t ∷ told_from b next
  pub tells : Tells b t next r
  pub memory : t.cause ≢ Causes.OutOfMemory

-- yes, and what is told next; no, where nothing is told from this place on; or b is shorter than a header. But for the
-- first, place and refusal are unchanged
abbrev pub IsNextRefused : List ℕ → ℕ → ℕ → Refused → Refused → Result Bool Refusal → Type 0
IsNextRefused b at next old new (Ok true) = (t : Told) × IsToldAt b at next t new
IsNextRefused b at next old new (Ok false) =
    (header_size ≤ length b) × (told_from b at ≡ []) × (next ≡ at) × (new ≡ old)
IsNextRefused b at next old new (Err (Refusals.Fault c)) = IsHeaderless b c × (next ≡ at) × (new ≡ old)
IsNextRefused b at next old new (Err e) = ⊥

-- ** a walk over a message

-- a loop over the call from this place on is told of these, one after the other, until it is told of none
abbrev pub Walks : List ℕ → ℕ → List Told → Type 0
Walks b at [] = told_from b at ≡ []
Walks b at (t ∷ ts) = (next : ℕ) × (r : Refused) × IsToldAt b at next t r × Walks b next ts

-- from the start of the message on these are all that is refused of it
abbrev pub WalkTellsAll : Type 0
WalkTellsAll = (b : List ℕ) (ts : List Told) → Walks b 0 ts → ts ≡ told_all b
