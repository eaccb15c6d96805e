-- What is told of refusals from a place on: the first one, and where the others go on.
use Rattle.std.specs.Prelude.{◌≡◌, ◌≢◌, ℕ, ◌+◌, ◌<◌, ◌≤◌, min, max, List, [], ◌∷◌, length, take, drop}
use Rattle.std.specs.Prelude.{Result, Ok, Err, Option, Some, None}
use Rattle.std.proofs.Common.{refl, sym, ◌∙◌, ap, subst, arith, inl, inr, drop-drop, length-drop, length-take-le}
use Rattle.std.proofs.lemmas.Bool.{cases_lt}
use Rattle.std.proofs.lemmas.List.{drop_min, drop_all, take-append-drop}
use Rattle.nla_wire.specs.Frames.{Frame, IsBytes, missing, Begins, BeginsWithNone, BadStart}
use Rattle.nla_wire.specs.Items.{Item, items}
use Rattle.nla_wire.specs.Reading.{step}
use Rattle.nla_wire.specs.Reading.Step.{Bad, Next}
use Rattle.nla_wire.specs.declared.error.Cause.{Cause}
use Rattle.nla_wire.specs.declared.error.Cause.TheVariants as Causes
use Rattle.nla_wire.proofs.Front.{step_rest}
use Rattle.nla_wire.proofs.Items.{items_nil, items_case}
use Rattle.nla_wire.proofs.Joined.{begins_once}
use Rattle.nla_wire.proofs.Steps.{step_whole, step_begins, step_bad, bad_step, step_framed, step_rest_bytes, step_size}
use Rattle.nla_wire.proofs.Steps.{bytes_right}
use Rattle.link_vals.specs.declared.address_family.AddressFamily.{AddressFamily}
use Rattle.link_msg.specs.Header.{header_size, header_of}
use Rattle.link_msg.specs.Tables.{attribute_place, attribute_lawful}
use Rattle.link_msg.specs.Told.{Told, told_of, after, told_on, told, told_all, told_from}
use Rattle.link_msg.specs.declared.attribute.LinkAttribute.{LinkAttribute}
use Rattle.link_msg.proofs.FirstFaults.{bad_some}
use Rattle.link_c.specs.Lists.{IsStep}
use Rattle.link_c.specs.Lists as lists
use Rattle.link_c.specs.Refused.{StartsAs, TellsFrame, Tells, IsToldAt, Walks, WalkTellsAll}
use Rattle.link_c.specs.declared.list.Attribute.{Attribute}
use Rattle.link_c.specs.declared.refused.Refused.{Refused}

-- ** what starts at a place

bad_none : (b : List ℕ) (c : Cause) → BadStart b c → BeginsWithNone b
bad_none b c bad f rest begins =
    let clash : Bad c ≡ Next f rest = sym (bad_step b c bad) ∙ step_whole b f rest begins in absurd cc

-- an attribute that the list has there is the frame
pub told_frame : (b : List ℕ) (at next : ℕ) (a : Attribute) → IsStep b at next a → (f : Option Frame) → StartsAs b at f
    → TellsFrame b at f next 1 a
told_frame b at next a s None none = absurd (none (lists.told b a) (drop next b) s.begins)
told_frame b at next a s (Some f) (rest, begins) =
    (refl, (begins_once (drop at b) (lists.told b a) f (drop next b) rest s.begins begins).0, s)

-- ** the first that is told

-- where the walk goes on behind it
abbrev GoesOn : List ℕ → ℕ → Option Frame → ℕ → Type 0
GoesOn b at None next = next ≡ length b
GoesOn b at (Some f) next = next ≡ min (after at f) (length b)

record IsFirst (family : AddressFamily) (b : List ℕ) (at : ℕ) (t : Told) (rest : List Told) : Type 0 where
  starts : StartsAs b t.offset t.frame
  memory : t.cause ≢ Causes.OutOfMemory
  behind : at ≤ t.offset
  inside : t.offset < length b
  others : (next : ℕ) → GoesOn b t.offset t.frame next → rest ≡ told family next (items (drop next b))

first_is : (P : Told → List Told → Type 0) (t u : Told) (ts us : List Told) → t ∷ ts ≡ u ∷ us → P t ts → P u us
first_is P t u ts us e h =
    let head : t ≡ u = cc in
    let tail : ts ≡ us = cc in
    subst (λ x. P x us) head (subst (P t) tail h)

module _ (family : AddressFamily) (b : List ℕ) where
  told_ended : (at : ℕ) (d : List ℕ) → d ≡ [] → told family at (items d) ≡ []
  told_ended at d is = ap (λ x. told family at (items x)) is ∙ ap (told family at) items_nil

  -- behind the end nothing is told, nor at it
  told_past : (at : ℕ)
      → told family at (items (drop at b)) ≡ told family (min at (length b)) (items (drop (min at (length b)) b))
  told_past at = elim (cases_lt (length b) at) [
    | inl past ↦
        (told_ended at (drop at b) (drop_all at b (omega arith))
        ∙ sym (told_ended (min at (length b)) (drop (min at (length b)) b)
        (drop_min at b ∙ drop_all at b (omega arith))))
    | inr before ↦
        (let same : at ≡ min at (length b) = omega arith in ap (λ n. told family n (items (drop n b))) same)
  ]

  abbrev Finds : List ℕ → List Item → Type 0
  Finds d xs = IsBytes d → (at : ℕ) → d ≡ drop at b → (t : Told) (rest : List Told) → told family at xs ≡ t ∷ rest
      → IsFirst family b at t rest

  some_left : (d : List ℕ) (at : ℕ) → d ≡ drop at b → 1 ≤ length d → at < length b
  some_left d at is some = omega (arith, length-drop at b, ap length is)

  finds_end : Finds [] []
  finds_end small at is t rest found = absurd cc

  finds_fault : (d : List ℕ) (c : Cause) → step d ≡ Bad c → Finds d (Err c ∷ [])
  finds_fault d c e small at is t rest found =
      let bad = step_bad d c e in
      let there : BadStart (drop at b) c = subst (λ x. BadStart x c) is bad in
      first_is (IsFirst family b at) (told_of family at None c) t [] rest found (record {
        starts = bad_none (drop at b) c there;
        memory = λ same. subst (BadStart (drop at b)) same there;
        behind = omega arith;
        inside = some_left d at is (bad_some d c bad);
        others = λ next ended. sym (told_ended next (drop next b) (drop_all next b (omega arith)));
      })

  module _ (d : List ℕ) (f : Frame) (left : List ℕ) (e : step d ≡ Next f left) (at : ℕ) (is : d ≡ drop at b) where
    left_is : left ≡ drop (after at f) b
    left_is =
        step_rest d f left e
        ∙ ap (drop (4 + length f.payload + missing (length f.payload))) is
        ∙ drop-drop (4 + length f.payload + missing (length f.payload)) at b

    refused_first : IsBytes d → (c : Cause) → (attribute_place family).reads f ≡ Err c
        → IsFirst family b at (told_of family at (Some f) c) (told family (after at f) (items left))
    refused_first small c reads = record {
      starts = (left, subst (λ x. Begins x f left) is (step_begins d f left small e));
      memory = λ same. (attribute_lawful family).no_memory f
          (subst ((attribute_place family).bad f) same
          ((attribute_lawful family).agrees.fault f c (step_framed d f left small e) reads));
      behind = omega arith;
      inside = some_left d at is (omega (arith, step_size d f left e));
      others = λ next on.
          ap (λ x. told family (after at f) (items x)) left_is
          ∙ told_past (after at f)
          ∙ ap (λ n. told family n (items (drop n b))) (sym on);
    }

    goes_on : (t : Told) (rest : List Told) → IsFirst family b (after at f) t rest → IsFirst family b at t rest
    goes_on t rest first = record {
      starts = first.starts;
      memory = first.memory;
      behind = omega (arith, first.behind);
      inside = first.inside;
      others = first.others;
    }

    finds_by : (r : Result LinkAttribute Cause) → (attribute_place family).reads f ≡ r → Finds left (items left)
        → IsBytes d → (t : Told) (rest : List Told)
        → told_on family at f r (told family (after at f) (items left)) ≡ t ∷ rest → IsFirst family b at t rest
    finds_by (Ok v) reads more small t rest found =
        goes_on t rest (more (step_rest_bytes d f left small e) (after at f) left_is t rest found)
    finds_by (Err c) reads more small t rest found =
        first_is (IsFirst family b at) (told_of family at (Some f) c) t (told family (after at f) (items left)) rest
        found
        (refused_first small c reads)

  finds : (d : List ℕ) → Finds d (items d)
  finds d = items_case Finds finds_end finds_fault
      (λ d f left e more small at is t rest found.
      finds_by d f left e at is ((attribute_place family).reads f) refl more small t rest found) d

-- ** as C is told

-- the place that C is told is where the walk goes on
goes_on_there : (b : List ℕ) (at next n : ℕ) (f : Option Frame) (a : Attribute) → TellsFrame b at f next n a
    → GoesOn b at f next
goes_on_there b at next n None a h = h.2
goes_on_there b at next n (Some f) a (one, is, s) =
    let size : length f.payload ≡ a.payload_len =
    ap (λ (g : Frame). length g.payload) (sym is)
    ∙ length-take-le a.payload_len (drop a.payload b) (omega (arith, s.within, length-drop a.payload b)) in
    s.next_is ∙ ap (λ n. min n (length b)) (rw size (omega arith))

-- that place is behind the header
behind_header : (b : List ℕ) (at next : ℕ) (f : Option Frame) → header_size ≤ at → at < length b → GoesOn b at f next
    → max next header_size ≡ next
behind_header b at next None late inside on = omega arith
behind_header b at next (Some f) late inside on = omega arith

dropped_bytes : (b : List ℕ) (n : ℕ) → IsBytes b → IsBytes (drop n b)
dropped_bytes b n small = bytes_right (take n b) (drop n b) (subst IsBytes (sym (take-append-drop n b)) small)

-- what is told first, and where the walk goes on
pub told_next : (b : List ℕ) (at next : ℕ) (t : Told) (rest : List Told) (r : Refused) → IsBytes b
    → told_from b at ≡ t ∷ rest → (StartsAs b t.offset t.frame → Tells b t next r) → IsToldAt b at next t r
unfolding told_from
told_next b at next t rest r small found tells =
    let family = (header_of (take header_size b)).interface_family in
    let start : ℕ = max at header_size in
    let first : IsFirst family b start t rest =
    finds family b (drop start b) (dropped_bytes b start small) start refl t rest found in
    let told_is : Tells b t next r = tells first.starts in
    let on : GoesOn b t.offset t.frame next =
    goes_on_there b t.offset next r.is_attribute t.frame r.attribute told_is.frame in
    let same : max next header_size ≡ next =
    behind_header b t.offset next t.frame (omega (arith, first.behind)) first.inside on in
    let others : rest ≡ told family (max next header_size) (items (drop (max next header_size) b)) =
    first.others next on ∙ ap (λ n. told family n (items (drop n b))) (sym same) in
    record {
      told = found ∙ ap (λ ts. t ∷ ts) others;
      tells = told_is;
      memory = first.memory;
    }

-- ** a walk

walks_from : (b : List ℕ) (at : ℕ) (ts : List Told) → Walks b at ts → ts ≡ told_from b at
walks_from b at [] ended = sym ended
walks_from b at (t ∷ ts) (next, r, is, more) = ap (λ us. t ∷ us) (walks_from b next ts more) ∙ sym is.told

from_start : (b : List ℕ) → told_from b 0 ≡ told_all b
unfolding told_from told_all
from_start b = refl

pub walk_tells_all : WalkTellsAll
walk_tells_all b ts walks = walks_from b 0 ts walks ∙ from_start b
