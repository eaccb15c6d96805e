-- The first fault of a message's attributes is that of the message.
use Rattle.std.proofs.Common.{◌≡◌, ℕ, ◌+◌, ◌<◌, ◌≤◌, inl, inr, List, [], ◌∷◌, ◌++◌, length, take, drop, refl, sym, ap}
use Rattle.std.proofs.Common.{◌∙◌, subst, arith, length-append, false, Some}
use Rattle.std.specs.List.{AllByRecursion}
use Rattle.nla_wire.specs.Frames.{Frame}
use Rattle.nla_wire.specs.Grammar.{Grammar, list, Every}
use Rattle.nla_wire.specs.declared.error.Cause.{Cause}
use Rattle.nla_wire.specs.declared.error.Cause.TheVariants.{TooShort}
use Rattle.link_msg.specs.Header.{header_size, header_of, IsHeader}
use Rattle.link_msg.specs.Tables.{attribute_place}
use Rattle.link_msg.specs.Messages.{Means, FirstFault, MeansNothing}
use Rattle.link_msg.specs.Nested.{Accepts, in_attribute, outermost}
use Rattle.link_msg.specs.FaultAt.{AllAccepted, FaultIn}
use Rattle.link_msg.specs.FaultPath.{numbers_to, IsPathIn, IsPathOf}
use Rattle.link_msg.specs.declared.fault_path.FaultPath.{FaultPath}
use Rattle.link_msg.specs.declared.attribute.LinkAttribute.{LinkAttribute}
use Rattle.link_msg.specs.declared.header.LinkHeader.{LinkHeader}
use Rattle.link_msg.specs.declared.message.LinkMessage.{LinkMessage}
use Rattle.link_msg.proofs.MessagesBy.{parts, is_header}
use Rattle.link_msg.proofs.Reading.{message_agrees}
use Rattle.link_msg.proofs.Sound.{first_of}

-- what has a fault means nothing
pub refused_means_none : (b : List ℕ) (c : Cause) → FirstFault b c → MeansNothing b
refused_means_none b c refused m means =
    let clash = sym (message_agrees.refused b c refused) ∙ message_agrees.only b m means in absurd cc

-- a list of which all is accepted has values
values_of : {V : Type 0} (place : Grammar Frame V) (fs : List Frame) → AllByRecursion (Accepts false place) fs
    → (vs : List V) × Every place.means fs vs
values_of place [] h = ([], tt)
values_of place (f ∷ fs) h =
    let v = h.0 refl in
    let more = values_of place fs h.1 in
    (v.0 ∷ more.0, (v.1, more.1))

pub accepted_values : {V : Type 0} (place : Grammar Frame V) (b : List ℕ) → AllAccepted (Accepts false place) b
    → (vs : List V) × (list place).means b vs
accepted_values place b h = let values = values_of place h.0 h.2 in (values.0, (h.0, h.1, values.1))

-- what is known of a fault, once the way to it is
abbrev pub Told : List ℕ → FaultPath → Type 0
Told b p = IsPathOf b (Some p) × MeansNothing b × (p.offset ≤ length b)

pub told_short : (b : List ℕ) → length b < header_size → (p : FaultPath) → p.offset ≡ 0 → numbers_to p ≡ [] → Told b p
told_short b short p place none =
    let cause = TooShort (length b) header_size in
    let refused : FirstFault b cause = inl (short, refl) in
    ((cause, refused, inl (short, refl, place, none)), refused_means_none b cause refused, omega (arith, place))

module _ (b : List ℕ) (v : LinkHeader) (d : List ℕ) (long : header_size ≤ length b)
    (says : v ≡ header_of (take header_size b)) (left : d ≡ drop header_size b) where
  abbrev front : List ℕ
  front = take header_size b

  pub front_parts : b ≡ front ++ d
  front_parts = parts b long ∙ ap (λ (x : List ℕ). take header_size b ++ x) (sym left)

  pub front_says : IsHeader front v
  front_says = record { size = (is_header b long).size; says = says }

  front_size : length b ≡ header_size + length d
  front_size = omega (arith, ap (λ (x : List ℕ). length x) front_parts, length-append front d, front_says.size)

  -- all attributes are read
  pub told_none : (vs : List LinkAttribute) → (list (attribute_place v.interface_family)).means d vs
      → (m : LinkMessage) × Means b m
  told_none vs means = (record { header = v; attributes = vs }, (front, d, front_parts, front_says, means))

  pub told_path : (most : ℕ) (inner : FaultPath) → IsPathIn (outermost v.interface_family) d most (Some inner)
      → (p : FaultPath) → p.offset ≡ header_size + inner.offset → numbers_to p ≡ numbers_to inner → Told b p
  told_path most inner (deep, within, (c, fault)) p place numbers =
      let first = first_of (attribute_place v.interface_family) (in_attribute v.interface_family) d c inner.offset
      (numbers_to inner) fault in
      let refused : FirstFault b c = inr (front, d, v, front_parts, front_says, first) in (
        (
          c,
          refused,
          inr (record {
            header = front;
            fields = v;
            attributes = d;
            parts = front_parts;
            says = front_says;
            inner = inner.offset;
            inside = subst (λ ns. FaultIn (outermost v.interface_family) d c inner.offset ns) (sym numbers) fault;
            place = place;
          }),
        ),
        refused_means_none b c refused,
        omega (arith, front_size, place, within),
      )
