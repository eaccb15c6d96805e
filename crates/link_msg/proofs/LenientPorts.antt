-- Empty lists of ports among what is read leniently.
use Rattle.std.proofs.Common.{◌≡◌, ◌≢◌, ℕ, List, [], ◌∷◌, ◌++◌, length, refl, sym, ap, ◌∙◌, subst, arith}
use Rattle.std.proofs.Common.{Result, Ok, Err, Some, None, Bool, true, false, append-nil, append_assoc}
use Rattle.std.proofs.Common.{lit≤}
use Rattle.std.specs.List.{AllByRecursion}
use Rattle.nla_wire.specs.Frames.{Frame, number, IsFrame}
use Rattle.nla_wire.specs.Reading.{list_of, with_front}
use Rattle.nla_wire.specs.Items.{Item, items, read_items}
use Rattle.nla_wire.specs.Canon.{Weighs, canons, AllFit}
use Rattle.nla_wire.specs.declared.error.Cause.{Cause}
use Rattle.nla_wire.proofs.Loop.{items_start, items_more}
use Rattle.nla_wire.proofs.Written.{all_here, all_more}
use Rattle.link_vals.specs.declared.address_family.AddressFamily.{AddressFamily}
use Rattle.link_msg.specs.Tables.{attribute_frame, AttributeFits, NotEmptyPorts, attribute_view}
use Rattle.link_msg.specs.Tables.{attribute_place, attribute_lawful, attribute_number}
use Rattle.link_msg.specs.Canonical.{ListWeighs}
use Rattle.link_msg.specs.Lenient.{kept_if_bad, lenient_place, TellsPorts}
use Rattle.link_msg.specs.declared.attribute.LinkAttribute.{LinkAttribute}
use Rattle.link_msg.specs.declared.attribute.LinkAttribute.TheVariants as Attributes
use Rattle.link_msg.specs.declared.numbers.TheConstants.{IFLA_VF_PORTS}
use Rattle.link_msg.proofs.EmptyPorts.{no_ports, some_ports}

-- a value that is read leniently is read, or is the frame
either : (f : Frame) (r : Result LinkAttribute Cause) (v : LinkAttribute)
    → kept_if_bad (Attributes.Other f) r ≡ Ok v → (P : LinkAttribute → Type 0)
    → (r ≡ Ok v → P v) → P (Attributes.Other f) → P v
either f (Ok w) v e P read kept = let same : w ≡ v = cc in read (ap (λ x. Ok x) same)
either f (Err c) v e P read kept = let same : Attributes.Other f ≡ v = cc in subst P same kept

-- what does not fit is no empty list of ports
unfit_ports : (v : LinkAttribute) → (AttributeFits v → ⊥) → NotEmptyPorts v
unfolding attribute_view
unfit_ports (Attributes.VfPorts []) unfit = absurd (unfit (lit≤ tt, (tt, omega arith)))
unfit_ports (Attributes.VfPorts (p ∷ ps)) unfit = omega arith
unfit_ports _ unfit = tt

module _ (family : AddressFamily) (f : Frame) (one : IsFrame f) (v : LinkAttribute)
    (read : (lenient_place family).reads f ≡ Ok v) where
  -- of another number
  pub other_number : number f ≢ IFLA_VF_PORTS → NotEmptyPorts v
  other_number other =
      either f ((attribute_place family).reads f) v read NotEmptyPorts (λ is.
      some_ports v (λ k.
      other (sym (attribute_number family f v ((attribute_lawful family).agrees.found f v one is)) ∙ k.0))) tt

  -- measured
  pub measured_ports : (n : ℕ) → number f ≡ IFLA_VF_PORTS
      → Weighs (λ w. (attribute_frame w).payload) AttributeFits ((attribute_place family).reads f) (Some n)
      → (n ≡ 0 → NotEmptyPorts v → ⊥) × (n ≢ 0 → NotEmptyPorts v)
  measured_ports n is w = by ((attribute_place family).reads f) refl w where
    by : (r : Result LinkAttribute Cause) → (attribute_place family).reads f ≡ r
        → Weighs (λ w. (attribute_frame w).payload) AttributeFits r (Some n)
        → (n ≡ 0 → NotEmptyPorts v → ⊥) × (n ≢ 0 → NotEmptyPorts v)
    by (Ok w) e weighs =
        let same : w ≡ v = (let k : kept_if_bad (Attributes.Other f) (Ok w) ≡ Ok v =
        ap (kept_if_bad (Attributes.Other f)) (sym e) ∙ read in cc) in
        let reads : (attribute_place family).reads f ≡ Ok v = e ∙ ap (λ x. Ok x) same in
        let size : n ≡ length (attribute_frame v).payload =
        weighs.1 ∙ ap (λ x. length (attribute_frame x).payload) same in (
          λ none. no_ports family f v reads is (sym size ∙ none),
          λ some. some_ports v (λ k. some (size ∙ k.1)),
        )
    by (Err c) e weighs = absurd weighs

  -- not measured
  pub unmeasured_ports : Weighs (λ w. (attribute_frame w).payload) AttributeFits ((attribute_place family).reads f) None
      → NotEmptyPorts v
  unmeasured_ports w =
      either f ((attribute_place family).reads f) v read NotEmptyPorts (λ is.
      let unfit : AttributeFits v → ⊥ =
      subst (λ r. Weighs (λ w. (attribute_frame w).payload) AttributeFits r None) is w in
      unfit_ports v unfit) tt

-- ** a walk over attributes

-- those in front are no empty lists of ports
pub record Going (family : AddressFamily) (b : List ℕ) (left : List Item) : Type 0 where
  pub front : List LinkAttribute
  pub so_far : with_front front (read_items (lenient_place family).reads left) ≡ list_of (lenient_place family).reads b
  pub ports : AllByRecursion NotEmptyPorts front

pub going_starts : (family : AddressFamily) (b : List ℕ) (left : List Item) → left ≡ items b → Going family b left
going_starts family b left is = record {
  front = [];
  so_far = ap (λ (xs : List Item). with_front [] (read_items (lenient_place family).reads xs)) is
      ∙ items_start (lenient_place family).reads b;
  ports = tt;
}

module _ (family : AddressFamily) (b : List ℕ) (left : List Item) (h : Going family b left) where
  -- bytes that are no frame
  pub going_faults : (c : Cause) (rest : List Item) → left ≡ Err c ∷ rest → TellsPorts family b false
  going_faults c rest is vs read =
      let whole : with_front h.front (read_items (lenient_place family).reads (Err c ∷ rest)) ≡ Ok vs =
      ap (λ (xs : List Item). with_front h.front (read_items (lenient_place family).reads xs)) (sym is)
      ∙ h.so_far ∙ read in absurd cc

  pub going_ends : left ≡ [] → TellsPorts family b false
  going_ends is vs read =
      let whole : with_front h.front (read_items (lenient_place family).reads []) ≡ Ok vs =
      ap (λ (xs : List Item). with_front h.front (read_items (lenient_place family).reads xs)) (sym is)
      ∙ h.so_far ∙ read in
      let same : h.front ++ [] ≡ vs = cc in
      subst (AllByRecursion NotEmptyPorts) (sym (append-nil h.front) ∙ same) h.ports

  module _ (f : Frame) (rest : List Item) (is : left ≡ Ok f ∷ rest) where
    -- each frame has a value
    value : (v : LinkAttribute) × ((lenient_place family).reads f ≡ Ok v)
    value = by ((attribute_place family).reads f) refl where
      by : (r : Result LinkAttribute Cause) → (attribute_place family).reads f ≡ r
          → (v : LinkAttribute) × ((lenient_place family).reads f ≡ Ok v)
      by (Ok v) e = (v, ap (kept_if_bad (Attributes.Other f)) e)
      by (Err c) e = (Attributes.Other f, ap (kept_if_bad (Attributes.Other f)) e)

    onward : with_front (h.front ++ value.0 ∷ []) (read_items (lenient_place family).reads rest)
        ≡ list_of (lenient_place family).reads b
    onward = items_more (lenient_place family).reads h.front left (list_of (lenient_place family).reads b) h.so_far f
        rest value.0 is value.1

    pub going_on : ((v : LinkAttribute) → (lenient_place family).reads f ≡ Ok v → NotEmptyPorts v)
        → Going family b rest
    going_on some = record {
      front = h.front ++ value.0 ∷ [];
      so_far = onward;
      ports = all_more NotEmptyPorts h.front value.0 h.ports (some value.0 value.1);
    }

    pub going_stops : ((v : LinkAttribute) → (lenient_place family).reads f ≡ Ok v → NotEmptyPorts v → ⊥)
        → TellsPorts family b true
    going_stops none vs read all =
        by (read_items (lenient_place family).reads rest) (onward ∙ read) where
          by : (r : Result (List LinkAttribute) Cause) → with_front (h.front ++ value.0 ∷ []) r ≡ Ok vs → ⊥
          by (Ok ws) e =
              let same : (h.front ++ value.0 ∷ []) ++ ws ≡ vs = cc in
              none value.0 value.1 (all_here NotEmptyPorts h.front value.0 ws
              (subst (AllByRecursion NotEmptyPorts) (sym same ∙ append_assoc h.front (value.0 ∷ []) ws) all))
          by (Err c) e = absurd cc

-- ** weighed

pub list_weighed : (family : AddressFamily) (d : List ℕ) (r : Result (List LinkAttribute) Cause) (n : ℕ) (empty : Bool)
    → (list_of (lenient_place family).reads d ≡ r)
    → Weighs (canons attribute_frame) (AllFit AttributeFits attribute_frame) r (Some n)
    → TellsPorts family d empty → ListWeighs r (Some (n, empty))
list_weighed family d (Ok vs) n empty is w tells = (w.0, w.1, tells vs is)
list_weighed family d (Err c) n empty is w tells = absurd w

pub list_unweighed : (r : Result (List LinkAttribute) Cause)
    → Weighs (canons attribute_frame) (AllFit AttributeFits attribute_frame) r None → ListWeighs r None
list_unweighed (Ok vs) w = w
list_unweighed (Err c) w = tt
