-- What stands in front of the first fault of a message's attributes.
use Rattle.std.proofs.Common.{◌≡◌, ℕ, ◌≤◌, List, ◌++◌, length, take, drop, inr, sym, ap, ◌∙◌, subst}
use Rattle.std.proofs.Common.{false, Option, Some, None, append-nil}
use Rattle.std.proofs.Math.Seq.{take-append_seam}
use Rattle.nla_wire.specs.Frames.{Frame}
use Rattle.nla_wire.specs.Grammar.{list}
use Rattle.nla_wire.specs.declared.error.Cause.{Cause}
use Rattle.nla_wire.specs.declared.error.DecodeError.{DecodeError}
use Rattle.nla_wire.proofs.Lists.{list_agrees}
use Rattle.link_vals.specs.declared.address_family.AddressFamily.{AddressFamily}
use Rattle.link_msg.specs.Header.{header_size, header_of}
use Rattle.link_msg.specs.Tables.{attribute_place, attribute_lawful}
use Rattle.link_msg.specs.Nested.{Accepts}
use Rattle.link_msg.specs.FaultAt.{AllAccepted}
use Rattle.link_msg.specs.BeforeFault.{FaultOf, IsFront, IsBefore}
use Rattle.link_msg.specs.declared.attribute.LinkAttribute.{LinkAttribute}
use Rattle.link_msg.specs.declared.header.LinkHeader.{LinkHeader}
use Rattle.link_msg.proofs.Faults.{accepted_values, front_parts, front_says}
use Rattle.link_msg.proofs.Sound.{first_there}

module _ (family : AddressFamily) (d : List ℕ) (n : ℕ) where
  -- attributes with a first fault mean nothing
  pub fault_refused : (c : Cause) (frame : Option Frame) → FaultOf family d c n frame → (vs : List LinkAttribute)
      → (list (attribute_place family)).means d vs → ⊥
  fault_refused c frame fault vs means =
      let agrees = list_agrees (attribute_place family) (attribute_lawful family).agrees in
      let clash = sym (agrees.only d vs means)
      ∙ agrees.refused d c (first_there (attribute_place family) d c n frame fault) in absurd cc

  -- and are refused for its cause
  pub fault_named : (c e : Cause) (frame : Option Frame) → FaultOf family d c n frame
      → (list (attribute_place family)).bad d e → FaultOf family d e n frame
  fault_named c e frame fault bad =
      let agrees = list_agrees (attribute_place family) (attribute_lawful family).agrees in
      let same = sym (agrees.refused d c (first_there (attribute_place family) d c n frame fault))
      ∙ agrees.refused d e bad in
      let cause : c ≡ e = cc in
      subst (λ x. FaultOf family d x n frame) cause fault

  -- what stands in front has values
  front_of_fault : (c : Cause) (frame : Option Frame) (fault : FaultOf family d c n frame) → take n d ≡ fault.before
  front_of_fault c frame fault =
      ap (λ (x : List ℕ). take n x) fault.parts
      ∙ ap (λ k. take k (fault.before ++ fault.later)) fault.at_end
      ∙ take-append_seam fault.before fault.later

  whole_front : n ≡ length d → take n d ≡ d
  whole_front is =
      ap (λ k. take k d) is ∙ ap (λ (x : List ℕ). take (length d) x) (sym (append-nil d)) ∙ take-append_seam d _

  pub front_means : (fault : Option DecodeError) → IsFront family d n fault
      → (vs : List LinkAttribute) × (list (attribute_place family)).means (take n d) vs
  front_means None (all, whole) =
      let values = accepted_values (attribute_place family) d all in
      (values.0, subst (λ x. (list (attribute_place family)).means x values.0) (sym (whole_front whole)) values.1)
  front_means (Some e) (frame, fault) =
      let all : AllAccepted (Accepts false (attribute_place family)) fault.before =
      (fault.frames, fault.spelt, fault.accepted) in
      let values = accepted_values (attribute_place family) fault.before all in (
        values.0,
        subst (λ x. (list (attribute_place family)).means x values.0) (sym (front_of_fault e.cause frame fault))
            values.1,
      )

module _ (b : List ℕ) (v : LinkHeader) (d : List ℕ) (long : header_size ≤ length b)
    (says : v ≡ header_of (take header_size b)) (left : d ≡ drop header_size b) where
  -- the message that was read in front of the fault
  pub read_before : (n : ℕ) (fault : Option DecodeError) → IsFront v.interface_family d n fault
      → (vs : List LinkAttribute) → (list (attribute_place v.interface_family)).means (take n d) vs
      → IsBefore b (record { header = v; attributes = vs }) fault
  read_before n None (all, whole) vs means = (
    take header_size b,
    d,
    front_parts b v d long says left,
    front_says b v d long says left,
    subst (λ x. (list (attribute_place v.interface_family)).means x vs) (whole_front v.interface_family d n whole)
        means,
  )
  read_before n (Some e) (frame, fault) vs means = (
    inr (
      take header_size b,
      d,
      v,
      front_parts b v d long says left,
      front_says b v d long says left,
      first_there (attribute_place v.interface_family) d e.cause n frame fault,
    ),
    record {
      header = take header_size b;
      attributes = d;
      parts = front_parts b v d long says left;
      says = front_says b v d long says left;
      at = n;
      frame = frame;
      fault = fault;
      before = subst (λ x. (list (attribute_place v.interface_family)).means x vs)
          (front_of_fault v.interface_family d n e.cause frame fault) means;
    },
  )
