-- What is said of bytes that have a fault.
use Rattle.std.proofs.Common.{◌≡◌, ◌⊎◌, ℕ, false, ◌<◌, ◌≤◌, arith, List, [], ◌∷◌, inl, inr, refl, sym, subst, length}
use Rattle.std.proofs.Common.{◌∙◌}
use Rattle.std.specs.Prelude.{Err, codes}
use Rattle.std.specs.List.{AllByRecursion}
use Rattle.nla_wire.specs.declared.error.Cause.{Cause}
use Rattle.nla_wire.specs.Frames.{Frame}
use Rattle.nla_wire.specs.Grammar.{Every}
use Rattle.link_vals.specs.declared.address_family.AddressFamily.{AddressFamily}
use Rattle.link_msg.specs.BeforeFault.{ReadsBefore}
use Rattle.link_msg.specs.FaultAt.{FaultsAt}
use Rattle.link_msg.specs.Header.{header_size}
use Rattle.link_msg.specs.Messages.{FirstFault}
use Rattle.link_msg.specs.Nested.{Accepts}
use Rattle.link_msg.specs.Tables.{attribute_place}
use Rattle.link_msg.specs.declared.attribute.LinkAttribute.{LinkAttribute}
use Rattle.link_msg.specs.declared.message.LinkMessage.{LinkMessage}
use Rattle.link_msg.proofs.Reading.{message_agrees}
use Rattle.shown.specs.Drafts.{Members}
use Rattle.shown.specs.Values.{numbered}
use Rattle.frame_shown.specs.Accepted.{before_members}
use Rattle.message_shown.specs.Faults.{AreBefore, AreBehind}
use Rattle.message_shown.specs.declared.context.Context.{Context}

-- bytes have one fault
same_cause : (b : List ℕ) (c d : Cause) → FirstFault b c → FirstFault b d → c ≡ d
same_cause b c d h k =
    let same : Err c ≡ Err d = sym (message_agrees.refused b c h) ∙ message_agrees.refused b d k in cc

-- attributes that are accepted have values
values_of : (family : AddressFamily) (fs : List Frame)
    → AllByRecursion (Accepts false (attribute_place family)) fs
    → (vs : List LinkAttribute) × Every (attribute_place family).means fs vs
values_of family [] each = ([], tt)
values_of family (f ∷ fs) each =
    let v = each.0 refl in
    let more = values_of family fs each.1 in
    (v.0 ∷ more.0, (v.1, more.1))

-- a message is read in front of a fault, where there is a header
reads_before : (b : List ℕ) (c : Cause) (at : ℕ) → header_size ≤ length b → FaultsAt b c at
    → (m : LinkMessage) × ReadsBefore b c m
reads_before b c at long (numbers, inl short) = absurd (omega (arith, long, short.0))
reads_before b c at long (numbers, inr after) =
    let fault = after.inside.2 in
    let values = values_of after.fields.interface_family fault.frames fault.accepted in (
      record { header = after.fields; attributes = values.0 },
      record {
        header = after.header;
        attributes = after.attributes;
        parts = after.parts;
        says = after.says;
        at = after.inside.0;
        frame = after.inside.1;
        fault = fault;
        before = (fault.frames, fault.spelt, values.1);
      },
    )

before_found : (cx : Context) (b : List ℕ) (c : Cause) (at : ℕ) (ms : Members) → FaultsAt b c at
    → ((length b < header_size) × (ms ≡ [])) ⊎ ((header_size ≤ length b) × (ms ≡ before_members cx.around b))
    → AreBefore cx b c ms
before_found cx b c at ms there (inl short) = inl short
before_found cx b c at ms there (inr (long, is)) =
    let read = reads_before b c at long there in inr (read.0, read.1, is)

pub behind_found : (cx : Context) (b : List ℕ) (c : Cause) (at : ℕ) (before : Members) → FirstFault b c
    → (d : Cause) × FirstFault b d × FaultsAt b d at
    → ((length b < header_size) × (before ≡ []))
    ⊎ ((header_size ≤ length b) × (before ≡ before_members cx.around b))
    → AreBehind cx b c (numbered (codes "offset") at ∷ before)
behind_found cx b c at before fault (d, other, there) reads =
    let here : FaultsAt b c at = subst (λ x. FaultsAt b x at) (same_cause b d c other fault) there in
    (at, before, here, before_found cx b c at before here reads, refl)
